use Rattle.std.proofs.Common.{◌≡◌, take, true}
use Rattle.std.specs.List.{list_all}
use Rattle.file_commands.specs.SchemeAnswers.{is_along}
use Rattle.file_commands.proofs.scheme_tasks.ended_after.Given as goal

abbrev pub invariant-loop-route : goal.invariant-loop-route
invariant-loop-route l = record { along : list_all is_along (take l.route-index l.routes) ≡ true }
