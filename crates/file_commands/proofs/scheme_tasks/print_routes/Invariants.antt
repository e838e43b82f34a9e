use Rattle.std.proofs.Common.{take}
use Rattle.std.specs.Io.KnownBytes.{Appends}
use Rattle.file_commands.specs.SchemeAnswers.{routes_text}
use Rattle.file_commands.proofs.scheme_tasks.print_routes.Given as goal

abbrev pub invariant-loop-route : goal.invariant-loop-route
invariant-loop-route g l = record {
  printed : Appends (g.O.Write.contents l.fn.out) (g.O.Write.contents l.out) (routes_text l.generation (take l.route-index l.routes));
}
