use Rattle.std.proofs.Common.{◌≡◌, take}
use Rattle.file_commands.specs.SchemeAnswers.{AreRoutesUnder}
use Rattle.file_commands.proofs.routing.routes_between.Given as goal

abbrev pub invariant-loop-pair : goal.invariant-loop-pair
invariant-loop-pair l = record {
  kept : l.routes ≡ l.fn.routes;
  found : AreRoutesUnder l.fn.routes.graph l.fn.routes.flags (take l.pair-index l.pairs) l.found.items;
}
