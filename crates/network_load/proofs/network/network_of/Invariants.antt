use Rattle.std.proofs.Common.{take}
use Rattle.network_load.specs.Networks.{HoldsJust}
use Rattle.network_load.proofs.network.network_of.Given as goal

abbrev pub invariant-loop-place : goal.invariant-loop-place
invariant-loop-place l = HoldsJust l.nodes (take l.place l.edges) l.graph
