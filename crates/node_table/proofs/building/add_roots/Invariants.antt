use Rattle.std.proofs.Common.{◌≡◌, length}
use Rattle.node_table.specs.Building.{IsBuiltFrom}
use Rattle.node_table.proofs.building.add_roots.Given as goal

abbrev pub invariant-loop-root : goal.invariant-loop-root
invariant-loop-root g l = IsBuiltFrom l.survey l.parts l.first l.root × (l.workspace.nodes ≡ l.survey.graph.now.nodes) × (length l.places ≡ l.survey.graph.now.nodes)
