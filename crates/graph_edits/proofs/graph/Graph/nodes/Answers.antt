use Rattle.std.proofs.Common.{◌≡◌, ◌+◌, subst}
use Rattle.std.specs.FinMap.{len}
use Rattle.graph_edits.specs.Edges.{IsSound, all_degrees}
use Rattle.graph_edits.proofs.Networks.{sound_rows, degrees_rows}
use Rattle.graph_edits.proofs.graph.Graph.nodes.Goals as goal

pub returns-clause-sound : goal.returns-clause-sound
returns-clause-sound c = subst IsSound c.self.view_is (sound_rows _ _ c.self.invariant)

pub returns-clause-degrees : goal.returns-clause-degrees
returns-clause-degrees c = subst (λ g. all_degrees g ≡ len g.edges + len g.edges) c.self.view_is (degrees_rows _ _ c.self.invariant)
