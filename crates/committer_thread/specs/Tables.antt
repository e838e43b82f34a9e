-- What a build makes of a graph.
use Rattle.std.specs.Prelude.{◌≡◌}
use Rattle.schemes.specs.declared.parts.Parts.{Parts}
use Rattle.schemes.specs.Tables.{tables}
use Rattle.schemes.specs.Service.{Serves}
use Rattle.layout_2.specs.State.{State}
use Rattle.service_actors.specs.declared.graphs.GenerationGraph.{GenerationGraph}

-- The scheme serves the graph, under the number of its generation.
pub record IsBuiltOf (of : GenerationGraph) (scheme : Parts) : Type 0 where
  pub named : scheme.generation ≡ of.generation
  pub serves : Serves of.graph (tables scheme)

-- The graph is that of a state, and its generation is the state's count.
pub record IsGraphOf (state : State) (of : GenerationGraph) : Type 0 where
  pub number : of.generation ≡ state.count
  pub graph : of.graph ≡ state.graph
