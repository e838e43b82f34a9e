-- The nodes of edges, one after another.
use Rattle.std.proofs.Common.{◌≡◌, ℕ, ◌+◌, ◌<◌, List, [], ◌∷◌, ◌++◌, length, get_or, take, max, ap, ◌∙◌, arith}
use Rattle.std.proofs.lemmas.List.{take_more}
use Rattle.network_load.specs.declared.list.Edge.{Edge}
use Rattle.network_load.specs.Loads.{nodes_in}

last_counts : (edges : List Edge) (edge : Edge) → nodes_in (edges ++ edge ∷ []) ≡ max (nodes_in edges) (max edge.a edge.b + 1)
last_counts [] edge = omega arith
last_counts (e ∷ es) edge = omega (arith, last_counts es edge)

pub nodes_to : (edges : List Edge) (place : ℕ) (edge : Edge) → place < length edges → nodes_in (take (place + 1) edges) ≡ max (nodes_in (take place edges)) (max (get_or edges place edge).a (get_or edges place edge).b + 1)
nodes_to edges place edge within = ap nodes_in (take_more edges place edge within) ∙ last_counts (take place edges) (get_or edges place edge)
