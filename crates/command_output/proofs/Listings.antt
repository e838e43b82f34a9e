-- Listings that grow row by row.
use Rattle.std.proofs.Common.{◌≡◌, ◌+◌, ◌∙◌, ap, arith, ℕ, suc, List, ◌++◌}
use Rattle.std.specs.List.{flat_map}
use Rattle.std.specs.FinMap.{entries}
use Rattle.std.proofs.lemmas.List.{flat_map_more}
use Rattle.graph_edits.specs.Edges.{Network, below, neighbours_of, IsSound}
use Rattle.graph_edits.proofs.EdgeRows.{sound_rows_are_entries}
use Rattle.command_output.specs.Lines.{edge_line, line_up}

-- the edges of the nodes below n, each in the row of its smaller node
abbrev pub lines_below : Network → ℕ → List ℕ
lines_below graph n = flat_map (λ node. flat_map (line_up node) (neighbours_of graph node)) (below n)

-- one node more
pub lines_more : (old : List ℕ) (graph : Network) (n : ℕ) → (old ++ lines_below graph n) ++ flat_map (line_up n) (neighbours_of graph n) ≡ old ++ lines_below graph (n + 1)
lines_more old graph n =
    let next : suc n ≡ n + 1 = omega arith in
    flat_map_more (λ node. flat_map (line_up node) (neighbours_of graph node)) old (below n) n ∙ ap (λ m. old ++ lines_below graph m) next

-- the rows of all nodes
pub all_lines : (graph : Network) → IsSound graph → lines_below graph graph.nodes ≡ flat_map edge_line (entries graph.edges)
all_lines graph sound = sound_rows_are_entries edge_line graph sound
