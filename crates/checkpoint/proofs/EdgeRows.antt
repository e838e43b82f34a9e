-- The text of a network's edges, node by node.
use Rattle.std.proofs.Common.{◌≡◌, ◌∙◌, ap, refl, ℕ, zero, suc, List, [], ◌++◌}
use Rattle.std.specs.List.{flat_map}
use Rattle.std.proofs.lemmas.List.{flat_map_more}
use Rattle.graph_edits.specs.Edges.{Network, below, neighbours_of}
use Rattle.graph_edits.proofs.EdgeRows.{rows_are_entries}
use Rattle.layout_reader.specs.EdgeTexts.{edge_text, edges_text}
use Rattle.layout_2.specs.State.{IsLawful}
use Rattle.checkpoint.specs.Rolling.{up_text}

-- the edges of the first nodes to greater ones
abbrev pub rows_text : Network → ℕ → List ℕ
rows_text g zero = []
rows_text g (suc x) = rows_text g x ++ flat_map (λ e. up_text x e) (neighbours_of g x)

-- the same as one list of rows
same_rows : (g : Network) (n : ℕ) → rows_text g n ≡ flat_map (λ node. flat_map (λ e. up_text node e) (neighbours_of g node)) (below n)
same_rows g zero = refl
same_rows g (suc n) =
    ap (λ (l : List ℕ). l ++ flat_map (λ e. up_text n e) (neighbours_of g n)) (same_rows g n)
    ∙ flat_map_more (λ node. flat_map (λ e. up_text node e) (neighbours_of g node)) [] (below n) n

-- the rows of all nodes are the edges
pub all_rows : (g : Network) → IsLawful g → rows_text g g.nodes ≡ edges_text g.edges
all_rows g lawful = same_rows g g.nodes ∙ rows_are_entries edge_text g (λ q w is. let e = lawful.each q w is in (e.0, e.1))
