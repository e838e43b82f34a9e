-- The edges of a lawful network, as a list and as a map.
use Rattle.std.proofs.Common.{◌≡◌, ℕ, ◌^◌, ◌≤◌, List, [], ◌∷◌, Some, sym, ◌∙◌, arith}
use Rattle.std.specs.List.{AllByRecursion}
use Rattle.std.specs.FinMap.{get, entries, entries_sorted, get-entries}
use Rattle.graph_edits.specs.Edges.{EdgeMap, pair_cmp}
use Rattle.graph_edits.proofs.EdgesOfRows.{pair_total, pair_same}
use Rattle.layout_reader.specs.EdgeTexts.{IsEdge}
use Rattle.layout_reader.proofs.Codes.{edge_form}
use Rattle.layout_reader.proofs.Entries.{all_entries, found_one}

pub all_edges : (n : ℕ) (edges : EdgeMap) → ((q : ℕ × ℕ) (w : ℕ) → get edges q ≡ Some w → IsEdge n (q, w)) → AllByRecursion (λ e. IsEdge n e) (entries edges)
all_edges n edges each = all_entries pair_cmp pair_total pair_same (λ q w. IsEdge n (q, w)) (entries edges) (entries_sorted edges) (λ q w is. each q w (get-entries edges q ∙ is))

pub each_edge : (n : ℕ) (edges : EdgeMap) → AllByRecursion (λ e. IsEdge n e) (entries edges) → (q : ℕ × ℕ) (w : ℕ) → get edges q ≡ Some w → IsEdge n (q, w)
each_edge n edges all q w is = found_one pair_cmp pair_total pair_same (λ q w. IsEdge n (q, w)) (entries edges) all q w (sym (get-entries edges q) ∙ is)

pub edges_fit : (n : ℕ) → n ≤ 2 ^ 16 → (es : List ((ℕ × ℕ) × ℕ)) → AllByRecursion (λ e. IsEdge n e) es → AllByRecursion edge_form.Fits es
edges_fit n few [] all = tt
edges_fit n few (e ∷ es) all = (((omega (arith, few, all.0.0, all.0.1), omega (arith, few, all.0.1)), omega (arith, all.0.3)), edges_fit n few es all.1)
