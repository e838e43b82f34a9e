-- What an op that is not refused makes of rows.
use Rattle.std.proofs.Common.{◌≡◌, ◌≢◌, ◌+◌, ◌-◌, ℕ, sym, ap, ◌∙◌, arith, length, None, List}
use Rattle.std.specs.FinMap.{len}
use Rattle.graph_edits.specs.Edges.{EdgeMap}
use Rattle.graph_edits.specs.Rows.{Row, edges_from, AreRows}
use Rattle.graph_edits.specs.Placed.{rows_with}
use Rattle.graph_edits.specs.Changes.{refusal_at, edges_after_op, count_after, first_node, second_node, op_weight}
use Rattle.graph_edits.specs.declared.edits.Op.{Op}
use Rattle.graph_edits.specs.declared.edits.Op.TheVariants.{Add, Set, Cut}
use Rattle.graph_edits.proofs.EdgesOfRows.{edges_inserted, edges_removed}
use Rattle.graph_edits.proofs.Ops.{add_passed, set_passed, cut_passed, kept_put, kept_cut, found_put, found_cut, one_more_edge, as_many_edges, one_less_edge}

pub ends_apart : (n : ℕ) (m : EdgeMap) (op : Op) → refusal_at n m op ≡ None → first_node op ≢ second_node op
ends_apart n m (Add a b w) is = (add_passed n (len m) a b w _ is).ends.apart
ends_apart n m (Set a b w) is = (set_passed n (len m) a b w _ is).ends.apart
ends_apart n m (Cut a b) is = (cut_passed n (len m) a b _ is).ends.apart

-- the rows are still those of a graph
pub kept_with : (rows : List Row) (count : ℕ) (op : Op) → AreRows rows count → refusal_at (length rows) (edges_from 0 rows) op ≡ None
    → AreRows (rows_with rows (first_node op) (second_node op) (op_weight op)) (count_after count op)
kept_with rows count (Add a b w) kept is =
    let passed = add_passed (length rows) (len (edges_from 0 rows)) a b w _ is in
    kept_put rows count a b w (count + 1) kept passed.ends passed.weight
    (ap (λ n. n + 1) kept.counted ∙ sym (one_more_edge (edges_from 0 rows) a b w passed.free))
    (let few = passed.few in omega (arith, few, kept.counted))
kept_with rows count (Set a b w) kept is =
    let passed = set_passed (length rows) (len (edges_from 0 rows)) a b w _ is in
    kept_put rows count a b w count kept passed.ends passed.weight (kept.counted ∙ sym (as_many_edges (edges_from 0 rows) a b w passed.taken)) kept.few_edges
kept_with rows count (Cut a b) kept is =
    let passed = cut_passed (length rows) (len (edges_from 0 rows)) a b _ is in
    kept_cut rows count a b (count - 1) kept passed.ends (ap (λ n. n - 1) kept.counted ∙ sym (one_less_edge (edges_from 0 rows) a b passed.taken))
    (let few = kept.few_edges in omega (arith, few))

-- and their edges are those that the op leaves
pub edges_with : (rows : List Row) (op : Op) → refusal_at (length rows) (edges_from 0 rows) op ≡ None
    → edges_from 0 (rows_with rows (first_node op) (second_node op) (op_weight op)) ≡ edges_after_op (edges_from 0 rows) op
edges_with rows (Add a b w) is =
    let passed = add_passed (length rows) (len (edges_from 0 rows)) a b w _ is in
    edges_inserted rows _ a b w passed.ends.apart (found_put rows a b w passed.ends)
edges_with rows (Set a b w) is =
    let passed = set_passed (length rows) (len (edges_from 0 rows)) a b w _ is in
    edges_inserted rows _ a b w passed.ends.apart (found_put rows a b w passed.ends)
edges_with rows (Cut a b) is =
    let passed = cut_passed (length rows) (len (edges_from 0 rows)) a b _ is in
    edges_removed rows _ a b passed.ends.apart (found_cut rows a b passed.ends)
