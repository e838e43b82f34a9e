-- Rows written in their place.
use Rattle.std.proofs.Common.{Vec, ◌≡◌, ◌+◌, ℕ, ◌<◌, List, [], length, get_or, set, Option, Some, None, sym, ap, subst, ◌∙◌}
use Rattle.std.specs.Prelude.{Result, Ok, Err, OnErr}
use Rattle.std.specs.Ordering.{nat_cmp}
use Rattle.std.specs.FinMap.{insert, put}
use Rattle.std.proofs.lemmas.List.{set-get_or, length-set}
use Rattle.std.specs.declared.alloc.Global.{Global}
use Rattle.graph_edits.specs.declared.edits.Op.TheVariants.{Add}
use Rattle.graph_edits.specs.declared.edits.Op.{Op}
use Rattle.graph_edits.specs.Placed.{rows_with}
use Rattle.graph_edits.specs.Changes.{refusal_at, edges_after_op, count_after, CountFits, first_node, second_node, op_weight}
use Rattle.graph_edits.specs.Edges.{Network, pair_of}
use Rattle.graph_edits.specs.Rows.{Row, lists, row_of, network_of, edges_from, cut_row, put_both, AreRows}
use Rattle.graph_edits.proofs.Networks.{row_read}
use Rattle.graph_edits.proofs.Preparing.{lists_row}
use Rattle.graph_edits.proofs.Applied.{count_fits}
use Rattle.graph_edits.proofs.Making.{kept_with, edges_with}

-- a row in whose place the same entries are put
pub same_row : (rows : List (Vec (ℕ × ℕ) Global)) (x : ℕ) (row new : Vec (ℕ × ℕ) Global) → x < length rows → row ≡ get_or rows x row → new.items ≡ row.items → lists (set rows x new) ≡ lists rows
same_row rows x row new lt is same = lists_row rows x new ∙ ap (λ (r : Row). set (lists rows) x r) (same ∙ sym (row_read rows x row lt is)) ∙ set-get_or (lists rows) x []

-- and one in whose place others are
pub new_row : (rows : List (Vec (ℕ × ℕ) Global)) (x : ℕ) (row new : Vec (ℕ × ℕ) Global) (f : Row → Row) → x < length rows → row ≡ get_or rows x row → new.items ≡ f row.items → lists (set rows x new) ≡ set (lists rows) x (f (row_of (lists rows) x))
new_row rows x row new f lt is made = lists_row rows x new ∙ ap (λ (r : Row). set (lists rows) x r) (made ∙ ap f (sym (row_read rows x row lt is)))

-- there are as many rows after an op
as_many : (rows : List Row) (a b : ℕ) (w : Option ℕ) → length (rows_with rows a b w) ≡ length rows
as_many rows a b (Some w) = length-set (set rows a (put nat_cmp b w (row_of rows a))) b (put nat_cmp a w (row_of rows b)) ∙ length-set rows a (put nat_cmp b w (row_of rows a))
as_many rows a b None = length-set (set rows a (cut_row b (row_of rows a))) b (cut_row a (row_of rows b)) ∙ length-set rows a (cut_row b (row_of rows a))

-- the network of rows with one edge more
module _ (rows : List Row) (count a b w : ℕ) (g : Network) (kept : AreRows rows count) (view_is : network_of rows ≡ g) (accepted : refusal_at g.nodes g.edges (Add a b w) ≡ None) where
  pub accepted_here : refusal_at (length rows) (edges_from 0 rows) (Add a b w) ≡ None
  accepted_here = subst (λ (h : Network). refusal_at h.nodes h.edges (Add a b w) ≡ None) (sym view_is) accepted

  pub one_kept : AreRows (put_both rows a b w) (count + 1)
  one_kept = kept_with rows count (Add a b w) kept accepted_here

  pub one_more : network_of (put_both rows a b w) ≡ record { nodes = g.nodes; edges = insert g.edges (pair_of a b) w }
  one_more =
      ap (λ n. record { nodes = n; edges = edges_from 0 (put_both rows a b w) }) (length-set (set rows a (put nat_cmp b w (row_of rows a))) b (put nat_cmp a w (row_of rows b)) ∙ length-set rows a (put nat_cmp b w (row_of rows a)))
      ∙ ap (λ m. record { nodes = length rows; edges = m }) (edges_with rows (Add a b w) accepted_here)
      ∙ ap (λ (h : Network). record { nodes = h.nodes; edges = insert h.edges (pair_of a b) w }) view_is

-- the network of rows in which an op was made
module _ (rows : List Row) (count : ℕ) (op : Op) (g : Network) (kept : AreRows rows count) (view_is : network_of rows ≡ g) (accepted : refusal_at g.nodes g.edges op ≡ None) where
  pub op_here : refusal_at (length rows) (edges_from 0 rows) op ≡ None
  op_here = subst (λ (h : Network). refusal_at h.nodes h.edges op ≡ None) (sym view_is) accepted

  pub op_kept : AreRows (rows_with rows (first_node op) (second_node op) (op_weight op)) (count_after count op)
  op_kept = kept_with rows count op kept op_here

  pub op_fits : CountFits count op
  op_fits = subst (λ n. CountFits n op) (sym kept.counted) (count_fits (length rows) (edges_from 0 rows) op op_here)

  pub op_made : network_of (rows_with rows (first_node op) (second_node op) (op_weight op)) ≡ record { nodes = g.nodes; edges = edges_after_op g.edges op }
  op_made =
      ap (λ n. record { nodes = n; edges = edges_from 0 (rows_with rows (first_node op) (second_node op) (op_weight op)) }) (as_many rows (first_node op) (second_node op) (op_weight op))
      ∙ ap (λ m. record { nodes = length rows; edges = m }) (edges_with rows op op_here)
      ∙ ap (λ (h : Network). record { nodes = h.nodes; edges = edges_after_op h.edges op }) view_is

-- what holds holds after an error
pub on_err : {A B : Type 0} (P : Type 0) (r : Result A B) → P → OnErr r P
on_err P (Ok x) is = tt
on_err P (Err e) is = is
