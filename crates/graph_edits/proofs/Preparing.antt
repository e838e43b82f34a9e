-- Changes made in new rows, one after another.
use Rattle.std.proofs.Common.{◌≡◌, ℕ, zero, suc, ◌+◌, ◌<◌, ◌≤◌, List, [], ◌∷◌, length, get_or, drop, set, None, Some, Ok, refl, sym, ap, ◌∙◌, subst, arith, Vec, Global}
use Rattle.std.specs.Option.{IsSome}
use Rattle.std.specs.Prelude.{IsOk}
use Rattle.std.proofs.lemmas.List.{length-map, drop_more, map-set}
use Rattle.graph_edits.specs.Edges.{Network}
use Rattle.graph_edits.specs.Rows.{Row, lists, edges_from, network_of, AreRows}
use Rattle.std.proofs.lemmas.List.Elements.{All-nil}
use Rattle.graph_edits.specs.Placed.{Slots, placed, rows_of, IsPrepared}
use Rattle.graph_edits.specs.Changes.{after, fold, edges_after, err_of}
use Rattle.graph_edits.specs.declared.edits.Op.{Op}
use Rattle.graph_edits.proofs.Applied.{after_accepts, after_step, fold_accepts, fold_step}
use Rattle.graph_edits.proofs.Placing.{length-placed, rows_is}

-- ---- one change

many : (base : List (Vec (ℕ × ℕ) Global)) (es : Slots) → length (placed (lists base) es) ≡ length base
many base es = length-placed (lists base) es ∙ length-map base (λ row. row.items)

-- none of its ops is refused
pub accepted_change : (base : List (Vec (ℕ × ℕ) Global)) (es : Slots) (change : List Op) → IsOk (after (network_of (placed (lists base) es)) change) → err_of (edges_after (length base) (edges_from 0 (placed (lists base) es)) 0 change) ≡ None
accepted_change base es change ok = subst (λ n. err_of (edges_after n (edges_from 0 (placed (lists base) es)) 0 change) ≡ None) (many base es) (after_accepts (network_of (placed (lists base) es)) change ok)

-- and it leaves the new rows
pub after_change : (base : List (Vec (ℕ × ℕ) Global)) (es fs : Slots) (change : List Op) → edges_after (length base) (edges_from 0 (placed (lists base) es)) 0 change ≡ Ok (edges_from 0 (placed (lists base) fs))
    → after (network_of (placed (lists base) es)) change ≡ Ok (network_of (placed (lists base) fs))
after_change base es fs change is =
    after_step (network_of (placed (lists base) es)) (edges_from 0 (placed (lists base) fs)) change
    (subst (λ n. edges_after n (edges_from 0 (placed (lists base) es)) 0 change ≡ Ok (edges_from 0 (placed (lists base) fs))) (sym (many base es)) is)
    ∙ ap (λ n. Ok (record { nodes = n; edges = edges_from 0 (placed (lists base) fs) })) (many base es ∙ sym (many base fs))

-- ---- changes in order

module _ (g h : Network) (changes : List (List Op)) (i : ℕ) (change : List Op) (lt : i < length changes) (at : change ≡ get_or changes i change) (rest : fold g changes ≡ fold h (drop i changes)) where
  opened : fold g changes ≡ fold h (change ∷ drop (i + 1) changes)
  opened = rest ∙ ap (fold h) (drop_more changes i change lt ∙ ap (λ d. d ∷ drop (i + 1) changes) (sym at))

  -- the next change is accepted
  pub accepted_next : IsSome (fold g changes) → IsOk (after h change)
  accepted_next some = fold_accepts h change (drop (i + 1) changes) (subst IsSome opened some)

  -- and what is left gives the same
  pub rest_next : (k : Network) → after h change ≡ Ok k → fold g changes ≡ fold k (drop (i + 1) changes)
  rest_next k is = opened ∙ fold_step h k change (drop (i + 1) changes) is

drop_past : {X : Type 0} (xs : List X) (i : ℕ) → length xs ≤ i → drop i xs ≡ []
drop_past [] zero le = refl
drop_past [] (suc i) le = refl
drop_past (x ∷ xs) zero le = absurd (omega arith)
drop_past (x ∷ xs) (suc i) le = drop_past xs i (omega arith)

-- all changes made
pub all_made : (g h : Network) (changes : List (List Op)) (i : ℕ) → length changes ≤ i → fold g changes ≡ fold h (drop i changes) → fold g changes ≡ Some h
all_made g h changes i le rest = rest ∙ ap (fold h) (drop_past changes i le)

-- the rows of the graph that a value was taken of
pub rows_before : (rows : List Row) (count : ℕ) (g : Network) → AreRows rows count → network_of rows ≡ g → rows_of g ≡ rows
rows_before rows count g kept is = sym (ap rows_of is) ∙ rows_is rows count kept

-- a row put in its place
pub lists_row : (rows : List (Vec (ℕ × ℕ) Global)) (x : ℕ) (row : Vec (ℕ × ℕ) Global) → lists (set rows x row) ≡ set (lists rows) x row.items
lists_row rows x row = map-set (λ (row : Vec (ℕ × ℕ) Global). row.items) rows x row

-- nothing is needed for a network to stay as it is
pub nothing_prepared : (rows : List Row) (count : ℕ) (g : Network) → AreRows rows count → network_of rows ≡ g → IsPrepared g [] count
nothing_prepared rows count g kept is = record {
  slots = record { sorted = tt; within = All-nil _ };
  rows = subst (λ l. AreRows l count) (sym (rows_before rows count g kept is)) kept;
}
