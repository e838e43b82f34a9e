-- The edge map of rows: what it has at a pair, and what a change of two rows does to it.
use Rattle.std.proofs.Common.{◌≡◌, ℕ, zero, suc, ◌+◌, ◌<◌, Bool, true, false, cond, ◌&&◌, T, ◌≢◌, List, [], ◌∷◌, Option, None, Some, Ordering, Less, Equal, Greater, is_eq, nat_cmp, eqb, ltb, refl, sym, ap, ◌∙◌, subst, arith, add-zero}
use Rattle.std.specs.Ordering.{eq_by_cmp, ordering_then}
use Rattle.std.specs.Cmp.{IsTotalOrder, nat_cmp_total, then_total, on_total, tied_then, unsigned_tied, ranked}
use Rattle.std.specs.FinMap.{find, get, insert, remove, get-insert, get-remove, get-empty, same_map, IsAntisymmetric}
use Rattle.std.proofs.lemmas.Bool.Decides.{nat_tests}
use Rattle.graph_edits.specs.Edges.{pair_cmp, EdgeMap, pair_of, weight_between}
use Rattle.graph_edits.specs.Rows.{Row, row_of, with_row, edges_from, joins}

pub pair_total : IsTotalOrder pair_cmp
pair_total = then_total (on_total (λ (p : ℕ × ℕ). p.0) nat_cmp_total) (on_total (λ (p : ℕ × ℕ). p.1) nat_cmp_total)

pub pair_tied : (p q : ℕ × ℕ) → eq_by_cmp pair_cmp p q ≡ (eqb p.0 q.0 && eqb p.1 q.1)
pair_tied p q = sym (tied_then (nat_cmp p.0 q.0) (nat_cmp p.1 q.1)) ∙ (λ i. unsigned_tied p.0 q.0 i && unsigned_tied p.1 q.1 i)

both_equal : (a b : Ordering) → ordering_then a b ≡ Equal → (a ≡ Equal) × (b ≡ Equal)
both_equal Less b e = absurd (subst (λ o. T (is_eq o)) (sym e) tt)
both_equal Equal b e = (refl, e)
both_equal Greater b e = absurd (subst (λ o. T (is_eq o)) (sym e) tt)

pub pair_same : IsAntisymmetric pair_cmp
pair_same p q e =
    let both = both_equal (nat_cmp p.0 q.0) (nat_cmp p.1 q.1) e in
    λ i. (ranked p.0 q.0 Equal (sym both.0) i, ranked p.1 q.1 Equal (sym both.1) i)

nothing : (b : Bool) → let gone : Option ℕ = None in cond b gone None ≡ gone
nothing true = refl
nothing false = refl

with_row_other : (x : ℕ) (row : Row) (m : EdgeMap) (a b : ℕ) → a ≢ x → get (with_row x row m) (a, b) ≡ get m (a, b)
with_row_other x [] m a b apart = refl
with_row_other x (e ∷ es) m a b apart =
    let rest = with_row_other x es m a b apart in
    elim (ltb x e.0) as (λ t. get (cond t (insert (with_row x es m) (x, e.0) e.1) (with_row x es m)) (a, b) ≡ get m (a, b)) [
      | true ↦ get-insert pair_total (with_row x es m) (x, e.0) e.1 (a, b)
          ∙ ap (λ t. cond t (Some e.1) (get (with_row x es m) (a, b))) (pair_tied (a, b) (x, e.0) ∙ ap (λ t. t && eqb b e.0) (let f : eqb a x ≡ false = grind (arith, nat_tests) in f))
          ∙ rest
      | false ↦ rest
    ]

with_row_same : (x : ℕ) (row : Row) (m : EdgeMap) (b : ℕ) → get m (x, b) ≡ None → get (with_row x row m) (x, b) ≡ cond (ltb x b) (find nat_cmp b row) None
with_row_same x [] m b none = none ∙ sym (nothing (ltb x b))
with_row_same x (e ∷ es) m b none =
    let rest = with_row_same x es m b none in
    elim (ltb x e.0) as (λ t. ltb x e.0 ≡ t → get (cond t (insert (with_row x es m) (x, e.0) e.1) (with_row x es m)) (x, b) ≡ cond (ltb x b) (cond (eq_by_cmp nat_cmp b e.0) (Some e.1) (find nat_cmp b es)) None) [
      | true ↦ λ lt. get-insert pair_total (with_row x es m) (x, e.0) e.1 (x, b)
          ∙ ap (λ t. cond t (Some e.1) (get (with_row x es m) (x, b))) (pair_tied (x, b) (x, e.0))
          ∙ ap (λ o. cond (eqb x x && eqb b e.0) (Some e.1) o) rest
          ∙ above x b e.0 (Some e.1) (find nat_cmp b es) lt
          ∙ ap (λ t. cond (ltb x b) (cond t (Some e.1) (find nat_cmp b es)) None) (sym (unsigned_tied b e.0))
      | false ↦ λ lt. rest ∙ under x b e.0 (Some e.1) (find nat_cmp b es) lt ∙ ap (λ t. cond (ltb x b) (cond t (Some e.1) (find nat_cmp b es)) None) (sym (unsigned_tied b e.0))
    ] refl
  where
    above : (x b y : ℕ) (u v : Option ℕ) → ltb x y ≡ true → cond (eqb x x && eqb b y) u (cond (ltb x b) v None) ≡ cond (ltb x b) (cond (eqb b y) u v) None
    above x b y u v lt = grind (arith, nat_tests)

    under : (x b y : ℕ) (u v : Option ℕ) → ltb x y ≡ false → cond (ltb x b) v None ≡ cond (ltb x b) (cond (eqb b y) u v) None
    under x b y u v lt = grind (arith, nat_tests)

none_before : (x : ℕ) (rows : List Row) (a b : ℕ) → a < x → get (edges_from x rows) (a, b) ≡ None
none_before x [] a b lt = get-empty pair_cmp (a, b)
none_before x (row ∷ rows) a b lt = with_row_other x row (edges_from (suc x) rows) a b (omega arith) ∙ none_before (suc x) rows a b (omega arith)

from_at : (x i : ℕ) (rows : List Row) (b : ℕ) → get (edges_from x rows) (i + x, b) ≡ cond (ltb (i + x) b) (find nat_cmp b (row_of rows i)) None
from_at x i [] b = get-empty pair_cmp (i + x, b) ∙ sym (nothing (ltb (i + x) b))
from_at x zero (row ∷ rows) b =
    subst (λ k. get (with_row x row (edges_from (suc x) rows)) (k, b) ≡ cond (ltb k b) (find nat_cmp b row) None) (let e : x ≡ 0 + x = omega arith in e)
    (with_row_same x row (edges_from (suc x) rows) b (none_before (suc x) rows x b (omega arith)))
from_at x (suc i) (row ∷ rows) b =
    with_row_other x row (edges_from (suc x) rows) (suc i + x) b (omega arith)
    ∙ subst (λ k. get (edges_from (suc x) rows) (k, b) ≡ cond (ltb k b) (find nat_cmp b (row_of rows i)) None) (let e : i + suc x ≡ suc i + x = omega arith in e) (from_at (suc x) i rows b)

-- what the edge map of rows has at a pair
pub get-edges_from : (rows : List Row) (a b : ℕ) → get (edges_from 0 rows) (a, b) ≡ cond (ltb a b) (find nat_cmp b (row_of rows a)) None
get-edges_from rows a b = subst (λ k. get (edges_from 0 rows) (k, b) ≡ cond (ltb k b) (find nat_cmp b (row_of rows a)) None) (add-zero a) (from_at 0 a rows b)

between_by : (rows : List Row) (a b : ℕ) (t : Bool) → get (edges_from 0 rows) (cond t (a, b) (b, a)) ≡ cond t (cond (ltb a b) (find nat_cmp b (row_of rows a)) None) (cond (ltb b a) (find nat_cmp a (row_of rows b)) None)
between_by rows a b true = get-edges_from rows a b
between_by rows a b false = get-edges_from rows b a

-- where rows agree, the edge map has at two nodes what either row has
pub between_rows : (rows : List Row) → ((x y : ℕ) → find nat_cmp y (row_of rows x) ≡ find nat_cmp x (row_of rows y)) → ((x : ℕ) → find nat_cmp x (row_of rows x) ≡ None)
    → (a b : ℕ) → weight_between (edges_from 0 rows) a b ≡ find nat_cmp b (row_of rows a)
between_rows rows mirrored loopless a b = between_by rows a b (ltb a b) ∙ settled a b _ _ (mirrored a b) (λ e. subst (λ k. find nat_cmp k (row_of rows a) ≡ None) e (loopless a))
  where
    settled : (a b : ℕ) (u v : Option ℕ) → u ≡ v → (a ≡ b → u ≡ None) → cond (ltb a b) (cond (ltb a b) u None) (cond (ltb b a) v None) ≡ u
    settled a b u v e same = grind (arith, nat_tests)

pair_joined_by : (a b x y : ℕ) (t : Bool) → ltb a b ≡ t → a ≢ b → let p : ℕ × ℕ = cond t (a, b) (b, a) in (eqb x p.0 && eqb y p.1) ≡ (ltb x y && joins a b x y)
pair_joined_by a b x y true lt apart = grind (arith, nat_tests)
pair_joined_by a b x y false lt apart = grind (arith, nat_tests)

pair_joined : (a b x y : ℕ) → a ≢ b → let p : ℕ × ℕ = pair_of a b in (eqb x p.0 && eqb y p.1) ≡ (ltb x y && joins a b x y)
pair_joined a b x y apart = pair_joined_by a b x y (ltb a b) refl apart

-- two rows that get a weight, or lose it
pub edges_inserted : (rows after : List Row) (a b w : ℕ) → a ≢ b → ((x y : ℕ) → find nat_cmp y (row_of after x) ≡ cond (joins a b x y) (Some w) (find nat_cmp y (row_of rows x)))
    → edges_from 0 after ≡ insert (edges_from 0 rows) (pair_of a b) w
edges_inserted rows after a b w apart is = same_map pair_total pair_same _ _ (λ q.
    get-edges_from after q.0 q.1
    ∙ ap (λ o. cond (ltb q.0 q.1) o None) (is q.0 q.1)
    ∙ shuffled (ltb q.0 q.1) (joins a b q.0 q.1) (Some w) (find nat_cmp q.1 (row_of rows q.0))
    ∙ ap (λ t. cond t (Some w) (cond (ltb q.0 q.1) (find nat_cmp q.1 (row_of rows q.0)) None)) (sym (pair_tied q (pair_of a b) ∙ pair_joined a b q.0 q.1 apart))
    ∙ ap (cond (eq_by_cmp pair_cmp q (pair_of a b)) (Some w)) (sym (get-edges_from rows q.0 q.1))
    ∙ sym (get-insert pair_total (edges_from 0 rows) (pair_of a b) w q))
  where
    shuffled : (s t : Bool) (u v : Option ℕ) → cond s (cond t u v) None ≡ cond (s && t) u (cond s v None)
    shuffled true t u v = refl
    shuffled false t u v = refl

pub edges_removed : (rows after : List Row) (a b : ℕ) → a ≢ b → ((x y : ℕ) → find nat_cmp y (row_of after x) ≡ cond (joins a b x y) None (find nat_cmp y (row_of rows x)))
    → edges_from 0 after ≡ remove (edges_from 0 rows) (pair_of a b)
edges_removed rows after a b apart is = same_map pair_total pair_same _ _ (λ q.
    get-edges_from after q.0 q.1
    ∙ ap (λ o. cond (ltb q.0 q.1) o None) (is q.0 q.1)
    ∙ shuffled (ltb q.0 q.1) (joins a b q.0 q.1) None (find nat_cmp q.1 (row_of rows q.0))
    ∙ ap (λ t. cond t None (cond (ltb q.0 q.1) (find nat_cmp q.1 (row_of rows q.0)) None)) (sym (pair_tied q (pair_of a b) ∙ pair_joined a b q.0 q.1 apart))
    ∙ ap (cond (eq_by_cmp pair_cmp q (pair_of a b)) None) (sym (get-edges_from rows q.0 q.1))
    ∙ sym (get-remove pair_total (edges_from 0 rows) (pair_of a b) q))
  where
    shuffled : (s t : Bool) (u v : Option ℕ) → cond s (cond t u v) None ≡ cond (s && t) u (cond s v None)
    shuffled true t u v = refl
    shuffled false t u v = refl
