-- New rows in their place: what a node's row then is, and one more new row.
use Rattle.std.proofs.Common.{◌≡◌, ℕ, zero, suc, ◌<◌, ◌≤◌, true, false, cond, T, ◌≢◌, List, [], ◌∷◌, ◌++◌, map, length, get_or, set, take, drop, None, Some, Ordering, Less, Equal, Greater, nat_cmp, eqb, refl, sym, ap, ◌∙◌, subst, arith, Vec, Global, length-set, get_or-set_same, get_or-set_other}
use Rattle.std.specs.Ordering.{eq_by_cmp}
use Rattle.std.specs.Cmp.{IsTotalOrder, nat_cmp_total, ranked, unsigned_tied, tied_itself}
use Rattle.std.specs.List.{All}
use Rattle.std.specs.FinMap.{find, put, is_sorted}
use Rattle.std.specs.FinMap.Entries.{by_order, is_sorted-put}
use Rattle.std.proofs.lemmas.Bool.Decides.{nat_tests}
use Rattle.std.proofs.lemmas.Option.{same_Some, none-some}
use Rattle.std.proofs.lemmas.List.{set-set, set_comm, set-get_or, map-append}
use Rattle.std.proofs.lemmas.List.Elements.{All-cons, All-head, All-tail}
use Rattle.std.proofs.Math.Seq.{take-suc}
use Rattle.graph_edits.specs.Edges.{below}
use Rattle.graph_edits.specs.Rows.{Row, row_of, network_of, AreRows, place, HasAt, MissesAt}
use Rattle.graph_edits.specs.Placed.{Slots, placed, AreSlots, rows_of}
use Rattle.graph_edits.proofs.Entries.{has_find, has_put, misses_find, misses_put}
use Rattle.graph_edits.proofs.Networks.{neighbours_rows}

pub length-placed : (rows : List Row) (es : Slots) → length (placed rows es) ≡ length rows
length-placed rows [] = refl
length-placed rows (e ∷ es) = length-set (placed rows es) e.0 e.1.items ∙ length-placed rows es

-- one more new row
pub placed-put : (rows : List Row) (x : ℕ) (v : Vec (ℕ × ℕ) Global) (es : Slots) → placed rows (put nat_cmp x v es) ≡ set (placed rows es) x v.items
placed-put rows x v [] = refl
placed-put rows x v (e ∷ es) =
    let rest = placed-put rows x v es in
    elim (nat_cmp x e.0) as (λ r. nat_cmp x e.0 ≡ r → placed rows (by_order r ((x, v) ∷ e ∷ es) ((e.0, v) ∷ es) (e ∷ put nat_cmp x v es)) ≡ set (set (placed rows es) e.0 e.1.items) x v.items) [
      | Less ↦ λ p. refl
      | Equal ↦ λ p. sym (ap (λ k. set (set (placed rows es) e.0 e.1.items) k v.items) (ranked x e.0 Equal (sym p)) ∙ set-set (placed rows es) e.0 e.1.items v.items)
      | Greater ↦ λ p. ap (λ l. set l e.0 e.1.items) rest ∙ set_comm (placed rows es) x e.0 v.items e.1.items (let above : e.0 < x = ranked x e.0 Greater (sym p) in omega arith)
    ] refl

same_node : (x y : ℕ) → eq_by_cmp nat_cmp x y ≡ true → x ≡ y
same_node x y e = let t : eqb x y ≡ true = sym (unsigned_tied x y) ∙ e in grind (arith, nat_tests)

other_node : (x y : ℕ) → eq_by_cmp nat_cmp x y ≡ false → x ≢ y
other_node x y e same = let t : eqb x y ≡ false = sym (unsigned_tied x y) ∙ e in grind (arith, nat_tests)

-- a node without a new row keeps its own
pub row_missed : (rows : List Row) (x : ℕ) (es : Slots) → find nat_cmp x es ≡ None → row_of (placed rows es) x ≡ row_of rows x
row_missed rows x [] e = refl
row_missed rows x (e ∷ es) none =
    elim (eq_by_cmp nat_cmp x e.0) as (λ b. eq_by_cmp nat_cmp x e.0 ≡ b → cond b (Some e.1) (find nat_cmp x es) ≡ None → row_of (set (placed rows es) e.0 e.1.items) x ≡ row_of rows x) [
      | true ↦ λ t is. absurd (none-some e.1 (sym is))
      | false ↦ λ t is. get_or-set_other (placed rows es) e.0 x e.1.items [] (other_node x e.0 t) ∙ row_missed rows x es is
    ] refl none

-- and one with a new row has that
pub row_found : (rows : List Row) (x : ℕ) (es : Slots) (v : Vec (ℕ × ℕ) Global) → x < length rows → find nat_cmp x es ≡ Some v → row_of (placed rows es) x ≡ v.items
row_found rows x [] v lt is = absurd (none-some v is)
row_found rows x (e ∷ es) v lt found =
    elim (eq_by_cmp nat_cmp x e.0) as (λ b. eq_by_cmp nat_cmp x e.0 ≡ b → cond b (Some e.1) (find nat_cmp x es) ≡ Some v → row_of (set (placed rows es) e.0 e.1.items) x ≡ v.items) [
      | true ↦ λ t is.
          let same = same_node x e.0 t in
          let within : e.0 < length (placed rows es) = omega (arith, length-placed rows es, same) in
          ap (λ k. row_of (set (placed rows es) e.0 e.1.items) k) same ∙ get_or-set_same (placed rows es) e.0 e.1.items [] within ∙ ap (λ u. u.items) (same_Some e.1 v is)
      | false ↦ λ t is. get_or-set_other (placed rows es) e.0 x e.1.items [] (other_node x e.0 t) ∙ row_found rows x es v lt is
    ] refl found

-- ---- entries that are put

all_put : (n x : ℕ) (v : Vec (ℕ × ℕ) Global) (es : Slots) → x < n → All (λ e. e.0 < n) es → All (λ e. e.0 < n) (put nat_cmp x v es)
all_put n x v [] lt h = All-cons (λ e. e.0 < n) (x, v) [] lt h
all_put n x v (e ∷ es) lt h =
    let rest = all_put n x v es lt (All-tail (λ f. f.0 < n) e es h) in
    elim (nat_cmp x e.0) as (λ r. All (λ f. f.0 < n) (by_order r ((x, v) ∷ e ∷ es) ((e.0, v) ∷ es) (e ∷ put nat_cmp x v es))) [
      | Less ↦ All-cons (λ f. f.0 < n) (x, v) (e ∷ es) lt h
      | Equal ↦ All-cons (λ f. f.0 < n) (e.0, v) es (All-head (λ f. f.0 < n) e es h) (All-tail (λ f. f.0 < n) e es h)
      | Greater ↦ All-cons (λ f. f.0 < n) e (put nat_cmp x v es) (All-head (λ f. f.0 < n) e es h) rest
    ]

pub slots_put : (n x : ℕ) (v : Vec (ℕ × ℕ) Global) (es : Slots) → x < n → AreSlots n es → AreSlots n (put nat_cmp x v es)
slots_put n x v es lt s = record { sorted = is_sorted-put nat_cmp nat_cmp_total x v es s.sorted; within = all_put n x v es lt s.within }

-- ---- a new row read, written and made

pub at_slot : (rows : List Row) (x : ℕ) (es : Slots) (i : ℕ) (e : ℕ × Vec (ℕ × ℕ) Global) → x < length rows → HasAt nat_cmp es x i → e ≡ get_or es i e → e.1.items ≡ row_of (placed rows es) x
at_slot rows x es i e lt h at = ap (λ f. f.1.items) at ∙ sym (row_found rows x es (get_or es i e).1 lt (has_find nat_cmp nat_cmp_total es x i e h))

written : (x : ℕ) (es : Slots) (i : ℕ) (e : ℕ × Vec (ℕ × ℕ) Global) (v : Vec (ℕ × ℕ) Global) → HasAt nat_cmp es x i → e ≡ get_or es i e → set es i (e.0, v) ≡ put nat_cmp x v es
written x es i e v h at = ap (λ f. set es i (f.0, v)) at ∙ has_put nat_cmp nat_cmp_total es x i v e h

pub slots_written : (n x : ℕ) (es : Slots) (i : ℕ) (e : ℕ × Vec (ℕ × ℕ) Global) (v : Vec (ℕ × ℕ) Global) → x < n → AreSlots n es → HasAt nat_cmp es x i → e ≡ get_or es i e → AreSlots n (set es i (e.0, v))
slots_written n x es i e v lt s h at = subst (AreSlots n) (sym (written x es i e v h at)) (slots_put n x v es lt s)

pub placed_written : (rows before : List Row) (x : ℕ) (es : Slots) (i : ℕ) (e : ℕ × Vec (ℕ × ℕ) Global) (v : Vec (ℕ × ℕ) Global) (f : Row → Row) → x < length rows → HasAt nat_cmp es x i → e ≡ get_or es i e
    → v.items ≡ f e.1.items → placed rows es ≡ before → placed rows (set es i (e.0, v)) ≡ set before x (f (row_of before x))
placed_written rows before x es i e v f lt h at is same =
    ap (placed rows) (written x es i e v h at)
    ∙ placed-put rows x v es
    ∙ ap (set (placed rows es) x) (is ∙ ap f (at_slot rows x es i e lt h at))
    ∙ ap (λ l. set l x (f (row_of l x))) same

-- where an entry that is put then stands
module _ {K X : Type 0} (R : K → K → Ordering) (o : IsTotalOrder R) where
  pub place-put : (k : K) (v : X) (es : List (K × X)) → place R k (put R k v es) ≡ place R k es
  place-put k v [] = ap (λ r. by_order r 0 0 1) (tied_itself o k)
  place-put k v (e ∷ es) =
      elim (R k e.0) as (λ r. R k e.0 ≡ r → place R k (by_order r ((k, v) ∷ e ∷ es) ((e.0, v) ∷ es) (e ∷ put R k v es)) ≡ by_order r 0 0 (suc (place R k es))) [
        | Less ↦ λ p. ap (λ r. by_order r 0 0 (suc (by_order (R k e.0) 0 0 (suc (place R k es))))) (tied_itself o k)
        | Equal ↦ λ p. ap (λ r. by_order r 0 0 (suc (place R k es))) p
        | Greater ↦ λ p. ap (λ r. by_order r 0 0 (suc (place R k (put R k v es)))) p ∙ ap suc (place-put k v es)
      ] refl

  pub put_at : (k : K) (v : X) (es : List (K × X)) (d : K × X) → (place R k es < length (put R k v es)) × (R k (get_or (put R k v es) (place R k es) d).0 ≡ Equal)
  put_at k v [] d = (omega arith, tied_itself o k)
  put_at k v (e ∷ es) d =
      let rest = put_at k v es d in
      elim (R k e.0) as (λ r. R k e.0 ≡ r → (by_order r 0 0 (suc (place R k es)) < length (by_order r ((k, v) ∷ e ∷ es) ((e.0, v) ∷ es) (e ∷ put R k v es))) × (R k (get_or (by_order r ((k, v) ∷ e ∷ es) ((e.0, v) ∷ es) (e ∷ put R k v es)) (by_order r 0 0 (suc (place R k es))) d).0 ≡ Equal)) [
        | Less ↦ λ p. (omega arith, tied_itself o k)
        | Equal ↦ λ p. (omega arith, p)
        | Greater ↦ λ p. (let lt = rest.0 in omega arith, rest.1)
      ] refl

-- a copy of its row made for a node that had none
pub inserted : (x : ℕ) (es : Slots) (i : ℕ) (v : Vec (ℕ × ℕ) Global) (after : Slots) → MissesAt nat_cmp es x i → after ≡ take i es ++ (x, v) ∷ drop i es → after ≡ put nat_cmp x v es
inserted x es i v after m is = is ∙ misses_put nat_cmp nat_cmp_total es x i v (x, v) m

pub inserted_at : (x : ℕ) (es : Slots) (i : ℕ) (v : Vec (ℕ × ℕ) Global) (after : Slots) → MissesAt nat_cmp es x i → after ≡ put nat_cmp x v es → HasAt nat_cmp after x i
inserted_at x es i v after m is = subst (λ l. HasAt nat_cmp l x i) (sym is) (subst (HasAt nat_cmp (put nat_cmp x v es) x) (sym m.0)
    (sym (place-put nat_cmp nat_cmp_total x v es), (put_at nat_cmp nat_cmp_total x v es (x, v)).0, λ d. (put_at nat_cmp nat_cmp_total x v es d).1))

pub placed_copy : (rows : List Row) (x : ℕ) (es : Slots) (i : ℕ) (v : Vec (ℕ × ℕ) Global) (after : Slots) → T (is_sorted nat_cmp es) → MissesAt nat_cmp es x i → v.items ≡ row_of rows x → after ≡ put nat_cmp x v es → placed rows after ≡ placed rows es
placed_copy rows x es i v after s m same is =
    let none = misses_find nat_cmp nat_cmp_total es x i s m in
    ap (placed rows) is ∙ placed-put rows x v es
    ∙ ap (set (placed rows es) x) (same ∙ sym (row_missed rows x es none))
    ∙ set-get_or (placed rows es) x []

-- ---- the rows of a network

pub rows_is : (rows : List Row) (count : ℕ) → AreRows rows count → rows_of (network_of rows) ≡ rows
rows_is rows count kept = sym (λ i. map (λ x. neighbours_rows rows count kept x i) (below (length rows))) ∙ first_rows rows (length rows) (omega arith) ∙ take_all rows
  where
    first_rows : (rows : List Row) (n : ℕ) → n ≤ length rows → map (λ x. row_of rows x) (below n) ≡ take n rows
    first_rows rows zero le = refl
    first_rows rows (suc n) le = map-append (λ x. row_of rows x) (below n) (n ∷ []) ∙ ap (λ l. l ++ row_of rows n ∷ []) (first_rows rows n (omega arith)) ∙ sym (take-suc rows n [] le)

    take_all : (rows : List Row) → take (length rows) rows ≡ rows
    take_all [] = refl
    take_all (r ∷ rows) = ap (λ t. r ∷ t) (take_all rows)

-- the last of the new rows put in its place first
pub placed_last : (rows : List Row) (es : Slots) (e : ℕ × Vec (ℕ × ℕ) Global) → placed rows (es ++ e ∷ []) ≡ placed (set rows e.0 e.1.items) es
placed_last rows [] e = refl
placed_last rows (f ∷ es) e = ap (λ l. set l f.0 f.1.items) (placed_last rows es e)
