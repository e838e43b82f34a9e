-- Lists at places, and the table of the places at which nodes stand.
use Rattle.std.proofs.Common.{◌≡◌, ℕ, zero, suc, ◌+◌, ◌<◌, inl, inr, sym, refl, ap, ◌∙◌, arith, List, [], ◌∷◌, length, get_or, set}
use Rattle.std.specs.Prelude.{slice_index}
use Rattle.std.specs.declared.vec.Vec.{Vec}
use Rattle.std.proofs.lemmas.Bool.{cases_eq}
use Rattle.std.proofs.lemmas.List.{get_or-set_same, get_or-set_other}
use Rattle.schemes.specs.Places.{ArePlacesTo}
use Rattle.schemes.specs.Tables.{items_at}

-- ---- lists at places

-- the list that is read
pub items_read : {X A : Type 0} (vs : List (Vec X A)) (i : ℕ) (v : Vec X A) → i < length vs → v ≡ get_or vs i v → v.items ≡ items_at vs i
items_read [] i v l is = absurd (omega (arith, l))
items_read (u ∷ vs) zero v l is = ap (λ w. w.items) is
items_read (u ∷ vs) (suc i) v l is = items_read vs i v (omega (arith, l)) is

pub items_set : {X A : Type 0} (vs : List (Vec X A)) (i : ℕ) (v : Vec X A) → i < length vs → items_at (set vs i v) i ≡ v.items
items_set [] i v l = absurd (omega (arith, l))
items_set (u ∷ vs) zero v l = refl
items_set (u ∷ vs) (suc i) v l = items_set vs i v (omega (arith, l))

pub items_other : {X A : Type 0} (vs : List (Vec X A)) (i x : ℕ) (v : Vec X A) → (x ≡ i → ⊥) → items_at (set vs i v) x ≡ items_at vs x
items_other [] i x v n = refl
items_other (u ∷ vs) zero zero v n = absurd (n refl)
items_other (u ∷ vs) zero (suc x) v n = refl
items_other (u ∷ vs) (suc i) zero v n = refl
items_other (u ∷ vs) (suc i) (suc x) v n = items_other vs i x v (λ e. n (ap suc e))

-- ---- places of nodes

pub places_more : (list : List ℕ) (n : ℕ) (table : List ℕ) → ArePlacesTo list n table → n < length list → slice_index list n < length table → ArePlacesTo list (n + 1) (set table (slice_index list n) n)
places_more list n table h l inside i k =
    let x = slice_index list n in
    let y = slice_index list i in
    elim (cases_eq x y) [
      | inl s ↦ (
          let at : slice_index (set table x n) y ≡ n = ap (slice_index (set table x n)) (sym s) ∙ get_or-set_same table x n 0 inside in
          (omega (arith, at, l), ap (slice_index list) at ∙ s))
      | inr d ↦ (
          let at : slice_index (set table x n) y ≡ slice_index table y = get_or-set_other table x y n 0 (λ e. d (sym e)) in
          let ne : i ≡ n → ⊥ = λ e. d (ap (slice_index list) (sym e)) in
          let old = h i (omega (arith, k, ne)) in
          (omega (arith, at, old.0), ap (slice_index list) at ∙ old.1))
    ]
