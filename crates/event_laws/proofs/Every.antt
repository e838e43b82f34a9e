-- What holds of each element of a list, what stands at a place of it, and what a value may be.
use Rattle.std.proofs.Common.{◌≡◌, ◌≢◌, ◌⊎◌, inl, inr, ℕ, zero, suc, Bool, true, false, List, [], ◌∷◌, ◌++◌, length, set, Option, Some, None, slice_get, Contains, refl, sym, ap, ◌∙◌, arith}
use Rattle.std.specs.List.{AllByRecursion}
use Rattle.std.proofs.lemmas.List.{length-set, get_or-set_same}
use Rattle.std.proofs.lemmas.List.Elements.{All-from_recursion, recursion_from_All, All-push, All-set}
use Rattle.std.proofs.lemmas.Option.{slice_get_within, slice_get_read, get_or_from_slice_get}

-- ---- each element

pub all_as : {A : Type 0} {P Q : A → Type 0} → ((x : A) → P x → Q x) → (xs : List A) → AllByRecursion P xs → AllByRecursion Q xs
all_as f [] h = tt
all_as f (x ∷ xs) h = (f x h.0, all_as f xs h.1)

module _ {A : Type 0} (P : A → Type 0) where
  pub all_push : (xs : List A) (x : A) → AllByRecursion P xs → P x → AllByRecursion P (xs ++ x ∷ [])
  all_push xs x h is = recursion_from_All P (xs ++ x ∷ []) (All-push P xs x (All-from_recursion P xs h) is)

  pub all_set : (xs : List A) (i : ℕ) (x : A) → AllByRecursion P xs → P x → AllByRecursion P (set xs i x)
  all_set xs i x h is = recursion_from_All P (set xs i x) (All-set P xs i x is (All-from_recursion P xs h))

  pub all_at : (xs : List A) (i : ℕ) (x : A) → AllByRecursion P xs → slice_get xs i ≡ Some x → P x
  all_at [] i x h e = absurd cc
  all_at (y ∷ xs) zero x h e = (let same : y ≡ x = cc in rw same at h.0)
  all_at (y ∷ xs) (suc i) x h e = all_at xs i x h.1 e

-- ---- at a place

module _ {A : Type 0} where
  pub get_set : (xs : List A) (i : ℕ) (v w : A) → slice_get xs i ≡ Some v → slice_get (set xs i w) i ≡ Some w
  get_set xs i v w e =
      let within = slice_get_within xs i v e in
      slice_get_read (set xs i w) (length xs) i w (sym (length-set xs i w)) within (sym (get_or-set_same xs i w w within))

  pub set_at : (xs : List A) (i : ℕ) (y x : A) → slice_get (set xs i y) i ≡ Some x → y ≡ x
  set_at xs i y x e =
      let within = slice_get_within (set xs i y) i x e in
      let long = length-set xs i y in
      sym (get_or-set_same xs i y y (omega (arith, within, long))) ∙ get_or_from_slice_get (set xs i y) i x y e

  pub get_other : (xs : List A) (i j : ℕ) (w : A) → i ≢ j → slice_get (set xs j w) i ≡ slice_get xs i
  get_other [] i j w ne = refl
  get_other (x ∷ xs) zero zero w ne = absurd (ne refl)
  get_other (x ∷ xs) zero (suc j) w ne = refl
  get_other (x ∷ xs) (suc i) zero w ne = refl
  get_other (x ∷ xs) (suc i) (suc j) w ne = get_other xs i j w (λ e. ne (ap suc e))

  pub first_or_rest : (x : A) (xs : List A) (y : A) → Contains (x ∷ xs) y → (x ≡ y) ⊎ Contains xs y
  first_or_rest x xs y (zero, within, at) = inl at
  first_or_rest x xs y (suc k, within, at) = inr (k, omega (arith, within), at)

-- ---- what a value may be, with what it is

pub on_option : {A : Type 0} → (P : Option A → Type 0) (o : Option A) → (o ≡ None → P None) → ((x : A) → o ≡ Some x → P (Some x)) → P o
on_option P None none some = none refl
on_option P (Some x) none some = some x refl

pub on_bool : (P : Bool → Type 0) (b : Bool) → (b ≡ true → P true) → (b ≡ false → P false) → P b
on_bool P true one other = one refl
on_bool P false one other = other refl
