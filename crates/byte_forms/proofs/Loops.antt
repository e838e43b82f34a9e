-- Items that are read one after the other, as a loop does.
use Rattle.std.proofs.Common.{◌≡◌, ℕ, suc, ◌-◌, ◌+◌, ◌≤◌, ◌<◌, List, [], ◌∷◌, ◌++◌, Option, Some, None, refl, sym, ap, ◌∙◌, append_assoc, arith}
use Rattle.std.proofs.lemmas.List.{append-nil}
use Rattle.byte_forms.specs.Reading.{◌>>=◌, items_at}

-- what was read before, and what is still read
abbrev pub with_front : {X : Type 0} → List X → Option (List X × List ℕ) → Option (List X × List ℕ)
with_front front found = found >>= λ x. Some (front ++ x.0, x.1)

regroup : {X : Type 0} (front : List X) (x : X) (found : Option (List X × List ℕ)) → with_front front (found >>= λ y. Some (x ∷ y.0, y.1)) ≡ with_front (front ++ x ∷ []) found
regroup {X} front x (Some y) = ap (λ (xs : List X). Some (xs, y.1)) (simp append_assoc)
regroup front x None = refl

module _ {X : Type 0} (found : List ℕ → Option (X × List ℕ)) (front : List X) (count i : ℕ) (bytes : List ℕ) (total : Option (List X × List ℕ)) (so_far : with_front front (items_at found (count - i) bytes) ≡ total) where
  pub goes_on : (x : X) (after : List ℕ) → i < count → found bytes ≡ Some (x, after) → with_front (front ++ x ∷ []) (items_at found (count - (i + 1)) after) ≡ total
  unfolding items_at
  goes_on x after lt h =
      let k : count - i ≡ suc (count - (i + 1)) = omega arith in
      let one : with_front front (items_at found (count - i) bytes) ≡ with_front (front ++ x ∷ []) (items_at found (count - (i + 1)) after) = rw (k, h) (regroup front x (items_at found (count - (i + 1)) after)) in
      sym one ∙ so_far

  pub ends : i < count → found bytes ≡ None → total ≡ None
  unfolding items_at
  ends lt h =
      let k : count - i ≡ suc (count - (i + 1)) = omega arith in
      let one : with_front front (items_at found (count - i) bytes) ≡ None = rw (k, h) refl in
      sym so_far ∙ one

  pub is_done : count ≤ i → total ≡ Some (front, bytes)
  unfolding items_at
  is_done le =
      let k : count - i ≡ 0 = omega arith in
      let one : with_front front (items_at found (count - i) bytes) ≡ Some (front, bytes) = rw k (ap (λ (xs : List X). Some (xs, bytes)) (append-nil front)) in
      sym so_far ∙ one
