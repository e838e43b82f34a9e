-- What a search by halving finds.
use Rattle.std.proofs.Common.{◌≡◌, ◌≢◌, ℕ, zero, suc, ◌+◌, ◌-◌, ◌<◌, length, get_or, map, List, [], ◌∷◌, Some, None, refl, sym, ap, ◌∙◌, arith, inl, inr}
use Rattle.std.specs.List.Sorted.{IsNonDecreasingBy, IsPartitionPoint, IsStrictlyIncreasing}
use Rattle.std.specs.Ordering.{nat_cmp, ordering_index}
use Rattle.std.specs.declared.cmp.Ordering.TheVariants.{Less, Equal, Greater}
use Rattle.std.proofs.lemmas.Bool.{cases_lt, eq-eqb, ne_eqb}
use Rattle.std.proofs.lemmas.Cmp.{ranked}
use Rattle.std.proofs.lemmas.List.{get_or-map, length-map}
use Rattle.std.proofs.lemmas.Bool.Decides.{nat_tests}
use Rattle.schemes.proofs.Basics.Searches.{rises as numbers_rise}
use Rattle.router_table.specs.Items.{item_at}

-- the first item under a number stands at a place
pub first_at : {X : Type 0} (key : X → ℕ) (n : ℕ) (xs : List X) (i : ℕ) (d : X) → i < length xs → key (get_or xs i d) ≡ n → ((j : ℕ) → j < i → key (get_or xs j d) ≢ n) → item_at key n xs ≡ Some (get_or xs i d)
first_at key n [] i d lt is before = absurd (omega arith)
first_at key n (x ∷ xs) zero d lt is before = rw (eq-eqb (key x) n is) refl
first_at key n (x ∷ xs) (suc i) d lt is before = rw (ne_eqb (key x) n (before 0 (omega arith))) (first_at key n xs i d (omega arith) is (λ j l. before (suc j) (omega arith)))

-- no item is under it
pub none_at : {X : Type 0} (key : X → ℕ) (n : ℕ) (xs : List X) → ((j : ℕ) (d : X) → j < length xs → key (get_or xs j d) ≢ n) → item_at key n xs ≡ None
none_at key n [] others = refl
none_at key n (x ∷ xs) others = rw (ne_eqb (key x) n (others 0 x (omega arith))) (none_at key n xs (λ j d lt. others (suc j) d (omega arith)))

module _ {X : Type 0} (key : X → ℕ) (n : ℕ) (xs : List X) (up : IsStrictlyIncreasing (map key xs)) where
  pub rises : (i j : ℕ) (d : X) → i < j → j < length xs → key (get_or xs i d) < key (get_or xs j d)
  rises i j d l lt =
      let many = length-map xs key in
      let here = get_or-map key xs i d 0 (omega (arith, l, lt)) in
      let there = get_or-map key xs j d 0 lt in
      let up_there = numbers_rise (map key xs) up i j l (omega (arith, many, lt)) in
      omega (arith, up_there, here, there)

  pub next_rises : (i : ℕ) (d : X) → i + 1 < length xs → key (get_or xs i d) < key (get_or xs (i + 1) d)
  next_rises i d lt = rises i (i + 1) d (omega arith) lt

  -- the comparisons rise along the list, as a search by halving asks
  pub comparisons_rise : IsNonDecreasingBy (λ x. ordering_index (nat_cmp (key x) n)) xs
  comparisons_rise i j d le lt = elim (cases_lt i j) [
    | inl l ↦ (let up = rises i j d l lt in grind (arith, nat_tests))
    | inr ge ↦ (let same : i ≡ j = omega arith in rw same (omega arith))
  ]

  -- what stands at the place that was found
  pub found : (at : ℕ) (x : X) → at < length xs → ((d : X) → nat_cmp (key (get_or xs at d)) n ≡ Equal) → x ≡ get_or xs at x → item_at key n xs ≡ Some x
  found at x lt equal is =
      let k : key (get_or xs at x) ≡ n = ranked _ n _ (sym (equal x)) in
      first_at key n xs at x lt k (λ j l same. omega (arith, rises j at x l lt, k, same)) ∙ ap (λ y. Some y) (sym is)

  -- where it would stand nothing does
  pub missing : (at : ℕ) → IsPartitionPoint (λ x. nat_cmp (key x) n ≡ Less) (λ x. nat_cmp (key x) n ≡ Greater) xs at → item_at key n xs ≡ None
  missing at parted = none_at key n xs (λ j d lt same. elim (cases_lt j at) [
    | inl l ↦ (let k : key (get_or xs j d) < n = ranked _ n _ (sym (parted.0 j d (omega arith) l)) in omega (arith, k, same))
    | inr ge ↦ (let k : n < key (get_or xs j d) = ranked _ n _ (sym (parted.1 j d ge lt)) in omega (arith, k, same))
  ])
