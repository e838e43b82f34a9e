-- Where a table goes among those of a shelf.
use Rattle.std.proofs.Common.{◌≡◌, ℕ, zero, suc, ◌-◌, ◌<◌, ◌≤◌, nat_lt, true, false, length, drop, Some, List, [], ◌∷◌, refl, sym, ap, subst, ◌∙◌, arith}
use Rattle.std.specs.List.{insert, remove}
use Rattle.std.proofs.lemmas.Bool.{eq-eqb, lt-ltb, le-ltb, ne_eqb}
use Rattle.std.proofs.lemmas.List.Edits.{length-insert, length-remove}
use Rattle.router_table.specs.Table.{Table}
use Rattle.router_lines.proofs.Keeping.{found_with}
use Rattle.router_lines.specs.Shelves.{IsAt, IsPlaceOf, IsPut, IsTooOld, most_tables, newest, table_in, with_table}

module _ (a : Table) where
  in_rest : (b : Table) (bs : List Table) (p : ℕ) → IsPlaceOf (b ∷ bs) a.head.generation (suc p) → IsPlaceOf bs a.head.generation p
  in_rest b bs p is = record { within = omega (arith, is.within); older = λ k d lt. is.older (suc k) d (omega arith); newer = λ d lt. is.newer d (omega arith) }

  at_rest : (b : Table) (bs : List Table) (p : ℕ) → IsAt bs a.head.generation p → IsAt (b ∷ bs) a.head.generation (suc p)
  at_rest b bs p is = (omega (arith, is.0), is.1)

  older_first : (b : Table) (bs : List Table) (p : ℕ) → IsPlaceOf (b ∷ bs) a.head.generation (suc p) → nat_lt b.head.generation a.head.generation ≡ true
  older_first b bs p is = lt-ltb _ _ (is.older 0 b (omega arith))

  newer_first : (b : Table) (bs : List Table) → IsPlaceOf (b ∷ bs) a.head.generation 0 → nat_lt b.head.generation a.head.generation ≡ false
  newer_first b bs is = le-ltb _ _ (is.newer b (omega arith))

  -- a new generation is put in between
  pub placed_new : (bs : List Table) (p : ℕ) → IsPlaceOf bs a.head.generation p → (IsAt bs a.head.generation p → ⊥) → with_table a bs ≡ insert bs p a
  placed_new [] zero is other = refl
  placed_new [] (suc p) is other = absurd (omega (arith, is.within))
  placed_new (b ∷ bs) zero is other = rw (newer_first b bs is, ne_eqb b.head.generation a.head.generation (λ e. other (omega arith, λ d. e))) refl
  placed_new (b ∷ bs) (suc p) is other = rw (older_first b bs p is) (ap (λ (ts : List Table). b ∷ ts) (placed_new bs p (in_rest b bs p is) (λ at. other (at_rest b bs p at))))

  -- one of the same generation is replaced
  pub placed_same : (bs : List Table) (p : ℕ) → IsPlaceOf bs a.head.generation p → IsAt bs a.head.generation p → with_table a bs ≡ insert (remove bs p) p a
  placed_same [] p is at = absurd (omega (arith, at.0))
  placed_same (b ∷ bs) zero is at = rw (newer_first b bs is, eq-eqb b.head.generation a.head.generation (at.1 b)) refl
  placed_same (b ∷ bs) (suc p) is at = rw (older_first b bs p is) (ap (λ (ts : List Table). b ∷ ts) (placed_same bs p (in_rest b bs p is) (omega (arith, at.0), at.1)))

  -- as many as there is room for are all the newest
  all_new : (ts : List Table) → length ts ≤ most_tables → newest ts ≡ ts
  all_new ts le =
      let none : length ts - most_tables ≡ 0 = omega arith in
      ap (λ n. drop n ts) none

  -- so a table that was put is found, and the newest of all are there
  found : (bs new : List Table) → new ≡ with_table a bs → table_in new a.head.generation ≡ Some a
  found bs new e = subst (λ (ts : List Table). table_in ts a.head.generation ≡ Some a) (sym e) (found_with a bs)

  pub put_same : (bs new : List Table) (p : ℕ) → length bs ≤ most_tables → IsPlaceOf bs a.head.generation p → IsAt bs a.head.generation p → new ≡ insert (remove bs p) p a → IsPut bs a new
  put_same bs new p few is at e =
      let rest = length-remove bs p at.0 in
      let all = length-insert (remove bs p) p a (omega (arith, rest, at.0)) in
      let placed : new ≡ with_table a bs = e ∙ sym (placed_same bs p is at) in
      let whole : newest new ≡ new = all_new new (omega (arith, rest, all, at.0, few, ap (λ (ts : List Table). length ts) e)) in
      record { newest = sym whole ∙ ap newest placed; stands = found bs new placed }

  pub put_new : (bs new : List Table) (p : ℕ) → length bs < most_tables → IsPlaceOf bs a.head.generation p → (IsAt bs a.head.generation p → ⊥) → new ≡ insert bs p a → IsPut bs a new
  put_new bs new p few is other e =
      let all = length-insert bs p a is.within in
      let placed : new ≡ with_table a bs = e ∙ sym (placed_new bs p is other) in
      let whole : newest new ≡ new = all_new new (omega (arith, all, few, ap (λ (ts : List Table). length ts) e)) in
      record { newest = sym whole ∙ ap newest placed; stands = found bs new placed }

  -- where there is no room, the oldest goes
  pub put_full : (bs new : List Table) (p : ℕ) → length bs ≡ most_tables → 0 < p → IsPlaceOf bs a.head.generation p → (IsAt bs a.head.generation p → ⊥) → new ≡ insert (remove bs 0) (p - 1) a → IsPut bs a new
  put_full [] new p full later is other e = absurd (omega (arith, full))
  put_full (b ∷ bs) new zero full later is other e = absurd (omega (arith, later))
  put_full (b ∷ bs) new (suc p) full later is other e =
      let less : suc p - 1 ≡ p = omega arith in
      let rest : new ≡ insert bs p a = subst (λ n. new ≡ insert bs n a) less e in
      let all = length-insert bs p a (omega (arith, is.within)) in
      let placed : new ≡ with_table a bs = rest ∙ sym (placed_new bs p (in_rest b bs p is) (λ at. other (at_rest b bs p at))) in
      let one : length (b ∷ new) - most_tables ≡ 1 = omega (arith, all, full, ap (λ (ts : List Table). length ts) rest) in
      let front : with_table a (b ∷ bs) ≡ b ∷ new = placed_new (b ∷ bs) (suc p) is other ∙ ap (λ (ts : List Table). b ∷ ts) (sym rest) in
      record { newest = sym (ap newest front ∙ ap (λ n. drop n (b ∷ new)) one); stands = found bs new placed }

  -- and where all are newer, it would stand in front of them
  pub put_none : (bs : List Table) (p : ℕ) → length bs ≡ most_tables → p ≡ 0 → IsPlaceOf bs a.head.generation p → (IsAt bs a.head.generation p → ⊥) → IsTooOld bs a
  put_none bs (suc p) full zero_is is other = absurd (omega (arith, zero_is))
  put_none bs zero full zero_is is other = record { full = full; front = placed_new bs 0 is other ∙ first bs }
    where
      first : (bs : List Table) → insert bs 0 a ≡ a ∷ bs
      first [] = refl
      first (b ∷ bs) = refl
