-- One step, case by case, and what is known of the members of a forest.
use Rattle.std.proofs.Common.{◌≡◌, ℕ, ◌≤◌, ◌<◌, inl, inr, List, [], ◌∷◌, ◌++◌, length, refl, arith, get_or}
use Rattle.std.specs.Prelude.{Some, slice_get}
use Rattle.std.proofs.lemmas.Bool.{cases_lt}
use Rattle.std.proofs.lemmas.Bool.Decides.{nat_tests}
use Rattle.std.proofs.lemmas.Option.{slice_get-get_or}
use Rattle.heavy_labels.specs.Label.{Label}
use Rattle.heavy_labels.specs.Numbering.{Record, arrived, port, step}

pub arrives : (r : Record) (l : Label) → l.first ≡ r.first → step r l ≡ arrived
arrives r l e = grind (arith, nat_tests)

pub goes_up : (r : Record) (l : Label) (q : ℕ) → r.first ≤ r.last → r.parent_port ≡ Some q → (r.first ≤ l.first → r.last < l.first) → step r l ≡ port q
goes_up r l q ok e out = elim (cases_lt l.first r.first) [ inl h ↦ rw e (grind (arith, nat_tests)) | inr h ↦ (let k = out h in rw e (grind (arith, nat_tests))) ]

pub goes_heavy : (r : Record) (l : Label) (q : ℕ) → r.heavy_port ≡ Some q → r.first < l.first → l.first ≤ r.last → l.first ≤ r.heavy_last → step r l ≡ port q
goes_heavy r l q e a b h = rw e (grind (arith, nat_tests))

pub goes_light : (r : Record) (l : Label) (q : ℕ) → slice_get l.lights r.light_depth ≡ Some q → r.first < l.first → l.first ≤ r.last → r.heavy_last < l.first → step r l ≡ port q
goes_light r l q e a b h = rw e (grind (arith, nat_tests))

pub slice_get-middle : (xs ys : List ℕ) (y : ℕ) → slice_get (xs ++ (y ∷ ys)) (length xs) ≡ Some y
slice_get-middle [] ys y = refl
slice_get-middle (x ∷ xs) ys y = slice_get-middle xs ys y

pub slice_get_at : (xs : List ℕ) (i : ℕ) → i < length xs → slice_get xs i ≡ Some (get_or xs i 0)
slice_get_at xs i h = slice_get-get_or xs i 0 h
