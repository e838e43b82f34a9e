-- Square roots, by a test without the product.
use Rattle.std.proofs.Common.{ℕ, ◌-◌, ◌*◌, ◌/◌, ◌<◌, ◌≤◌, inl, inr, arith}
use Rattle.std.proofs.lemmas.Bool.{cases_lt}
use Rattle.std.proofs.lemmas.Nat.{le-div}

-- where r is above (n - 1) / r, its square is at least n
pub square_above : (n r : ℕ) → 1 ≤ r → (n - 1) / r < r → n ≤ r * r
square_above n r some lt = elim (cases_lt (n - 1) (r * r)) [
  | inl below ↦ omega (arith, below)
  | inr over ↦ let le = le-div r (n - 1) r some over in absurd (omega (arith, lt, le))
]
