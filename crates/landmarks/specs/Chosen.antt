-- Which nodes are landmarks, by the words that they drew.
use Rattle.std.proofs.Common.{sym, ap, ◌∙◌, arith}
use Rattle.std.specs.Prelude.{◌≡◌, ℕ, ◌-◌, ◌*◌, ◌/◌, ◌^◌, ◌≤◌, Bool, false, nat_lt, List, map, IsTrue, slice_index_or}

-- q is the square root of n, rounded up: the least whole number whose square is at least n
pub record IsRootAbove (n q : ℕ) : Type 0 where
  pub above : n ≤ q * q
  pub least : (p : ℕ) → n ≤ p * p → q ≤ p

-- b is the bound below which a word makes its node a landmark, among n nodes
abbrev pub IsBound : ℕ → ℕ → Type 0
IsBound n b = (q : ℕ) × (IsRootAbove n q × (b ≡ (2 ^ 64 - 1) / q))

-- whether each node is a landmark, where the bound is b
abbrev pub chosen : ℕ → List ℕ → List Bool
chosen b words = map (λ word. nat_lt word b) words

-- by these flags, one for each node, v is a landmark
abbrev pub IsLandmark : List Bool → ℕ → Type 0
IsLandmark flags v = IsTrue (slice_index_or flags v false)

-- a number of nodes has one bound
pub IsBound-unique : (n b c : ℕ) → IsBound n b → IsBound n c → b ≡ c
IsBound-unique n b c p q =
    let up = p.1.0.least q.0 q.1.0.above in
    let down = q.1.0.least p.0 p.1.0.above in
    let same : p.0 ≡ q.0 = omega arith in
    p.1.1 ∙ ap (λ r. (2 ^ 64 - 1) / r) same ∙ sym q.1.1
