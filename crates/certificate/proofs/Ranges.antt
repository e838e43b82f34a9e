-- Ranges of nodes: each node lies in one of them, and what holds in all of them holds of each node.
use Rattle.certificate.proofs.Words.{◌≡◌, ℕ, ◌+◌, ◌*◌, ◌/◌, ◌%◌, ◌<◌, ◌≤◌, min, Bool, false, sym, ap, subst, arith, List, length, get_or, inl, inr, IsTrue, All, div_ceil_times, cases_lt, HoldBetween, HoldInRange}
use Rattle.std.proofs.lemmas.Nat.{div-add-mod', div_below, mod_below}

-- the range of a node
pub record Lies (size x k : ℕ) : Type 0 where
  pub i : ℕ
  pub below : i < k
  pub from : i * size ≤ x
  pub to : x < i * size + size

place_of : (size x k : ℕ) → x < k * size → Lies size x k
place_of size x k l = elim (cases_lt 0 size) [
  | inl some ↦ record { i = x / size; below = div_below x size k some l; from = omega (arith, div-add-mod' x size); to = omega (arith, div-add-mod' x size, mod_below x size some) }
  | inr none ↦ absurd (let zero_size : size ≡ 0 = omega (arith, none) in let e : k * size ≡ k * 0 = ap (λ s. k * s) zero_size in omega (arith, l, e))
]

-- what holds between the bounds of a range
pub in_range : (P : ℕ → Type 0) (nodes size i first last : ℕ) → first ≡ min (i * size) nodes → last ≡ min (i * size + size) nodes → HoldBetween P first last → HoldInRange P nodes size i
in_range P nodes size i first last a b h x from to inside = h x (omega (arith, a, from)) (omega (arith, b, to, inside))

-- what holds in all of 16 ranges, as long as they have to be
pub in_all_ranges : (P : ℕ → Type 0) (nodes n size : ℕ) (right : List Bool) → n ≡ nodes → size ≡ n / 16 + min 1 (n % 16) → All (λ b. IsTrue b) right → length right ≡ 16
    → ((i : ℕ) → i < 16 → IsTrue (get_or right i false) → HoldInRange P nodes size i) → (x : ℕ) → x < nodes → P x
in_all_ranges P nodes n size right same wide all many each x l =
    let enough : n ≤ size * 16 = subst (λ s. n ≤ s * 16) (sym wide) (div_ceil_times n 16 (omega arith)).0 in
    let swap : 16 * size ≡ size * 16 = omega arith in
    let p = place_of size x 16 (omega (arith, l, same, enough, swap)) in
    each p.i p.below (all p.i false (omega (arith, many, p.below))) x p.from p.to l
