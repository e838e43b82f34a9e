-- A choice that grows by a node behind all of it.
use Rattle.std.proofs.Common.{◌≡◌, refl, ap, ℕ, suc, ◌+◌, ◌<◌, ◌≤◌, List, [], ◌∷◌, ◌++◌, length, arith}
use Rattle.std.specs.List.{All}
use Rattle.std.proofs.lemmas.List.Elements.{All-head, All-tail, All-push, All-weaker}
use Rattle.landmark_choice.specs.Choices.{AscendFrom, IsChoice}

-- a number that is greater than all others, behind them
ascend_more : (first : ℕ) (xs : List ℕ) (y : ℕ) → AscendFrom first xs → first ≤ y → All (λ x. x < y) xs → AscendFrom first (xs ++ y ∷ [])
ascend_more first [] y up le below = (le, tt)
ascend_more first (x ∷ xs) y up le below =
    let less = All-head (λ z. z < y) x xs below in
    (up.0, ascend_more (x + 1) xs y up.1 (omega (arith, less)) (All-tail (λ z. z < y) x xs below))

length_more : (xs : List ℕ) (y : ℕ) → length (xs ++ y ∷ []) ≡ suc (length xs)
length_more [] y = refl
length_more (x ∷ xs) y = ap suc (length_more xs y)

below_next : (n : ℕ) (xs : List ℕ) → All (λ x. x < n) xs → All (λ x. x < n + 1) xs
below_next n xs = All-weaker (λ x. x < n) (λ x. x < n + 1) (λ x less. omega (arith, less)) xs

-- the next number, behind the choice of smaller ones
pub one_more : (n most : ℕ) (xs : List ℕ) → IsChoice n most xs → length xs < most → IsChoice (n + 1) most (xs ++ n ∷ [])
one_more n most xs choice room = record {
  ascending = ascend_more 0 xs n choice.ascending (omega arith) choice.nodes_of;
  nodes_of = All-push (λ x. x < n + 1) xs n (below_next n xs choice.nodes_of) (omega arith);
  few = (let more = length_more xs n in omega (arith, more, room));
}

-- the same choice, among one node more
pub no_more : (n most : ℕ) (xs : List ℕ) → IsChoice n most xs → IsChoice (n + 1) most xs
no_more n most xs choice = record {
  ascending = choice.ascending;
  nodes_of = below_next n xs choice.nodes_of;
  few = choice.few;
}
