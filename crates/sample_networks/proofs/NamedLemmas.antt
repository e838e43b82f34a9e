-- Landmarks that are named.
use Rattle.std.proofs.Common.{arith, ◌≡◌, ◌∙◌, refl, sym, ap, ℕ, zero, suc, ◌+◌, ◌-◌, ◌^◌, ◌*◌, ◌/◌, ◌<◌, ◌≤◌, Bool, true, false, cond, nat_lt, List, [], ◌∷◌, ◌++◌, length, map}
use Rattle.std.proofs.Math.Nat.{div-le_self, le-mul_of_pos_right}
use Rattle.std.proofs.lemmas.Nat.{le-div}
use Rattle.std.proofs.lemmas.List.FromFn.{length-map-range_with_len, map-range_with_len_more}
use Rattle.std.proofs.lemmas.Bool.Decides.{nat_tests}
use Rattle.landmarks.specs.Chosen.{IsBound, chosen}
use Rattle.std.specs.List.{range_with_len}
use Rattle.sample_networks.specs.Named.{flags_at, is_named, word_at, words_at}

-- by such a bound the word of a node says whether it is named
word_says : (b : ℕ) (at : List ℕ) (node : ℕ) → 0 < b → b ≤ 2 ^ 64 - 1 → nat_lt (word_at at node) b ≡ is_named at node
word_says b at node some le = by (is_named at node)
  where
    by : (named : Bool) → nat_lt (cond named 0 (2 ^ 64 - 1)) b ≡ named
    by true = grind (arith, nat_tests, some)
    by false = grind (arith, nat_tests, le)

words_say : (b : ℕ) (at nodes : List ℕ) → 0 < b → b ≤ 2 ^ 64 - 1 → chosen b (map (word_at at) nodes) ≡ map (is_named at) nodes
words_say b at [] some le = refl
words_say b at (node ∷ nodes) some le = λ i. word_says b at node some le i ∷ words_say b at nodes some le i

-- the bound among nodes that a graph may have
root_some : (n q : ℕ) → 1 ≤ n → n ≤ q * q → 0 < q
root_some n zero some above = absurd (omega arith)
root_some n (suc q) some above = omega arith

bound_some : (n b : ℕ) → 1 ≤ n → n < 2 ^ 16 → IsBound n b → 0 < b
bound_some n b some few is =
    let q : ℕ = is.0 in
    let pos : 0 < q = root_some n q some is.1.0.above in
    let le : q ≤ n = is.1.0.least n (le-mul_of_pos_right n some) in
    let one : 1 ≤ (2 ^ 64 - 1) / q = le-div 1 (2 ^ 64 - 1) q pos (omega arith) in
    let same : b ≡ (2 ^ 64 - 1) / q = is.1.1 in
    omega arith

bound_least : (n b : ℕ) → IsBound n b → b ≤ 2 ^ 64 - 1
bound_least n b is = let le = div-le_self (2 ^ 64 - 1) is.0 in let same : b ≡ (2 ^ 64 - 1) / is.0 = is.1.1 in omega arith

-- by their words the named nodes are the landmarks
pub named_are : (n : ℕ) (at words : List ℕ) (flags : List Bool) → 1 ≤ n → n < 2 ^ 16 → words ≡ words_at n at → (b : ℕ) × (IsBound n b × (flags ≡ chosen b words)) → flags ≡ flags_at n at
named_are n at words flags some few is made =
    let b : ℕ = made.0 in
    made.1.1 ∙ ap (λ (l : List ℕ). chosen b l) is ∙ words_say b at (range_with_len 0 n) (bound_some n b some few made.1.0) (bound_least n b made.1.0)

-- there is a word for each node
pub as_many : (n : ℕ) (at words : List ℕ) → words ≡ words_at n at → length words ≡ n
as_many n at words is = ap (λ (l : List ℕ). length l) is ∙ length-map-range_with_len (word_at at) 0 n

-- one word more
pub one_word_more : (n : ℕ) (at words new : List ℕ) (word : ℕ) → words ≡ words_at n at → word ≡ word_at at n → new ≡ words ++ word ∷ [] → new ≡ words_at (n + 1) at
one_word_more n at words new word was here is =
    is ∙ ap (λ (l : List ℕ). l ++ word ∷ []) was ∙ ap (λ (w : ℕ). words_at n at ++ w ∷ []) here ∙ sym (map-range_with_len_more (word_at at) 0 n n (omega arith))
