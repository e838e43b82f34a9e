-- The landmark words of a graph's nodes.
use Rattle.std.specs.Prelude.{◌≡◌, ℕ, zero, suc, ◌<◌, ◌^◌, ◌-◌, List, All, Contains, length, replicate, slice_index}
use Rattle.rand_xoshiro.specs.SplitMix64.{splitmix_seed}
use Rattle.rand_xoshiro.specs.Xoshiro256.{of_seed, plus_plus}
use Rattle.value_syntax.specs.declared.words.LandmarkWords.{LandmarkWords}
use Rattle.value_syntax.specs.declared.words.LandmarkWords.TheVariants.{Greatest, ZeroAt, Drawn}

-- the greatest word, by which no node is a landmark
abbrev pub greatest : ℕ
greatest = 2 ^ 64 - 1

-- the state that a SplitMix64, begun at the seed, gives in 32 bytes
unfoldable pub first_state : ℕ → List ℕ
first_state seed = of_seed (splitmix_seed 32 seed)

-- the state after k words of a xoshiro256++
unfoldable pub state_after : List ℕ → ℕ → List ℕ
state_after state zero = state
state_after state (suc k) = (plus_plus (state_after state k)).1

-- its next word after k words
abbrev pub word_after : List ℕ → ℕ → ℕ
word_after state k = (plus_plus (state_after state k)).0

-- the first n words from a state
pub record AreDrawn (state : List ℕ) (n : ℕ) (words : List ℕ) : Type 0 where
  pub count : length words ≡ n
  pub each : (k : ℕ) → k < n → slice_index words k ≡ word_after state k

-- a word for each of n nodes: 0 at the nodes listed, greatest at the others
pub record AreZeroAt (nodes : List ℕ) (n : ℕ) (words : List ℕ) : Type 0 where
  pub count : length words ≡ n
  pub zeros : (node : ℕ) → node < n → Contains nodes node → slice_index words node ≡ 0
  pub others : (node : ℕ) → node < n → ¬ Contains nodes node → slice_index words node ≡ greatest

-- a word for each of n nodes, as asked for
abbrev pub AreWords : LandmarkWords → ℕ → List ℕ → Type 0
AreWords Greatest n words = words ≡ replicate n greatest
AreWords (ZeroAt nodes) n words = AreZeroAt nodes.items n words
AreWords (Drawn seed) n words = AreDrawn (first_state seed) n words

-- each node that is named is below n
abbrev pub IsWithin : LandmarkWords → ℕ → Type 0
IsWithin Greatest n = Unit {0}
IsWithin (ZeroAt nodes) n = All (λ node. node < n) nodes.items
IsWithin (Drawn seed) n = Unit {0}
