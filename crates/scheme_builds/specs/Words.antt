-- Words for so many nodes: the first ones count, and missing ones are the greatest.
use Rattle.std.specs.Prelude.{◌≡◌, ◌-◌, ◌^◌, ℕ, zero, suc, List, [], ◌∷◌}
use Rattle.landmarks.specs.Chosen.{IsBound, chosen}
use Rattle.schemes.specs.declared.parts.Parts.{Parts}

-- the greatest word
abbrev pub greatest_word : ℕ
greatest_word = 2 ^ 64 - 1

-- so many words: the first ones, and then the greatest
abbrev pub first_of : ℕ → List ℕ → List ℕ
first_of zero words = []
first_of (suc n) [] = greatest_word ∷ first_of n []
first_of (suc n) (word ∷ words) = word ∷ first_of n words

-- the word at a place, the greatest where there is none
abbrev pub word_of : List ℕ → ℕ → ℕ
word_of [] place = greatest_word
word_of (word ∷ words) zero = word
word_of (word ∷ words) (suc place) = word_of words place

-- the scheme's landmarks are those that these words give among so many nodes
abbrev pub IsByWords : ℕ → List ℕ → Parts → Type 0
IsByWords nodes words p = (bound : ℕ) × (IsBound nodes bound × (p.landmarks.items ≡ chosen bound (first_of nodes words)))
