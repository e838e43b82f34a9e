-- One word more.
use Rattle.std.proofs.Common.{◌≡◌, ◌<◌, ◌≤◌, ℕ, zero, suc, List, [], ◌∷◌, ◌++◌, length, refl, ap, arith}
use Rattle.std.specs.Prelude.{slice_index_or}
use Rattle.scheme_builds.specs.Words.{first_of, word_of, greatest_word}

pub first_more : (n : ℕ) (words : List ℕ) → first_of (suc n) words ≡ first_of n words ++ word_of words n ∷ []
first_more zero [] = refl
first_more zero (w ∷ words) = refl
first_more (suc n) [] = ap (λ (l : List ℕ). greatest_word ∷ l) (first_more n [])
first_more (suc n) (w ∷ words) = ap (λ (l : List ℕ). w ∷ l) (first_more n words)

pub word_here : (words : List ℕ) (place : ℕ) → place < length words → slice_index_or words place 0 ≡ word_of words place
word_here [] place l = absurd (omega arith)
word_here (w ∷ words) zero l = refl
word_here (w ∷ words) (suc place) l = word_here words place (omega arith)

pub word_missing : (words : List ℕ) (place : ℕ) → length words ≤ place → greatest_word ≡ word_of words place
word_missing [] place l = refl
word_missing (w ∷ words) zero l = absurd (omega arith)
word_missing (w ∷ words) (suc place) l = word_missing words place (omega arith)
