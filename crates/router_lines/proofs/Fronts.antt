-- What stands behind a word.
use Rattle.std.proofs.Common.{◌≡◌, ◌≢◌, ◌<◌, ◌++◌, ℕ, List, length, take, drop, refl, sym, ap, ◌∙◌, arith}
use Rattle.std.proofs.lemmas.List.{length-append, take-append-drop, take_at}

pub short_front : (line word : List ℕ) → length line < length word → (rest : List ℕ) → line ≢ word ++ rest
short_front line word short rest e = omega (arith, short, ap (λ (l : List ℕ). length l) e ∙ length-append word rest)

pub front_of_other : (line word : List ℕ) → take (length word) line ≢ word → (rest : List ℕ) → line ≢ word ++ rest
front_of_other line word other rest e = other (ap (λ (l : List ℕ). take (length word) l) e ∙ take_at word rest (length word) refl)

pub front_and_rest : (line word : List ℕ) → take (length word) line ≡ word → line ≡ word ++ drop (length word) line
front_and_rest line word same = sym (take-append-drop (length word) line) ∙ ap (λ (f : List ℕ). f ++ drop (length word) line) same
