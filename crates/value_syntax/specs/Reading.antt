-- What the readers of texts promise.
use Rattle.std.specs.Prelude.{◌≡◌, ℕ, List, map, IfOk, IfSome, IsSomeAnd, Option, Some, Result}
use Rattle.std.specs.Global.{Vec}
use denote.Ref.{Bor}
use Rattle.value_syntax.specs.declared.words.LandmarkWords.{LandmarkWords}
use Rattle.value_syntax.specs.Scripts.{Script, line_words, words_of}
use Rattle.value_syntax.specs.WordsText.{IsSame}

-- what is read, if anything, is so
abbrev pub IfRead : {A E : Type 0} → Result (Option A) E → (A → Type 0) → Type 0
IfRead result IsSo = IfOk result (λ o. IfSome o IsSo)

-- unless there is an error, this is read
abbrev pub Reads : {A E : Type 0} → Result (Option A) E → A → Type 0
Reads result a = IfOk result (λ o. o ≡ Some a)

-- unless there is an error, these are read
abbrev pub ReadsList : {A E : Type 0} → Result (Option (Vec A)) E → List A → Type 0
ReadsList result all = IfOk result (λ o. IsSomeAnd o (λ read. read.items ≡ all))

-- unless there is an error, a number and the text behind it are read
abbrev pub ReadsPair : {E : Type 0} → Result (Option (ℕ × Bor (List ℕ))) E → ℕ → List ℕ → Type 0
ReadsPair result n rest = IfOk result (λ o. IsSomeAnd o (λ p. (p.0 ≡ n) × (p.1.now ≡ rest)))

-- unless there is an error, these landmark words are read
abbrev pub ReadsWords : {E : Type 0} → Result (Option LandmarkWords) E → LandmarkWords → Type 0
ReadsWords result words = IfOk result (λ o. IsSomeAnd o (λ read. IsSame read words))

-- the texts behind references
abbrev pub texts_of : List (Bor (List ℕ)) → List (List ℕ)
texts_of texts = map (λ x. x.now) texts

-- the words of each text
abbrev pub words_of_each : List (Bor (List ℕ)) → List (List (List ℕ))
words_of_each texts = map (λ x. words_of x.now) texts

-- the texts are these lines, each by its words
abbrev pub AreLines : List (Bor (List ℕ)) → Script → Type 0
AreLines texts script = words_of_each texts ≡ map line_words script
