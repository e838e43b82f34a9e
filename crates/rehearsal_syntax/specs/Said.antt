-- What the lines of a text say.
use Rattle.std.specs.Prelude.{◌≡◌, ◌==◌, ◌≤◌, ◌-◌, ℕ, Bool, List, ◌++◌, length, map, not, take}
use Rattle.std.specs.List.{before_first, filter}
use Rattle.value_syntax.specs.Scripts.{words_of as parts_of}
use Rattle.rehearsal_syntax.specs.declared.line.RehearsalLine.{RehearsalLine}
use Rattle.rehearsal_syntax.specs.Grammar.{IsRehearsal, line_words}

-- a line without its comment: what stands before the first `#`
abbrev pub bare : List ℕ → List ℕ
bare text = before_first (λ b. b == 35) text

abbrev pub isnt_empty : {A : Type 0} → List A → Bool
isnt_empty xs = not (length xs == 0)

-- the words of a line: what stands between blanks, where something does
abbrev pub words_of : List ℕ → List (List ℕ)
words_of text = filter isnt_empty (parts_of (bare text))

-- the words of the lines that have one
abbrev pub said : List (List ℕ) → List (List (List ℕ))
said texts = filter isnt_empty (map words_of texts)

-- these lines say that: lines without a word say nothing
abbrev pub Say : List (List ℕ) → List RehearsalLine → Type 0
Say texts lines = said texts ≡ map line_words lines

-- these lines say that, and are a rehearsal
abbrev pub SayRehearsal : List (List ℕ) → List RehearsalLine → Type 0
SayRehearsal texts lines = Say texts lines × IsRehearsal lines

-- Line n, counted from 1, is the first that isn't understood: the lines before it begin a rehearsal, and no rehearsal begins with the
-- lines up to it, whatever the lines behind it are.
pub record IsFirstRefused (texts : List (List ℕ)) (n : ℕ) : Type 0 where
  pub some : 1 ≤ n
  pub within : n ≤ length texts
  pub before : (lines : List RehearsalLine) × Say (take (n - 1) texts) lines × IsRehearsal lines
  pub refused : (more : List (List ℕ)) (lines : List RehearsalLine) → Say (take n texts ++ more) lines → IsRehearsal lines → ⊥
