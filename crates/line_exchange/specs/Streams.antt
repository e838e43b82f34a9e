-- What the lines of an input ask for, and which answers are of them.
use Rattle.std.specs.Prelude.{◌≡◌, ◌⊎◌, ◌≤◌, ◌<◌, ℕ, List, Some, IfSome, length, slice_get}
use Rattle.input_lines.specs.Lines.{line_at, longest_line}
use Rattle.live_lines.specs.declared.asked.Asked.{Asked}
use Rattle.live_lines.specs.declared.asked.Asked.TheVariants.{NotUnderstood}
use Rattle.live_lines.specs.declared.answer.Answer.{Answer}
use Rattle.live_lines.specs.Answers.{FitsAsked}
use Rattle.live_lines.specs.Lines.{IsAskedIn}
use Rattle.line_exchange.specs.Inputs.{Input, Bytes, Script}
use Rattle.line_exchange.specs.Scripts.{IsLineAsked}

-- a line asks for this; one that is too long asks for nothing that is known
abbrev pub LineAsks : ℕ → List ℕ → Asked → Type 0
LineAsks editors line asked = ((length line ≤ longest_line) × IsAskedIn editors line asked) ⊎ ((longest_line < length line) × (asked ≡ NotUnderstood))

-- the line at a place of these bytes asks for this, in a service of so many editors
pub record IsAskedBy (bytes : List ℕ) (editors place : ℕ) (asked : Asked) : Type 0 where
  pub line : List ℕ
  pub at : line_at bytes place ≡ Some line
  pub asks : LineAsks editors line asked

-- the line at a place asks for this, where it is known
abbrev pub IsAskedAt : Input → ℕ → ℕ → Asked → Type 0
IsAskedAt (Bytes bytes) editors place asked = IfSome bytes (λ xs. IsAskedBy xs editors place asked)
IsAskedAt (Script script) editors place asked = IsLineAsked script place asked

-- an answer to what the line at a place asks for
pub record IsAnswerAt (input : Input) (editors place : ℕ) (answer : Answer) : Type 0 where
  pub asked : Asked
  pub by : IsAskedAt input editors place asked
  pub fits : FitsAsked asked answer

-- each answer is so at its place
abbrev pub AreEachAt : (ℕ → Answer → Type 0) → List Answer → Type 0
AreEachAt Is answers = (k : ℕ) (answer : Answer) → slice_get answers k ≡ Some answer → ∥ Is k answer ∥₁
