-- How lines are read.
use Rattle.std.specs.Prelude.{◌≡◌, ◌+◌, ◌++◌, ℕ, Bool, true, false, List, Option, Result, IfErr, IfOk, IfSome, length}
use Rattle.input_lines.specs.Reading.{AreRead}
use Rattle.value_syntax.specs.declared.line.ScriptLine.{ScriptLine}
use Rattle.line_exchange.specs.Inputs.{Input, Bytes, Script}
use Rattle.line_exchange.specs.declared.line_fault.LineFault.{LineFault}
use Rattle.line_exchange.specs.declared.line_fault.LineFault.TheVariants.{Failed}
use Rattle.line_exchange.specs.Prints.{AreAllLines}

-- where the bytes of an input are known, so many lines of them are read, and the others are left
abbrev pub AreReadOf : Input → ℕ → Option (List ℕ) → Type 0
AreReadOf (Bytes bytes) count left = IfSome bytes (λ xs. AreRead xs count left)
AreReadOf (Script script) count left = ⊥

-- a line more is read, or there was none
abbrev pub IsReadSo : Input → ℕ → Bool → Option (List ℕ) → Type 0
IsReadSo input count true left = AreReadOf input (count + 1) left
IsReadSo input count false left = AreAllLines input count

-- so many lines of a script are given, and the others are left
pub record AreGiven (script : List ScriptLine) (count : ℕ) (left : List ScriptLine) : Type 0 where
  pub given : List ScriptLine
  pub many : length given ≡ count
  pub all : script ≡ given ++ left

abbrev pub AreGivenOf : Input → ℕ → List ScriptLine → Type 0
AreGivenOf (Bytes bytes) count left = ⊥
AreGivenOf (Script script) count left = AreGiven script count left

-- lines that are read from an input: of a script no read fails
abbrev pub AreOfInput : Input → Type 0
AreOfInput (Bytes bytes) = Unit {0}
AreOfInput (Script script) = ⊥

abbrev pub MayFailSo : Input → LineFault → Type 0
MayFailSo input why = why ≡ Failed → AreOfInput input

-- how the reading ended: where it came to the end, with so many lines
abbrev pub IsReadEnd : Input → Result (Option ℕ) LineFault → Type 0
IsReadEnd input result = IfOk result (λ o. IfSome o (λ lines. AreAllLines input lines)) × IfErr result (λ why. MayFailSo input why)
