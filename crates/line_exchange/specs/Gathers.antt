-- What is gathered of the answers to a script, and printed at the end.
use Rattle.std.specs.Prelude.{◌≡◌, ℕ, [], List, Option, Some, None, IfSome}
use Rattle.std.specs.Io.KnownBytes.{Appends}
use Rattle.command_output.specs.declared.fault.Fault.{Fault}
use Rattle.command_output.specs.declared.fault.Fault.TheVariants as told
use Rattle.line_exchange.specs.Begun.{Begins}
use Rattle.line_exchange.specs.declared.answer_writer.AnswerWriter.{Ghosts}
use Rattle.value_syntax.specs.declared.line.ScriptLine.{ScriptLine}
use Rattle.live_lines.specs.declared.answer.Answer.{Answer}
use Rattle.live_lines.specs.Answers.{script_text}
use Rattle.line_exchange.specs.declared.served.Served.{Served}
use Rattle.line_exchange.specs.declared.served.Served.TheVariants as served
use Rattle.line_exchange.specs.Ends.{fault_of}
use Rattle.line_exchange.specs.Inputs.{Input}
use Rattle.line_exchange.specs.Scripts.{AreOfScript}
use Rattle.line_exchange.specs.Prints.{HasPrintedBy, lines_of}
use Rattle.line_exchange.specs.declared.tally.Tally.{Tally}

-- the text is the lines that a script has of so many answers, which each list says that goes on from what the tally knows
abbrev pub HasText : Tally → Input → ℕ → List ℕ → Type 0
HasText tally input editors text = HasPrintedBy script_text tally input editors (Appends (Some []) (Some text))

-- What becomes of the text on a writer, where the service had this fault or none, and ended so.
pub record PrintsAtEnd {W : Type 0} (outlet : Ghosts W) (text : List ℕ) (old new : W) (given : Option Fault) (ended : Served) : Type 0 where
  pub printed : ended ≡ served.Printed → Appends (outlet.contents old) (outlet.contents new) text
  -- without a fault a beginning of it is printed, and where that isn't all a write of this very writer has failed
  pub begun : given ≡ None → Begins (outlet.contents old) (outlet.contents new) text
  pub failed : given ≡ None → fault_of ended ≡ Some told.Output → outlet.has_failed new
  -- and with a fault nothing
  pub untouched : IfSome given (λ fault. new ≡ old)

-- this holds of the lines of answers to this script: verdicts just where its lines are edits
abbrev pub IsServed : List ScriptLine → (List ℕ → Type 0) → Type 0
IsServed script Stands = (answers : List Answer) × AreOfScript script answers × Stands (lines_of script_text answers)

-- a write of the writer has failed, and a beginning of the lines of answers to this script was printed
abbrev pub BreaksOff : {W : Type 0} → Ghosts W → List ScriptLine → W → W → Type 0
BreaksOff outlet script old new = outlet.has_failed new × IsServed script (Begins (outlet.contents old) (outlet.contents new))
