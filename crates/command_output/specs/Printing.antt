-- What is printed on a writer, and what a command promises that prints its answer there.
use Rattle.std.specs.Prelude.{◌≡◌, ◌≢◌, ℕ, List, Option, Result, IfErr, IfOk, IfSome}
use Rattle.std.specs.Io.KnownBytes.{Appends}
use Rattle.command_output.specs.Lines.{line}
use Rattle.command_output.specs.declared.ended.Ended.{Ended}
use Rattle.command_output.specs.declared.fault.Fault.{Fault}
use Rattle.command_output.specs.declared.fault.Fault.TheVariants.{Output}

-- what a reader gives or what stands on a writer, where that is known
abbrev pub Known : Type 0
Known = Option (List ℕ)

-- this text was printed, and nothing else
abbrev pub PrintsText : {W : Type 0} → (W → Known) → W → W → List ℕ → Type 0
PrintsText contents old new text = Appends (contents old) (contents new) text

-- the same of a text as a line, where the text is known
abbrev pub PrintsLine : {W : Type 0} → (W → Known) → W → W → Known → Type 0
PrintsLine contents old new text = IfSome text (λ known. PrintsText contents old new (line known))

-- How a command ends that prints its answer on a writer.
pub record Ends {W : Type 0} (Prints : Ended → Known → Known → Type 0) (MayFail : Fault → Type 0)
    (contents : W → Known) (old new : W) (result : Result Ended Fault) : Type 0 where
  -- what it printed is the answer
  pub printed : IfOk result (λ ended. Prints ended (contents old) (contents new))
  -- or one of these faults ended it
  pub fault : IfErr result MayFail
  -- only where the output failed may a part be printed
  pub untouched : IfErr result (λ fault. fault ≢ Output → new ≡ old)
