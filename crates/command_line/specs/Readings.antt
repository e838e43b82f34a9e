-- What a reading of the program's words promises.
use Rattle.std.specs.Prelude.{◌≡◌, ◌⊎◌, List, map, All, Result, IfOk, IfErr}
use Rattle.clap.specs.Walk.{Row, Text, rows_of}
use Rattle.clap.specs.Words.{found_of}
use Rattle.graph_edits.specs.declared.edits.Op.{Op}
use Rattle.value_syntax.specs.OpText.{Fits, op_text}
use Rattle.value_syntax.specs.WordsText.{IsSame}
use Rattle.command_line.specs.Fields.{Field, Landmarks}
use Rattle.command_line.specs.Asked.{Asks, IsCause, IsSameTask, IsTask, Lacks, ValueOf}
use Rattle.command_line.specs.declared.arguments.Arguments.{Arguments}
use Rattle.command_line.specs.declared.refused.WordsRefused.{WordsRefused}
use Rattle.command_line.specs.declared.refused.WordsRefused.TheVariants as why
use Rattle.command_line.specs.declared.task.Task.{Task}

-- the arguments of a command, each with its texts
abbrev pub rows_in : Arguments → List Row
rows_in arguments = rows_of (found_of arguments.found.now)

-- a number that is none, or out of its range, is refused as a usage; or memory ran out
abbrev pub IsNumberRefusal : WordsRefused → Type 0
IsNumberRefusal refused = (refused ≡ why.Usage) ⊎ (refused ≡ why.Memory)

-- texts of which one is no op are refused so; or memory ran out
abbrev pub IsOpRefusal : List Text → WordsRefused → Type 0
IsOpRefusal given refused = (refused ≡ why.Memory) ⊎ ((refused ≡ why.Op) × ((ops : List Op) → All Fits ops → map op_text ops ≡ given → ⊥))

-- A value is read from words that may give one: the answer is what they give, and it is refused only where they give none, or where
-- memory runs out.
pub record Reads {T V : Type 0} (value : T → V) (Given : V → Type 0) (result : Result T WordsRefused) : Type 0 where
  -- the answer is given
  pub found : IfOk result (λ read. Given (value read))
  -- and nothing else is
  pub same : (v : V) → Given v → IfOk result (λ read. value read ≡ v)
  -- where a value is given, memory alone refuses it
  pub only : (v : V) → Given v → IfErr result (λ refused. refused ≡ why.Memory)
  -- every refusal is that of a number
  pub refusals : IfErr result IsNumberRefusal

-- the same value of a field; of landmark words, the same is asked for
abbrev pub IsSameValue : (field : Field) → ValueOf field → ValueOf field → Type 0
IsSameValue Landmarks words other = IsSame words other
IsSameValue field value other = value ≡ other

-- why a field has no value: no text is given, or what is given lacks something
abbrev pub IsFieldCause : Type 0 → (WordsRefused → Type 0) → WordsRefused → Type 0
IsFieldCause IsGiven Lacking why.Usage = IsGiven → ⊥
IsFieldCause IsGiven Lacking why.Memory = Unit {0}
IsFieldCause IsGiven Lacking refused = IsGiven × Lacking refused

-- A field is read whose texts may be wrong in more ways than one: each refusal has its cause.
pub record IsRead {T : Type 0} (rows : List Row) (field : Field) (IsGiven : Type 0) (value : T → ValueOf field) (result : Result T WordsRefused) : Type 0 where
  pub found : IfOk result (λ read. Asks rows field (value read))
  pub same : (v : ValueOf field) → Asks rows field v → IfOk result (λ read. IsSameValue field (value read) v)
  pub cause : IfErr result (IsFieldCause IsGiven (Lacks rows field))

-- Words that may ask for a task are understood: the answer is what they ask for, and each refusal has its cause in them.
pub record Understands (IsAskedFor : Task → Type 0) (IsCaused : WordsRefused → Type 0) (result : Result Task WordsRefused) : Type 0 where
  -- the answer is asked for
  pub asked : IfOk result IsAskedFor
  -- where a task is asked for, it is the answer
  pub only : (task : Task) → IsAskedFor task → IfOk result (λ read. IsSameTask read task)
  -- or memory ran out
  pub refused : (task : Task) → IsAskedFor task → IfErr result (λ refused. refused ≡ why.Memory)
  -- each refusal has its cause, the first one in the order of the tests
  pub cause : IfErr result IsCaused

-- so is a command of this name, with these texts of its arguments
abbrev pub IsUnderstood : Text → List Row → Result Task WordsRefused → Type 0
IsUnderstood name rows result = Understands (IsTask name rows) (IsCause name rows) result
