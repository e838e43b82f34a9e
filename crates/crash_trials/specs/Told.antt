-- What is printed of a rehearsal's text.
use Rattle.std.specs.Prelude.{◌≡◌, ◌≢◌, ◌⊎◌, ◌<◌, ◌≤◌, ℕ, List, [], Option, Some, codes, length}
use Rattle.clap.specs.Walk.{Row, Text, first_of}
use Rattle.crash_trials.specs.declared.told.Asked.{Asked}
use Rattle.crash_trials.specs.declared.told.Asked.TheVariants.{Report, Stops}
use Rattle.crash_trials.specs.declared.told.NotRehearsed.{NotRehearsed}
use Rattle.crash_trials.specs.declared.told.NotRehearsed.TheVariants.{Line, Lives, Print}
use Rattle.rehearsal_syntax.specs.declared.line.RehearsalLine.{RehearsalLine}
use Rattle.rehearsal_syntax.specs.Said.{IsFirstRefused, SayRehearsal}
use Rattle.rehearsals.specs.declared.asked.Rehearsal.{Rehearsal}
use Rattle.lab_parts.specs.Devices.{OfFile}
use Rattle.lab_parts.specs.Places.{OutputStep, Prints}
use Rattle.lab_parts.specs.Words.{IsUsual}
use Rattle.lab_parts.specs.declared.telling.PrintRefused.TheVariants.{Memory}
use Rattle.rehearsals.specs.Asked.{AreAsked}
use Rattle.rehearsals.specs.Rehearsed.{IsRehearsed}
use Rattle.crash_trials.specs.Trials.{IsTrialsText, IsTried}
pub use Rattle.crash_trials.specs.Trials.{TrialDevices}
use Rattle.value_syntax.specs.Scripts.{lines_of}

-- The text is a report of the lives of a rehearsal, or of the trials at the stops of its last written life, where there is one.
abbrev pub IsToldOf : TrialDevices → Rehearsal → Asked → List ℕ → Type 0
IsToldOf devices rehearsal Report told = IsRehearsed devices.memory rehearsal told
IsToldOf devices rehearsal (Stops most) told =
    (length rehearsal.lives.items < 2 → IsTrialsText 0 [] told) × (2 ≤ length rehearsal.lives.items → IsTried devices rehearsal most told)

-- the lines ask for these lives, of which this is told
pub record IsAskedAndTold (devices : TrialDevices) (lines : List RehearsalLine) (asked : Asked) (told : List ℕ) : Type 0 where
  pub rehearsal : Rehearsal
  pub are : AreAsked rehearsal.nodes lines rehearsal.lives.items
  pub is : IsToldOf devices rehearsal asked told

-- what is told of lines: of none nothing
abbrev pub IsToldOfLines : TrialDevices → List RehearsalLine → Asked → List ℕ → Type 0
IsToldOfLines devices lines asked told = ((lines ≡ []) × (told ≡ [])) ⊎ IsAskedAndTold devices lines asked told

-- What was printed is what is asked for of the lives that the text spells.
pub record PrintsTold (devices : TrialDevices) (text : List ℕ) (asked : Asked) {W : Type 0} (out : OutputStep W) : Type 0 where
  pub lines : List RehearsalLine
  pub spelt : SayRehearsal (lines_of text) lines
  pub told : List ℕ
  pub is : IsToldOfLines devices lines asked told
  pub printed : Prints out told

-- the words ask for a report, or for stops
abbrev pub IsAskedFor : List Row → Asked → Type 0
IsAskedFor rows Report = first_of (codes "every-stop") rows ≢ Some (codes "true")
IsAskedFor rows (Stops most) = (first_of (codes "every-stop") rows ≡ Some (codes "true")) × IsUsual (first_of (codes "most") rows) 4096 most

-- what the words ask for of a text was printed
abbrev pub PrintsToldFor : TrialDevices → List Row → List ℕ → {W : Type 0} → OutputStep W → Type 0
PrintsToldFor devices rows text out = (asked : Asked) × IsAskedFor rows asked × PrintsTold devices text asked out

-- what the command does where it ends with status 0: it prints what is asked for of the file that the words name
abbrev pub DoesRehearse : TrialDevices → (Text → Option Text → Type 0) → List Row → {W : Type 0} → OutputStep W → Type 0
DoesRehearse devices stands rows out = OfFile stands rows (λ text. PrintsToldFor devices rows text out)

-- why no lives are run, where every line is understood
abbrev pub IsNotRun : NotRehearsed → Type 0
IsNotRun (Line refused) = ⊥
IsNotRun (Lives refused) = Unit {0}
IsNotRun (Print refused) = refused ≡ Memory

-- why not all is told: this is the first line that isn't understood, or all lines are
abbrev pub IsWhyNot : List ℕ → NotRehearsed → Type 0
IsWhyNot text (Line refused) = IsFirstRefused (lines_of text) refused.number
IsWhyNot text (Lives refused) = (lines : List RehearsalLine) × SayRehearsal (lines_of text) lines
IsWhyNot text (Print refused) = Unit {0}
