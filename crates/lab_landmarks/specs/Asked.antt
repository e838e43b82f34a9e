-- What the command is asked for, and what it prints of a device.
use Rattle.std.specs.Prelude.{◌≡◌, ℕ, List, Option, Some, None, true, codes, decimal, option_map}
use Rattle.clap.specs.Walk.{Row, Text, first_of}
use Rattle.disk_trait.specs.Disk.{DiskView}
use Rattle.lab_landmarks.specs.Answers.{HasChosen}
use Rattle.lab_landmarks.specs.declared.choosing.Chosen.{Chosen}
use Rattle.lab_landmarks.specs.declared.choosing.Wanted.{Wanted}
use Rattle.lab_parts.specs.Devices.{OfDevice}
use Rattle.lab_parts.specs.Places.{OutputStep, Place}
use Rattle.lab_parts.specs.States.{Holds}
use Rattle.lab_parts.specs.Words.{IsFlag, IsUsual}
use Rattle.landmark_choice.specs.declared.starts.Start.{Start}
use Rattle.landmark_choice.specs.declared.starts.Start.TheVariants as from
use Rattle.layout_2.specs.State.{State}

-- the word of a start
abbrev pub start_text : Start → Text
start_text from.None = codes "none"
start_text from.Draw = codes "draw"
start_text from.Degree = codes "degree"

-- the start that is named; the best of all, where that is named or none is
abbrev pub IsStart : Option Text → Option Start → Type 0
IsStart text (Some start) = text ≡ Some (start_text start)
IsStart None None = Unit {0}
IsStart (Some text) None = text ≡ codes "best"

-- what is asked for
pub record IsWanted (rows : List Row) (wanted : Wanted) : Type 0 where
  pub seed : IsUsual (first_of (codes "seed") rows) 0 wanted.seed
  pub start : IsStart (first_of (codes "start") rows) wanted.start
  pub most_entries : first_of (codes "most-entries") rows ≡ option_map decimal wanted.most_entries
  pub most : first_of (codes "most") rows ≡ option_map decimal wanted.most
  pub with_figures : IsFlag rows (codes "figures") wanted.with_figures

-- The text of a choice that keeps its limits was printed; where the device keeps the model, it was made for the state that stands on it.
pub record PrintsChoiceFor (rows : List Row) (disk left : DiskView) {W : Type 0} (out : OutputStep W) : Type 0 where
  pub state : State
  pub wanted : Wanted
  pub chosen : Chosen
  pub holds : Holds disk left state
  pub asked : IsWanted rows wanted
  pub kept : chosen.is_kept ≡ true
  pub has : HasChosen state.graph state.count wanted out chosen

-- what the command does where it ends with status 0: it prints a choice for the device that the words name
abbrev pub DoesLandmarks : {D : Type 0} → Place D → List Row → {W : Type 0} → OutputStep W → Type 0
DoesLandmarks place rows out =
    OfDevice place.opened place.closed rows (λ path disk left. PrintsChoiceFor rows (place.model.view disk) (place.model.view left) out)
