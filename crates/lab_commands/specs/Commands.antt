-- What the program does.
use Rattle.std.specs.Prelude.{◌≡◌, ◌⊎◌, ℕ, List, Option, Some, codes, slice_get}
use Rattle.std.specs.Borrow.{Bor}
use Rattle.clap.specs.Walk.{Row, Text}
use Rattle.crash_trials.specs.Told.{DoesRehearse, TrialDevices}
use Rattle.device_info.specs.Commands.{DoesInfo, DoesJournal}
use Rattle.lab_landmarks.specs.Asked.{DoesLandmarks}
use Rattle.lab_parts.specs.Places.{OutputStep, Place}
use Rattle.network_load.specs.Commands.{DoesGrow, DoesLoad}

-- a word that asks for help
abbrev pub IsHelp : Text → Type 0
IsHelp word = (word ≡ codes "help") ⊎ (word ≡ codes "--help") ⊎ (word ≡ codes "-h")

-- one stands among the words
abbrev pub AskHelp : List (Bor Text) → Type 0
AskHelp words = (i : ℕ) × (word : Bor Text) × (slice_get words i ≡ Some word) × IsHelp word.now

-- the commands that only read a device did this
abbrev pub DoesReading : {D : Type 0} → Place D → Text → List Row → {W : Type 0} → OutputStep W → Type 0
DoesReading place name rows out =
    ((name ≡ codes "info") × DoesInfo place rows out)
    ⊎ ((name ≡ codes "journal") × DoesJournal place rows out)
    ⊎ ((name ≡ codes "landmarks") × DoesLandmarks place rows out)

-- those that make one did this
abbrev pub DoesMaking : {D : Type 0} → Place D → (Text → List ℕ → Type 0) → Text → List Row → {W : Type 0} → OutputStep W → Type 0
DoesMaking place puts name rows out = ((name ≡ codes "load") × DoesLoad place.stands puts rows out) ⊎ ((name ≡ codes "grow") × DoesGrow place puts rows out)

-- The command that the words named did what the texts of its arguments ask for: on a device that was opened to read it, or by a file that was read.
abbrev pub Does : TrialDevices → {D : Type 0} → Place D → (Text → List ℕ → Type 0) → Option (Text × List Row) → {W : Type 0} → OutputStep W → Type 0
Does devices place puts command out = (name : Text) × (rows : List Row) × (command ≡ Some (name, rows))
    × (DoesReading place name rows out ⊎ DoesMaking place puts name rows out ⊎ ((name ≡ codes "rehearse") × DoesRehearse devices place.stands rows out))
