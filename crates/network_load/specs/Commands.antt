-- What `load` and `grow` do.
use Rattle.std.specs.Prelude.{◌≡◌, ℕ, List, [], ◌∷◌, ◌++◌, Option, Some, codes, decimal, option_map}
use Rattle.std.specs.FinMap.{len}
use Rattle.clap.specs.Simple.{App}
use Rattle.clap.specs.Walk.{Row, Text, first_of}
use Rattle.disk_trait.specs.Disk.{DiskView}
use Rattle.layout_2.specs.State.{State}
use Rattle.layout_2.specs.Standing.{StandsFor}
use Rattle.network_load.specs.declared.loading.Made.{Made}
use Rattle.network_load.specs.Loads.{CanGrow, IsLoadOf, with_nodes}
use Rattle.lab_parts.specs.Devices.{OfDevice, OfFile}
use Rattle.lab_parts.specs.Grammar.{app_with, needed_rule, value_rule, word_rule}
use Rattle.lab_parts.specs.Places.{OutputStep, Place, Prints}
use Rattle.lab_parts.specs.States.{Holds}

-- ---- words

-- `load DEVICE FILE [--nodes N]`
abbrev pub load_app : App
load_app = app_with (codes "load") (word_rule (codes "device") ∷ word_rule (codes "file") ∷ value_rule (codes "nodes") ∷ [])

-- `grow DEVICE NEW --nodes N`
abbrev pub grow_app : App
grow_app = app_with (codes "grow") (word_rule (codes "device") ∷ word_rule (codes "new") ∷ needed_rule (codes "nodes") ∷ [])

-- ---- a list

-- the line of a device that was made: its changes, its edges and its nodes
abbrev pub totals_of : Made → List ℕ
totals_of made = codes "count=" ++ (decimal made.count ++ (codes " edges=" ++ (decimal made.edges ++ (codes " nodes=" ++ (decimal made.nodes ++ codes "\n")))))

-- A device was made of a list and put by the path among the words, with as many nodes as they ask for, and its line was printed.
pub record PutsLoad (puts : Text → List ℕ → Type 0) (rows : List Row) (text : Text) {W : Type 0} (out : OutputStep W) : Type 0 where
  pub path : Text
  pub nodes : Option ℕ
  pub made : Made
  pub named : first_of (codes "device") rows ≡ Some path
  pub asked : first_of (codes "nodes") rows ≡ option_map decimal nodes
  pub is_load : IsLoadOf text nodes made
  pub put : puts path made.bytes.items
  pub printed : Prints out (totals_of made)

-- what the command does where it ends with status 0: it makes a device of the file that the words name
abbrev pub DoesLoad : (Text → Option Text → Type 0) → (Text → List ℕ → Type 0) → List Row → {W : Type 0} → OutputStep W → Type 0
DoesLoad stands puts rows out = OfFile stands rows (λ text. PutsLoad puts rows text out)

-- ---- a larger device

-- the line of a state that has so many nodes now
abbrev pub grown_of : State → ℕ → List ℕ
grown_of state nodes = codes "grown count=" ++ (decimal state.count ++ (codes " edges=" ++ (decimal (len state.graph.edges) ++ (codes " nodes=" ++ (decimal nodes ++ codes "\n")))))

-- A device that holds the state of the other one with more nodes, as many as the words ask for, was put by the new path among them, and its line was
-- printed.
pub record PutsGrown (puts : Text → List ℕ → Type 0) (rows : List Row) (disk left : DiskView) {W : Type 0} (out : OutputStep W) : Type 0 where
  pub path : Text
  pub nodes : ℕ
  pub state : State
  pub bytes : List ℕ
  pub named : first_of (codes "new") rows ≡ Some path
  pub asked : first_of (codes "nodes") rows ≡ Some (decimal nodes)
  pub holds : Holds disk left state
  pub grows : CanGrow state.graph.nodes nodes
  pub stands : StandsFor (with_nodes state nodes) bytes
  pub put : puts path bytes
  pub printed : Prints out (grown_of state nodes)

-- what the command does where it ends with status 0: it makes a larger device of the one that the words name
abbrev pub DoesGrow : {D : Type 0} → Place D → (Text → List ℕ → Type 0) → List Row → {W : Type 0} → OutputStep W → Type 0
DoesGrow place puts rows out =
    OfDevice place.opened place.closed rows (λ path disk left. PutsGrown puts rows (place.model.view disk) (place.model.view left) out)
