-- What a copy of a device holds.
use Rattle.std.specs.Prelude.{◌≡◌, ◌⊎◌, ◌++◌, ℕ, List, IsTrue, codes}
use Rattle.std.specs.FinMap.{len}
use Rattle.disk_trait.specs.Disk.{DiskView, LeavesOnly}
use Rattle.layout_2.specs.State.{State}
use Rattle.layout_2.specs.Standing.{StandsFor, StandsForNone}
use Rattle.checkpoint.specs.Whole.{IsAllForeign}
use Rattle.checkpoint.specs.Written.{HoldsFresh}
use Rattle.command_output.specs.Lines.{totals_text}
use Rattle.file_commands.specs.declared.copying.Copied.{Copied}

-- how much a copy holds
abbrev pub copied_text : ℕ → ℕ → List ℕ
copied_text count edges = codes "copied " ++ totals_text count edges

-- a state has so many changes, and its network so many edges
abbrev pub IsTotalOf : State → Copied → Type 0
IsTotalOf state copied = (copied.count ≡ state.count) × (copied.edges ≡ len state.graph.edges)

-- the old content stands for a state of these numbers, and the new device for the same, the last tickets too, as a fresh one: by what a
-- read gives, and by whatever a crash may leave from now on
pub record HasCopied (copied : Copied) (old : List ℕ) (new : DiskView) : Type 0 where
  pub state : State
  pub totals : IsTotalOf state copied
  pub stood : StandsFor state old
  pub holds : HoldsFresh state new

-- the image stands for nothing, or for the state for which the old content stands: never for a part of it
abbrev pub CopiesNoneOrAllOf : List ℕ → List ℕ → Type 0
CopiesNoneOrAllOf old image = StandsForNone image ⊎ ((state : State) × StandsFor state old × StandsFor state image)

-- At any moment a crash leaves on the new device nothing or the whole, where it had no front of this layout before.
abbrev pub CopiesWholly : DiskView → DiskView → DiskView → Type 0
CopiesWholly old new_before new_after =
    IsTrue old.keeps_model → IsTrue new_before.keeps_model → IsAllForeign new_before
    → LeavesOnly new_before new_after (CopiesNoneOrAllOf old.content)
