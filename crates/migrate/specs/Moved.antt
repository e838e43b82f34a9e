-- What goes over from a device of layout 1 to one of layout 2.
use Rattle.std.specs.Prelude.{◌≡◌, ◌⊎◌, ℕ, List, IfOk, IsTrue, Result}
use Rattle.std.specs.FinMap.{len}
use Rattle.disk_trait.specs.Disk.{DiskView, LeavesOnly, MayLeave}
use Rattle.graph_edits.specs.Edges.{Network}
use Rattle.layout_1.specs.State.{counted}
use Rattle.layout_1.specs.Standing.{StandsFor as StandsForByLayout1}
use Rattle.layout_2.specs.Standing.{StandsFor, StandsForNone}
use Rattle.checkpoint.specs.Whole.{without_tickets, IsAllForeign, IsFreshWith}
use Rattle.migrate.specs.declared.moving.Moved.{Moved}

-- an image of layout 1 stands for this count and this network
abbrev pub Held : ℕ → Network → List ℕ → Type 0
Held count graph image = StandsForByLayout1 (counted count graph) image

-- an image of layout 2 stands for them, with no ticket taken
abbrev pub Holds : ℕ → Network → List ℕ → Type 0
Holds count graph image = StandsFor (without_tickets count graph) image

-- an image of layout 2 is as a fresh device holds them: by the first epoch, with no record behind it
abbrev pub HoldsFresh : ℕ → Network → List ℕ → Type 0
HoldsFresh count graph image = IsFreshWith (without_tickets count graph) image

-- the old content stands for this count and a network of so many edges, and the new device for the same two, as a fresh one: by what a
-- read gives, and by whatever a crash may leave from now on
pub record HasMoved (moved : Moved) (old : List ℕ) (new : DiskView) : Type 0 where
  pub graph : Network
  pub edges : moved.edges ≡ len graph.edges
  pub held : Held moved.count graph old
  pub holds : Holds moved.count graph new.content
  pub left : (image : List ℕ) → MayLeave new image → Holds moved.count graph image
  pub fresh : HoldsFresh moved.count graph new.content
  pub fresh_left : (image : List ℕ) → MayLeave new image → HoldsFresh moved.count graph image

-- the image stands for all that the old content stands for
abbrev pub HoldsAllOf : List ℕ → List ℕ → Type 0
HoldsAllOf old image = (count : ℕ) × (graph : Network) × Held count graph old × Holds count graph image

-- the image stands for nothing, or for all that the old content stands for: never for a part of it
abbrev pub HoldsNoneOrAllOf : List ℕ → List ℕ → Type 0
HoldsNoneOrAllOf old image = StandsForNone image ⊎ HoldsAllOf old image

-- ---- of devices that keep the model

-- what is read is what the content stands for
abbrev pub ReadsHeld : {E : Type 0} → DiskView → Result (ℕ × Network) E → Type 0
ReadsHeld disk result = IsTrue disk.keeps_model → IfOk result (λ held. Held held.0 held.1 disk.content)

-- after Ok the new device has what the old content stands for
abbrev pub MovesAll : {E : Type 0} → DiskView → DiskView → DiskView → Result Moved E → Type 0
MovesAll old new_before new_after result =
    IsTrue old.keeps_model → IsTrue new_before.keeps_model → IfOk result (λ moved. HasMoved moved old.content new_after)

-- the same, where the count alone is answered
abbrev pub MovesAllOfCount : {E : Type 0} → DiskView → DiskView → DiskView → Result ℕ E → Type 0
MovesAllOfCount old new_before new_after result =
    IsTrue old.keeps_model → IsTrue new_before.keeps_model
    → IfOk result (λ count. (edges : ℕ) × HasMoved (record { count = count; edges = edges }) old.content new_after)

-- At any moment a crash leaves on the new device nothing or the whole, where it had no front of layout 2 before.
abbrev pub MovesWholly : DiskView → DiskView → DiskView → Type 0
MovesWholly old new_before new_after =
    IsTrue old.keeps_model → IsTrue new_before.keeps_model → IsAllForeign new_before
    → LeavesOnly new_before new_after (HoldsNoneOrAllOf old.content)
