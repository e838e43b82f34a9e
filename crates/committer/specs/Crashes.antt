-- What a crash between two rounds may leave.
use Rattle.std.specs.Prelude.{◌⊎◌, ℕ, List}
use Rattle.disk_trait.specs.Disk.{MayLeave}
use Rattle.requests.specs.declared.request.Request.{Request}
use Rattle.layout_2.specs.State.{State}
use Rattle.layout_2.specs.Standing.{StandsFor}
use Rattle.checkpoint.specs.declared.store.Store.{Store}
use Rattle.checkpoint.specs.StoreWords.{state_of, view_of}
use Rattle.group_commit.specs.Settling.{settle}

-- the image stands for the state, or for the one after these requests were settled
abbrev pub StandsForEither : State → List Request → List ℕ → Type 0
StandsForEither state requests image = ∥ StandsFor state image ⊎ StandsFor (settle state requests).state image ∥₁

-- each image that a crash now may leave stands for the store's state, or for the one with the whole group that is held
abbrev pub LeavesGroupWhole : {D : Type 0} {V : _} → Store D V → List Request → Type 0
LeavesGroupWhole store held = (image : List ℕ) → MayLeave (view_of store) image → StandsForEither (state_of store) held image
