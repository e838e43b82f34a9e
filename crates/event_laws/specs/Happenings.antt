-- What an event does to a disk and to a history.
use Rattle.std.specs.Prelude.{◌≡◌, ◌⊎◌, ℕ, List, [], ◌∷◌, ◌++◌, length, drop, Bool, true, false}
use Rattle.disk_trait.specs.Disk.{DiskView, MayLeave, LeavesOnly}
use Rattle.requests.specs.declared.request.Request.{Request}
use Rattle.layout_2.specs.State.{State}
use Rattle.layout_2.specs.Standing.{StandsFor}
use Rattle.group_commit.specs.Settling.{settle}
use Rattle.event_laws.specs.History.{Lists, settled}

-- with more requests taken
abbrev pub took : Lists → List Request → Lists
took a more = record a { taken = a.taken ++ more }

-- the requests that aren't settled
abbrev pub listed_held : Lists → List Request
listed_held a = drop a.done a.taken

-- the state that they lead to
abbrev pub state_held : Lists → State
state_held a = settled a.state (listed_held a)

-- a group, of all that was held, was given to a commit
abbrev pub tried : Lists → ℕ → State → Bool → Lists
tried a done state down = record { taken = a.taken; done = done; groups = a.groups ++ (a.done, length a.taken) ∷ []; state = state; down = down }

-- the image has the whole group, or nothing of it
abbrev pub IsEither : Lists → List ℕ → Type 0
IsEither a image = StandsFor a.state image ⊎ StandsFor (state_held a) image

-- the disk stays; requests may be taken
pub record Stays (old new : DiskView) (a b : Lists) (number : ℕ) : Type 0 where
  pub clock : new.clock ≡ old.clock
  pub left : (t : ℕ) (image : List ℕ) → new.left_since t image → old.left_since t image
  pub more : List Request
  pub lists : b ≡ took a more
  pub none : number ≡ 0

-- a commit had no memory; the store may have rolled
pub record Waits (old new : DiskView) (a b : Lists) (number : ℕ) : Type 0 where
  pub up : a.down ≡ false
  pub leaves : LeavesOnly old new (StandsFor a.state)
  pub lists : b ≡ a
  pub none : number ≡ 0

-- a commit was refused, and nothing of its group is on the disk
pub record Refused (old new : DiskView) (a b : Lists) (number : ℕ) : Type 0 where
  pub up : a.down ≡ false
  pub leaves : LeavesOnly old new (StandsFor a.state)
  pub lists : b ≡ tried a a.done a.state false
  pub none : number ≡ 0

-- the device failed in a commit
pub record Lost (old new : DiskView) (a b : Lists) (number : ℕ) : Type 0 where
  pub up : a.down ≡ false
  pub leaves : LeavesOnly old new (IsEither a)
  pub lists : b ≡ tried a a.done a.state true
  pub none : number ≡ 0

-- a commit was answered Ok
pub record Won (old new : DiskView) (a b : Lists) (number : ℕ) : Type 0 where
  pub up : a.down ≡ false
  pub leaves : LeavesOnly old new (IsEither a)
  pub lists : b ≡ tried a (length a.taken) (state_held a) false
  pub stands : (image : List ℕ) → MayLeave new image → StandsFor (state_held a) image
  pub number_is : number ≡ length (settle a.state (listed_held a)).accepted

-- one of these; number is how many changes were answered Ok for
pub data Happens (old new : DiskView) (a b : Lists) (number : ℕ) : Type 0 where
  stays : Stays old new a b number → Happens old new a b number
  waits : Waits old new a b number → Happens old new a b number
  refused : Refused old new a b number → Happens old new a b number
  lost : Lost old new a b number → Happens old new a b number
  won : Won old new a b number → Happens old new a b number
