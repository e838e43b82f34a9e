-- A store, as the crates above see it.
use Rattle.std.specs.Prelude.{◌≡◌, ◌≤◌, ◌+◌, ℕ, List, [], ◌∷◌, ◌++◌, Bool, false, IsTrue}
use Rattle.disk_trait.specs.Disk.{DiskView, MayLeave}
use Rattle.layout_2.specs.Records.{Entry, HasRoom, LacksRoom}
use Rattle.checkpoint.specs.declared.store.Store.{Store}
use Rattle.checkpoint.specs.Kept.{kept_stands}
use Rattle.layout_2.specs.Layout.{worn_limit}
use Rattle.layout_reader.specs.Heads.{other}
use Rattle.layout_2.specs.State.{State, state_with}
use Rattle.layout_2.specs.Standing.{StandsFor}

-- the state that a store has
abbrev pub state_of : {D : Type 0} {V : _} → Store D V → State
state_of store = state_with store.count store.graph store.tickets

-- how many nodes its network has
abbrev pub nodes_of : {D : Type 0} {V : _} → Store D V → ℕ
nodes_of store = store.graph.nodes

-- its disk
abbrev pub disk_of : {D : Type 0} {V : _} → Store D V → D
disk_of store = store.disk

-- its disk, as contracts see it
abbrev pub view_of : {D : Type 0} {V : _} → Store D V → DiskView
view_of {V = V} store = V.view store.disk

-- whether the device has failed in a call, so that the store takes no more
abbrev pub is_down : {D : Type 0} {V : _} → Store D V → Bool
is_down store = store.down

-- nothing was committed since the store rolled, so any group fits
abbrev pub IsRolled : {D : Type 0} {V : _} → Store D V → Type 0
IsRolled store = store.journal.groups ≡ []

-- its slot, its epoch and the groups of its journal are these
pub record IsAt {D : Type 0} {V : _} (store : Store D V) (slot epoch : ℕ) (groups : List (List Entry)) : Type 0 where
  pub slot_is : store.slot ≡ slot
  pub epoch_is : store.epoch ≡ epoch
  pub groups_are : store.journal.groups ≡ groups

-- its slot, its epoch and the groups of its journal are those of before
abbrev pub IsWhereItWas : {D : Type 0} {V : _} → Store D V → Store D V → Type 0
IsWhereItWas old new = IsAt new old.slot old.epoch old.journal.groups

-- the requests stand behind the groups of before as one more, in the same slot
abbrev pub HasAppended : {D : Type 0} {V : _} → Store D V → Store D V → List Entry → Type 0
HasAppended old new requests = IsAt new old.slot old.epoch (old.journal.groups ++ requests ∷ [])

-- the other slot is in use by the next epoch, and nothing is in its journal yet
abbrev pub HasRolled : {D : Type 0} {V : _} → Store D V → Store D V → Type 0
HasRolled old new = IsAt new (other old.slot) (old.epoch + 1) []

-- it has rolled, and then the requests were put down as the first group
abbrev pub HasRolledAndAppended : {D : Type 0} {V : _} → Store D V → Store D V → List Entry → Type 0
HasRolledAndAppended old new requests = IsAt new (other old.slot) (old.epoch + 1) (requests ∷ [])

-- its journal has room for the record of these requests
abbrev pub HasRoomFor : {D : Type 0} {V : _} → Store D V → List Entry → Type 0
HasRoomFor store requests = HasRoom store.journal requests

-- its journal has no room for the record of these requests
abbrev pub LacksRoomFor : {D : Type 0} {V : _} → Store D V → List Entry → Type 0
LacksRoomFor store requests = LacksRoom store.journal requests

-- its epoch stands at the worn limit, so it can't roll
abbrev pub IsWornOut : {D : Type 0} {V : _} → Store D V → Type 0
IsWornOut store = worn_limit ≤ store.epoch

-- each image that a crash now may leave stands for its state
abbrev pub IsDurable : {D : Type 0} {V : _} → Store D V → Type 0
IsDurable store = (image : List ℕ) → MayLeave (view_of store) image → StandsFor (state_of store) image

-- so it is while the store is up
pub stands_now : {D : Type 0} {V : _} → (store : Store D V) → IsTrue (view_of store).keeps_model → is_down store ≡ false → IsDurable store
stands_now store model up =
    kept_stands (view_of store) store.slot store.epoch store.other_gate (state_with store.base_count.value store.base.value store.base_tickets.value) (state_of store) store.journal.groups store.two_slots store.fits (store.kept model up)
