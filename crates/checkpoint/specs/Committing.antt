-- What a commit does, and when it is refused.
use Rattle.std.specs.Prelude.{◌≡◌, ◌⊎◌, ◌<◌, ◌≤◌, ◌+◌, ◌↔◌, List, length, Result, IsErr, IsErrOf, IsTrue, OnErr, Some, false, true}
use Rattle.disk_trait.specs.Disk.{LeavesOnly}
use Rattle.layout_2.specs.Layout.{worn_limit}
use Rattle.layout_2.specs.Records.{Entry}
use Rattle.layout_2.specs.Standing.{StandsFor}
use Rattle.layout_2.specs.State.{State, after}
use Rattle.checkpoint.specs.declared.refusals.CommitRefused.{CommitRefused}
use Rattle.checkpoint.specs.declared.refusals.CommitRefused.TheVariants.{NeedsRoll, Device, Down, Worn}
use Rattle.checkpoint.specs.declared.store.Store.{Store}
use Rattle.checkpoint.specs.StoreWords.{state_of, view_of, is_down, HasAppended, IsDurable, IsRolled, LacksRoomFor}

-- The requests were committed.
pub record HasCommitted {D : Type 0} {V : _} (old new : Store D V) (requests : List Entry) : Type 0 where
  -- the state is the one after them
  pub state : after (state_of old) requests ≡ Some (state_of new)
  -- they stand behind the groups of before
  pub appended : HasAppended old new requests
  -- where the device keeps the model, a crash now leaves the new state
  pub durable : IsTrue (view_of old).keeps_model → IsDurable new
  -- no call of the device failed
  pub no_failure : (view_of new).failures ≡ (view_of old).failures

-- When a commit is refused, and what each refusal leaves.
pub record RefusesCommit {D : Type 0} {V : _} (old new : Store D V) (requests : List Entry) (result : Result (Unit {0}) CommitRefused) : Type 0 where
  -- Down: exactly on a store that is down
  pub down : IsErrOf result Down ↔ (is_down old ≡ true)
  -- Worn: exactly on one that is up, where the count would pass its limit
  pub worn : IsErrOf result Worn ↔ ((is_down old ≡ false) × (worn_limit < (state_of old).count + length requests))
  -- NeedsRoll: exactly where it is up and the count stays within the limit, but the journal has no room
  pub needs_roll : IsErrOf result NeedsRoll
      ↔ ((is_down old ≡ false) × ((state_of old).count + length requests ≤ worn_limit) × LacksRoomFor old requests)
  -- a store that has just rolled has room
  pub rolled_fits : IsRolled old → ¬ (IsErrOf result NeedsRoll)
  -- Device: a call of the device failed
  pub device : IsErrOf result Device → (view_of old).failures < (view_of new).failures
  -- and the store is down from now on
  pub lost : IsErrOf result Device → is_down new ≡ true
  -- without it a store that is up stays up
  pub stays_up : is_down old ≡ false → ¬ (IsErrOf result Device) → is_down new ≡ false
  -- any refusal leaves the state
  pub state : OnErr result (state_of new ≡ state_of old)
  -- and any but Device leaves the whole store
  pub untouched : IsErr result → ¬ (IsErrOf result Device) → new ≡ old

-- A crash at any moment of a commit leaves the state of before, or the one after all of the requests. So it is on a store that is up and
-- on a device that keeps the model.
abbrev pub CommitsWholly : {D : Type 0} {V : _} → Store D V → Store D V → List Entry → Type 0
CommitsWholly old new requests = IsTrue (view_of old).keeps_model → is_down old ≡ false
    → (next : State) → after (state_of old) requests ≡ Some next
    → LeavesOnly (view_of old) (view_of new) (λ image. StandsFor (state_of old) image ⊎ StandsFor next image)
