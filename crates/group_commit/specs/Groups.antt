-- What a commit of a desk does, and when it is refused.
use Rattle.std.specs.Prelude.{◌≡◌, ◌≢◌, ◌⊎◌, ◌<◌, ◌↔◌, ℕ, [], length, Result, IsErr, IsErrOf, IsTrue, OnErr, false, true}
use Rattle.disk_trait.specs.Disk.{AtMostCalls, LeavesOnly}
use Rattle.layout_2.specs.Standing.{StandsFor}
use Rattle.checkpoint.specs.Rolled.{KeepsState}
use Rattle.checkpoint.specs.StoreWords.{state_of, view_of, is_down, HasAppended, HasRolled, HasRolledAndAppended, HasRoomFor, IsDurable, LacksRoomFor}
use Rattle.group_commit.specs.DeskWords.{store_of, held_of, due_of, settled_of, IsPastLimits}
use Rattle.group_commit.specs.Postings.{MarksAreDue, IsDownDue}
use Rattle.group_commit.specs.declared.desk.Desk.{Desk}
use Rattle.group_commit.specs.declared.refused.DeskRefused.{DeskRefused}
use Rattle.group_commit.specs.declared.refused.DeskRefused.TheVariants.{Device, Down, Memory, Worn}

-- The group was committed, and its marks are due.
pub record IsGroupCommitted {D : Type 0} {V : _} (old new : Desk D V) (accepted : ℕ) : Type 0 where
  -- the state is the settled one
  pub state : state_of (store_of new) ≡ (settled_of old).state
  -- the answer is how many requests are accepted
  pub number : accepted ≡ length (settled_of old).accepted
  -- each request has its mark to be told
  pub marks : MarksAreDue (due_of new) (settled_of old).marks
  -- none is held any more
  pub none_held : held_of new ≡ []
  -- where the journal had room, the accepted ones stand behind the groups of before
  pub appended : (settled_of old).accepted ≢ [] → HasRoomFor (store_of old) (settled_of old).accepted
      → HasAppended (store_of old) (store_of new) (settled_of old).accepted
  -- where it hadn't, they are the first group after a roll
  pub rolled : (settled_of old).accepted ≢ [] → LacksRoomFor (store_of old) (settled_of old).accepted
      → HasRolledAndAppended (store_of old) (store_of new) (settled_of old).accepted
  -- where the device keeps the model, a crash now leaves the new state
  pub durable : IsTrue (view_of (store_of old)).keeps_model → IsDurable (store_of new)
  -- no call of the device failed
  pub no_failure : (view_of (store_of new)).failures ≡ (view_of (store_of old)).failures

-- When a group is refused, and what each refusal leaves.
pub record RefusesGroup {D : Type 0} {V : _} (old new : Desk D V) (result : Result ℕ DeskRefused) : Type 0 where
  -- any refusal leaves the state
  pub state : OnErr result (state_of (store_of new) ≡ state_of (store_of old))
  -- and what is held
  pub still_held : OnErr result (held_of new ≡ held_of old)
  -- any but Device leaves what is due
  pub untold : IsErr result → ¬ (IsErrOf result Device) → due_of new ≡ due_of old
  -- Down: exactly on a store that is down
  pub down : IsErrOf result Down ↔ (is_down (store_of old) ≡ true)
  -- it leaves the whole store
  pub down_leaves : IsErrOf result Down → store_of new ≡ store_of old
  -- Worn: only where the group is past a limit
  pub worn : IsErrOf result Worn → IsPastLimits old
  -- and there it is that or Memory, on a store that is up
  pub past_limits : is_down (store_of old) ≡ false → IsPastLimits old → IsErrOf result Worn ⊎ IsErrOf result Memory
  -- it leaves the whole store
  pub worn_leaves : IsErrOf result Worn → store_of new ≡ store_of old
  -- Memory: the store is as it was, or it has rolled
  pub memory_leaves : IsErrOf result Memory
      → (store_of new ≡ store_of old) ⊎ (LacksRoomFor (store_of old) (settled_of old).accepted × HasRolled (store_of old) (store_of new))
  -- Device: a call of the device failed
  pub device : IsErrOf result Device → (view_of (store_of old)).failures < (view_of (store_of new)).failures
  -- the store is down from now on
  pub lost : IsErrOf result Device → is_down (store_of new) ≡ true
  -- and that is to be told
  pub down_due : IsErrOf result Device → IsDownDue (due_of new)
  -- without it a store that is up stays up
  pub stays_up : is_down (store_of old) ≡ false → ¬ (IsErrOf result Device) → is_down (store_of new) ≡ false

-- Where the journal has room for the accepted requests, the device has at most so many calls.
abbrev pub AtMostCallsWithRoom : {D : Type 0} {V : _} → ℕ → Desk D V → Desk D V → Type 0
AtMostCallsWithRoom n old new = HasRoomFor (store_of old) (settled_of old).accepted → AtMostCalls n (view_of (store_of old)) (view_of (store_of new))

-- A crash at any moment of a commit leaves the state of before, or the settled one of the whole group. So it is on a store that is up and on
-- a device that keeps the model.
abbrev pub SettlesWholly : {D : Type 0} {V : _} → Desk D V → Desk D V → Type 0
SettlesWholly old new = IsTrue (view_of (store_of old)).keeps_model → is_down (store_of old) ≡ false
    → LeavesOnly (view_of (store_of old)) (view_of (store_of new)) (λ image. StandsFor (state_of (store_of old)) image ⊎ StandsFor (settled_of old).state image)

-- Where the group stays held, a crash at any moment leaves the state of before alone.
abbrev pub KeepsStateHeld : {D : Type 0} {V : _} → Desk D V → Desk D V → Result ℕ DeskRefused → Type 0
KeepsStateHeld old new result = IsErr result → ¬ (IsErrOf result Device) → KeepsState (store_of old) (store_of new)
