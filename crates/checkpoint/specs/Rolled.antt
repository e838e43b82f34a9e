-- What a roll does, and when it is refused.
use Rattle.std.specs.Prelude.{◌≡◌, ◌<◌, ◌↔◌, Result, IsErr, IsErrOf, IsTrue, false, true}
use Rattle.disk_trait.specs.Disk.{LeavesOnly}
use Rattle.layout_2.specs.Standing.{StandsFor}
use Rattle.checkpoint.specs.declared.refusals.RollRefused.{RollRefused}
use Rattle.checkpoint.specs.declared.refusals.RollRefused.TheVariants.{Device, Down, Worn}
use Rattle.checkpoint.specs.declared.store.Store.{Store}
use Rattle.checkpoint.specs.StoreWords.{state_of, view_of, is_down, HasRolled, IsDurable, IsWornOut}

-- The store was rolled.
pub record IsNowRolled {D : Type 0} {V : _} (old new : Store D V) : Type 0 where
  -- the other slot is in use by the next epoch, with an empty journal
  pub rolled : HasRolled old new
  -- where the device keeps the model, a crash now leaves the state
  pub durable : IsTrue (view_of old).keeps_model → IsDurable new
  -- no call of the device failed
  pub no_failure : (view_of new).failures ≡ (view_of old).failures

-- When a roll is refused, and what each refusal leaves.
pub record RefusesRoll {D : Type 0} {V : _} (old new : Store D V) (result : Result (Unit {0}) RollRefused) : Type 0 where
  -- Down: exactly on a store that is down
  pub down : IsErrOf result Down ↔ (is_down old ≡ true)
  -- Worn: exactly on one that is up, where the epoch stands at its limit
  pub worn : IsErrOf result Worn ↔ ((is_down old ≡ false) × IsWornOut old)
  -- Device: a call of the device failed
  pub device : IsErrOf result Device → (view_of old).failures < (view_of new).failures
  -- and the store is down from now on
  pub lost : IsErrOf result Device → is_down new ≡ true
  -- without it a store that is up stays up
  pub stays_up : is_down old ≡ false → ¬ (IsErrOf result Device) → is_down new ≡ false
  -- any refusal but Device leaves the whole store
  pub untouched : IsErr result → ¬ (IsErrOf result Device) → new ≡ old

-- A crash at any moment of a call leaves the state of before. So it is on a store that is up and on a device that keeps the model.
abbrev pub KeepsState : {D : Type 0} {V : _} → Store D V → Store D V → Type 0
KeepsState old new = IsTrue (view_of old).keeps_model → is_down old ≡ false
    → LeavesOnly (view_of old) (view_of new) (StandsFor (state_of old))
