-- What a backup of a store makes, and what it leaves.
use Rattle.std.specs.Prelude.{◌≡◌, ◌<◌, ◌++◌, ◌∷◌, [], ℕ, List, Result, Err, IsErrOf, IsTrue, OnOk, false}
use Rattle.disk_trait.specs.declared.disk.Disk.{Ghosts}
use Rattle.disk_trait.specs.Disk.{IsSameDevice, LeavesOnly}
use Rattle.checkpoint.specs.declared.store.Store.{Store}
use Rattle.checkpoint.specs.StoreWords.{is_down, state_of, view_of}
use Rattle.checkpoint.specs.Whole.{StandsForNoneOr}
use Rattle.checkpoint.specs.Written.{IsNowWritten}
use Rattle.new_devices.specs.Events.{FileEvent, LetGo, Made}
use Rattle.new_devices.specs.declared.refused.BackupRefused.{BackupRefused}
use Rattle.new_devices.specs.declared.refused.BackupRefused.TheVariants.{FileExists, Full, Unusable, Memory, Device}

-- Between two values of a new device a store of a device that keeps the model and hasn't failed was written to it, and this came of that.
pub record IsWritten {D N : Type 0} {V : _} (model : Ghosts N) (store : Store D V) (before after : N) (end : Result (Unit {0}) BackupRefused) : Type 0 where
  pub same : IsSameDevice (model.view before) (model.view after)
  -- where nothing refuses it, it holds the store's state, with its tickets, as a fresh device does, whatever a crash leaves from then on
  pub whole : IsTrue (view_of store).keeps_model → is_down store ≡ false → OnOk end (IsNowWritten (state_of store) (model.view before) (model.view after))
  -- a crash at any moment leaves no device or that state: never a part of it, and no other one
  pub any_moment : IsTrue (view_of store).keeps_model → is_down store ≡ false → IsTrue (model.view before).keeps_model
      → LeavesOnly (model.view before) (model.view after) (StandsForNoneOr (state_of store))
  pub memory : IsErrOf end Memory → after ≡ before
  pub device : IsErrOf end Device → (model.view before).failures < (model.view after).failures

-- One device was made by this path and let go, and nothing else was done at the place: a store was written to it.
pub record IsBackedUp {D N : Type 0} {V : _} (model : Ghosts N) (store : Store D V) (path : List ℕ) (old new : List (FileEvent N)) (end : Result (Unit {0}) BackupRefused) : Type 0 where
  pub before : N
  pub after : N
  pub did : new ≡ old ++ Made path before ∷ LetGo after ∷ []
  pub written : IsWritten model store before after end

-- What a backup did at a place of new devices that ended so: nothing where no device could be made.
abbrev pub IsBackupEnd : {D N : Type 0} {V : _} → Ghosts N → Store D V → List ℕ → List (FileEvent N) → List (FileEvent N) → Result (Unit {0}) BackupRefused → Type 0
IsBackupEnd model store path old new (Err FileExists) = new ≡ old
IsBackupEnd model store path old new (Err Full) = new ≡ old
IsBackupEnd model store path old new (Err Unusable) = new ≡ old
IsBackupEnd model store path old new end = IsBackedUp model store path old new end
