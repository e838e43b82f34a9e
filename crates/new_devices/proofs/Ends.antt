-- How a backup ends.
use Rattle.std.proofs.Common.{◌≡◌, inl, inr, ◌++◌, ◌∷◌, [], ℕ, List, Ok, Err, ap, ◌∙◌, append_assoc}
use Rattle.std.specs.Prelude.{◌⊎◌, IfErr}
use Rattle.disk_trait.specs.declared.disk.Disk.{Ghosts}
use Rattle.checkpoint.specs.declared.store.Store.{Store}
use Rattle.new_devices.specs.Events.{FileEvent, IsUnmade, LetGo, Made}
use Rattle.new_devices.specs.Backups.{IsBackupEnd, IsWritten}
use Rattle.new_devices.specs.declared.refused.BackupRefused.{BackupRefused}
use Rattle.new_devices.specs.declared.refused.BackupRefused.TheVariants.{FileExists, Full, Unusable, Memory, Device}

-- no device was made
pub unmade_end : {D N : Type 0} {V : _} → (model : Ghosts N) (store : Store D V) (path : List ℕ) (old new : List (FileEvent N)) (why : BackupRefused) → IsUnmade why → new ≡ old → IsBackupEnd model store path old new (Err why)
unmade_end model store path old new FileExists is same = same
unmade_end model store path old new Full is same = same
unmade_end model store path old new Unusable is same = same
unmade_end model store path old new Memory (inl is) same = absurd cc
unmade_end model store path old new Memory (inr (inl is)) same = absurd cc
unmade_end model store path old new Memory (inr (inr is)) same = absurd cc
unmade_end model store path old new Device (inl is) same = absurd cc
unmade_end model store path old new Device (inr (inl is)) same = absurd cc
unmade_end model store path old new Device (inr (inr is)) same = absurd cc

-- one was made
pub made_end : {D N : Type 0} {V : _} → (model : Ghosts N) (store : Store D V) (path : List ℕ) (old mid new : List (FileEvent N)) (before after : N) (end : _) → mid ≡ old ++ Made path before ∷ [] → new ≡ mid ++ LetGo after ∷ []
    → IsWritten model store before after end → IfErr end (λ why. (why ≡ Memory) ⊎ (why ≡ Device)) → IsBackupEnd model store path old new end
made_end {D} {N} {V} model store path old mid new before after end made gone written named = of end written named
  where
    did : new ≡ old ++ Made path before ∷ LetGo after ∷ []
    did = gone ∙ (ap (λ l. l ++ LetGo after ∷ []) made ∙ append_assoc old (Made path before ∷ []) (LetGo after ∷ []))

    of : (e : _) → IsWritten model store before after e → IfErr e (λ why. (why ≡ Memory) ⊎ (why ≡ Device)) → IsBackupEnd model store path old new e
    of (Ok u) w n = record { before = before; after = after; did = did; written = w }
    of (Err FileExists) w (inl is) = absurd cc
    of (Err FileExists) w (inr is) = absurd cc
    of (Err Full) w (inl is) = absurd cc
    of (Err Full) w (inr is) = absurd cc
    of (Err Unusable) w (inl is) = absurd cc
    of (Err Unusable) w (inr is) = absurd cc
    of (Err Memory) w n = record { before = before; after = after; did = did; written = w }
    of (Err Device) w n = record { before = before; after = after; did = did; written = w }
