-- Devices of zeros are none of this layout.
use Rattle.std.proofs.Common.{◌≡◌, ℕ, zero, suc, List, IsTrue, ap, subst, get_or, replicate}
use Rattle.disk_trait.specs.Disk.{DiskView, bytes_at}
use Rattle.disk_trait.specs.Image.{zeros}
use Rattle.layout_reader.specs.Refusals.{magic}
use Rattle.layout_2.specs.Fronts.{HasThisVersion}
use Rattle.checkpoint.specs.Whole.{IsAllForeign}
use Rattle.new_devices.specs.Events.{IsBlank}

no_magic : (n : ℕ) → bytes_at (replicate n 0) 0 6 ≡ magic → ⊥
no_magic zero is = (let first = ap (λ (xs : List ℕ). get_or xs 0 0) is in cc)
no_magic (suc n) is = (let first = ap (λ (xs : List ℕ). get_or xs 0 0) is in cc)

pub blank_foreign : (len : ℕ) (disk : DiskView) → IsBlank len disk → IsTrue disk.keeps_model → IsAllForeign disk
unfolding zeros
blank_foreign len disk blank model image left has =
    no_magic len (subst (λ (xs : List ℕ). HasThisVersion xs) (blank model image left) has).0.1
