-- One call more of a disk in memory.
use Rattle.std.proofs.Common.{Result, IsErr, OnOk, ◌<◌, replicate, false, ◌≡◌, ◌⊎◌, inl, inr, ⊎_elim, ℕ, zero, suc, ◌+◌, ◌≤◌, List, [], ◌∷◌, ◌++◌, length, drop, refl, sym, subst, arith, length-append}
use Rattle.disk_trait.specs.declared.cells.Cells.{Cells}
use Rattle.disk_trait.specs.Disk.{DiskView, MayLeave, Torn, WritesWithin, IsDeviceCall, overwritten}
use Rattle.disk_trait.specs.Image.{marked}
use Rattle.disk_trait.specs.declared.disk.DeviceFault.{DeviceFault}
use Rattle.disk_trait.proofs.Torn.{torn_none, torn_written, image_before, settled_before}
use Rattle.disk_trait.specs.Memory.{IsImageOf, LeftOne, view_of}

adds : (past : List Cells) (cells : Cells) (image : List ℕ) → LeftOne (past ++ cells ∷ []) image → LeftOne past image ⊎ IsImageOf cells image
adds [] cells image (inl here) = inr here
adds [] cells image (inr none) = absurd none
adds (p ∷ past) cells image (inl here) = inl (inl here)
adds (p ∷ past) cells image (inr there) = ⊎_elim (λ had. inl (inr had)) (λ new. inr new) (adds past cells image there)

joins : (past : List Cells) (cells : Cells) (image : List ℕ) → LeftOne past image ⊎ IsImageOf cells image → LeftOne (past ++ cells ∷ []) image
joins [] cells image (inl had) = absurd had
joins [] cells image (inr new) = inl new
joins (p ∷ past) cells image (inl (inl here)) = inl here
joins (p ∷ past) cells image (inl (inr there)) = inr (joins past cells image (inl there))
joins (p ∷ past) cells image (inr new) = inr (joins past cells image (inr new))

drop_push : (t : ℕ) (past : List Cells) (cells : Cells) → t ≤ length past → drop t (past ++ cells ∷ []) ≡ drop t past ++ cells ∷ []
drop_push zero past cells le = refl
drop_push (suc t) [] cells le = absurd (omega arith)
drop_push (suc t) (p ∷ past) cells le = drop_push t past cells (omega arith)

none_left : (past : List Cells) (image : List ℕ) → LeftOne (drop (length past) past) image → ⊥
none_left [] image had = had
none_left (v ∷ past) image had = none_left past image had

-- a crash now leaves an image of the cells of now
pub only_now : (past : List Cells) (cells : Cells) (failures : ℕ) (image : List ℕ) → MayLeave (view_of past cells failures) image → IsImageOf cells image
only_now past cells failures image (inl here) = here
only_now past cells failures image (inr there) = absurd (none_left past image there)

module _ (past : List Cells) (before after : Cells) (f g at n : ℕ) where
  abbrev old : DiskView
  old = view_of past before f

  abbrev new : DiskView
  new = view_of (past ++ before ∷ []) after g

  pub moves : Torn at n before.bytes.items after.bytes.items → ((image : List ℕ) → IsImageOf after image → (was : List ℕ) × IsImageOf before was × Torn at n was image) → WritesWithin at n old new
  moves content torn = record {
    later = omega (arith, length-append past (before ∷ []));
    content = content;
    torn = λ image left. let from = torn image (only_now (past ++ before ∷ []) after g image left) in (from.0, inl from.1, from.2);
    since = λ t image le left. ⊎_elim (λ now. inr (inl now)) (λ had. inl (was t image (adds (drop t past) before image (subst (λ (l : List Cells). LeftOne l image) (drop_push t past before le) had)))) left;
    keeps = λ t image le left. inr (subst (λ (l : List Cells). LeftOne l image) (sym (drop_push t past before le)) (joins (drop t past) before image (⊎_elim (λ now. inr now) (λ had. inl had) left)));
  }
    where
      was : (t : ℕ) (image : List ℕ) → LeftOne (drop t past) image ⊎ IsImageOf before image → old.left_since t image
      was t image (inl had) = inr had
      was t image (inr new) = inl new

  pub called : (result : Result (Unit {0}) DeviceFault) → Torn at n before.bytes.items after.bytes.items → ((image : List ℕ) → IsImageOf after image → (was : List ℕ) × IsImageOf before was × Torn at n was image) → f ≤ g → (IsErr result → f < g) → OnOk result (g ≡ f) → IsDeviceCall at n old new result
  called result content torn no_fewer fault served = record {
    ran = record { as_long = content.as_long; model = refl; no_fewer = no_fewer };
    counted = omega (arith, length-append past (before ∷ []));
    fault = fault;
    served = served;
    moves = λ _. moves content torn;
  }

-- a call that leaves the bytes and the flags
pub called_same : (past : List Cells) (before after : Cells) (f g : ℕ) (result : Result (Unit {0}) DeviceFault) → after ≡ before → f ≤ g → (IsErr result → f < g) → OnOk result (g ≡ f) → IsDeviceCall 0 0 (view_of past before f) (view_of (past ++ before ∷ []) after g) result
called_same past before after f g result same no_fewer fault served =
    called past before after f g 0 0 result (rw same (torn_none before.bytes.items 0)) (λ image is. (image, rw same at is, torn_none image 0)) no_fewer fault served

-- a write of some of the n bytes
pub called_write : (past : List Cells) (before after : Cells) (f g at n : ℕ) (bytes : List ℕ) (result : Result (Unit {0}) DeviceFault) → length bytes ≤ n → at + n ≤ length before.bytes.items
    → after.bytes.items ≡ overwritten before.bytes.items at bytes → after.unsettled.items ≡ marked before.unsettled.items at n → f ≤ g → (IsErr result → f < g) → OnOk result (g ≡ f) → IsDeviceCall at n (view_of past before f) (view_of (past ++ before ∷ []) after g) result
called_write past before after f g at n bytes result some fits written flags no_fewer fault served =
    let content : Torn at n before.bytes.items after.bytes.items = rw written (torn_written before.bytes.items bytes at n some fits) in
    called past before after f g at n result content (λ image is. image_before before.bytes.items after.bytes.items before.unsettled.items at n fits before.flags content image (rw flags at is)) no_fewer fault served

-- a sync
pub called_sync : (past : List Cells) (before after : Cells) (f g : ℕ) (result : Result (Unit {0}) DeviceFault) → after.bytes.items ≡ before.bytes.items → after.unsettled.items ≡ replicate (length before.bytes.items) false → f ≤ g → (IsErr result → f < g) → OnOk result (g ≡ f) → IsDeviceCall 0 0 (view_of past before f) (view_of (past ++ before ∷ []) after g) result
called_sync past before after f g result same settled no_fewer fault served =
    called past before after f g 0 0 result (rw same (torn_none before.bytes.items 0)) (λ image is. (image, settled_before before.bytes.items image before.unsettled.items (rw (same, settled) at is), torn_none image 0)) no_fewer fault served
