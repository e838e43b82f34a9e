-- The newest slot is that of what stands there.
use Rattle.std.proofs.Common.{◌≡◌, ℕ, ◌<◌, List, get_or, refl, sym, subst}
use Rattle.journal.specs.Forms.{EntryForm}
use Rattle.layout_reader.specs.Heads.{other, IsNewestIn, HasNoNewest}
use Rattle.layout_reader.specs.Sizes.{slot_room, slot_start, epoch_at}
use Rattle.layout_reader.specs.Forms.{LayoutForm, IsLayoutForm}
use Rattle.layout_reader.specs.State.{State}
use Rattle.layout_reader.specs.Standing.{StandsFor, StandsForNone}
use Rattle.layout_reader.proofs.HeadLemmas.{one_newest}
use Rattle.layout_reader.proofs.OneStateLemmas.{epoch_there}

module _ {E T : Type 0} {F : EntryForm E} (form : LayoutForm F T) (laws : IsLayoutForm form) where
  theirs : (state : State T) (image : List ℕ) (is : StandsFor form state image) → IsNewestIn (slot_room form.sizes) is.slot (get_or image (slot_start form.sizes (other is.slot)) 0) image
  theirs state image is = record {
    is_open = is.by.gate;
    other_is = refl;
    older = λ one. subst (λ k. epoch_at form.sizes (other is.slot) image < k) (sym (epoch_there form laws is.slot is.epoch is.base is.groups image is.by)) (is.by.older one);
  }

  pub same_slot : (slot other_gate : ℕ) (image : List ℕ) → slot < 2 → IsNewestIn (slot_room form.sizes) slot other_gate image → (state : State T) (is : StandsFor form state image) → is.slot ≡ slot
  same_slot slot other_gate image lt newest state is = one_newest (slot_room form.sizes) is.slot slot _ other_gate image is.is_slot lt (theirs state image is) newest

  -- where no slot is the newest, no state stands there
  pub nowhere_newest : (image : List ℕ) → HasNoNewest (slot_room form.sizes) image → StandsForNone form image
  nowhere_newest image none state is = none is.slot _ is.is_slot (theirs state image is)
