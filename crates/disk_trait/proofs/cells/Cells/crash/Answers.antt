use Rattle.std.proofs.Common.{◌≡◌, ◌≤◌, ◌∙◌, sym, ap, subst, arith, List, ℕ, length}
use Rattle.std.proofs.lemmas.List.{with_items_is}
use Rattle.disk_trait.specs.Image.{IsImage, image_by}
use Rattle.disk_trait.proofs.ImageLemmas.{image_by_word, still_synced}
use Rattle.disk_trait.proofs.cells.Cells.crash.Goals as goal

pub invariant_of-self-clause-within : goal.invariant_of-self-clause-within
invariant_of-self-clause-within c =
    let old = c.args.self.now in
    let same : length c.choose.new.bytes ≡ old.bytes.len = c.choose.auto.bytes ∙ ap length c.deref_mut.ensures.value ∙ sym old.bytes.ok.0 in
    subst (λ (l : List ℕ). old.high ≤ length l) (sym (with_items_is old.bytes c.choose.new.bytes same)) (omega (arith, same, old.bytes.ok.0, old.within))

pub invariant_of-self-clause-agrees : goal.invariant_of-self-clause-agrees
invariant_of-self-clause-agrees c =
    let old = c.args.self.now in
    let same : length c.choose.new.bytes ≡ old.bytes.len = c.choose.auto.bytes ∙ ap length c.deref_mut.ensures.value ∙ sym old.bytes.ok.0 in
    let chosen : c.choose.new.bytes ≡ image_by c.args.word old.unsettled.items old.bytes.items old.synced.items = rw (← c.deref_mut.ensures.value, ← c.deref.ensures.value, ← c.deref-2.ensures.value) c.choose.ensures in
    subst (λ (l : List ℕ). IsImage l old.unsettled.items old.synced.items) (sym (with_items_is old.bytes c.choose.new.bytes same ∙ chosen))
    (still_synced old.bytes.items _ old.synced.items old.unsettled.items (image_by_word c.args.word old.unsettled.items old.bytes.items old.synced.items old.flags old.agrees) old.agrees)
