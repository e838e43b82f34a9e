use Rattle.std.proofs.Common.{◌≡◌, ◌≤◌, ◌∙◌, sym, ap, subst, arith, List, ℕ, Bool, length}
use Rattle.std.proofs.lemmas.List.{with_items_is}
use Rattle.disk_trait.specs.Disk.{overwritten}
use Rattle.disk_trait.specs.Image.{IsImage, IsSettledOutside, marked}
use Rattle.disk_trait.proofs.Torn.{torn_written}
use Rattle.disk_trait.proofs.ImageLemmas.{still_outside, still_agrees}
use Rattle.disk_trait.proofs.cells.Cells.write.Goals as goal

at_same : (bytes bytes' synced : List ℕ) (flags flags' : List Bool) → bytes' ≡ bytes → flags' ≡ flags → IsImage bytes flags synced → IsImage bytes' flags' synced
at_same bytes bytes' synced flags flags' same_bytes same_flags is = rw (same_bytes, same_flags) is

pub invariant_of-self-clause-within : goal.invariant_of-self-clause-within
invariant_of-self-clause-within c =
    let old = c.args.self.now in
    let same : length c.put.new.into ≡ old.bytes.len = c.put.auto.into ∙ ap length c.deref_mut.ensures.value ∙ sym old.bytes.ok.0 in
    subst (λ (l : List ℕ). c.widened-low.result.1 ≤ length l) (sym (with_items_is old.bytes c.put.new.into same))
    (c.widened-low.ensures.least (length c.put.new.into) (omega (arith, same, old.bytes.ok.0, old.within)) (omega (arith, same, old.bytes.ok.0, c.requires.fits)))

pub invariant_of-self-clause-outside : goal.invariant_of-self-clause-outside
invariant_of-self-clause-outside c =
    let old = c.args.self.now in
    let same : length c.mark.new.flags ≡ old.unsettled.len = c.mark.auto.flags ∙ ap length c.deref_mut-2.ensures.value ∙ sym old.unsettled.ok.0 in
    let flags : c.mark.new.flags ≡ marked old.unsettled.items c.args.at c.args.n = rw (← c.deref_mut-2.ensures.value) c.mark.ensures in
    subst (λ (l : List Bool). IsSettledOutside c.widened-low.result.0 c.widened-low.result.1 l) (sym (with_items_is old.unsettled c.mark.new.flags same ∙ flags))
    (still_outside old.unsettled.items old.low old.high c.args.at c.args.n _ _ (omega (arith, old.flags, c.requires.fits)) old.outside old.ordered c.widened-low.ensures.first c.widened-low.ensures.last c.widened-low.ensures.wide)

pub invariant_of-self-clause-agrees : goal.invariant_of-self-clause-agrees
invariant_of-self-clause-agrees c =
    let old = c.args.self.now in
    let same_bytes : length c.put.new.into ≡ old.bytes.len = c.put.auto.into ∙ ap length c.deref_mut.ensures.value ∙ sym old.bytes.ok.0 in
    let bytes : c.put.new.into ≡ overwritten old.bytes.items c.args.at c.args.bytes.now = rw (← c.deref_mut.ensures.value) c.put.ensures in
    let same_flags : length c.mark.new.flags ≡ old.unsettled.len = c.mark.auto.flags ∙ ap length c.deref_mut-2.ensures.value ∙ sym old.unsettled.ok.0 in
    let flags : c.mark.new.flags ≡ marked old.unsettled.items c.args.at c.args.n = rw (← c.deref_mut-2.ensures.value) c.mark.ensures in
    let agree : IsImage (overwritten old.bytes.items c.args.at c.args.bytes.now) (marked old.unsettled.items c.args.at c.args.n) old.synced.items =
    still_agrees old.bytes.items _ old.synced.items old.unsettled.items c.args.at c.args.n (omega (arith, old.flags, c.requires.fits)) old.flags (torn_written old.bytes.items c.args.bytes.now c.args.at c.args.n c.requires.some c.requires.fits) old.agrees in
    at_same _ _ old.synced.items _ _ (with_items_is old.bytes c.put.new.into same_bytes ∙ bytes) (with_items_is old.unsettled c.mark.new.flags same_flags ∙ flags) agree
