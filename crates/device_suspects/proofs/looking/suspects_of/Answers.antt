use Rattle.std.proofs.Common.{◌≡◌, ◌≢◌, ◌↔◌, ◌+◌, ◌-◌, ◌∙◌, ℕ, List, IsTrue, ap, arith, length, rules, subst}
use Rattle.journal.specs.RequestForm.{request_form}
use Rattle.journal.specs.Records.{records}
use Rattle.layout_reader.proofs.ReadLemmas.{still}
use Rattle.layout_2.specs.Layout.{journal_of, other, slot_start}
use Rattle.layout_2.specs.Loading.{state_of, stands_for}
use Rattle.layout_2.specs.Records.{Area}
use Rattle.device_suspects.specs.Looking.{StandsThere}
use Rattle.device_suspects.specs.Suspects.{HasCountApart, HasEpochApart, HidesSlot}
use Rattle.device_suspects.proofs.Listed.{count_apart, epoch_apart, record_told, slot_hides, told_at, told_on}
use Rattle.device_suspects.proofs.looking.suspects_of.Goals as goal

pub returns-clause-suspects : goal.returns-clause-suspects
returns-clause-suspects g c model =
    let old = g.D.Disk.view c.args.disk.now in
    let mid = g.D.Disk.view c.load.new.disk in
    let last = g.D.Disk.view c.read_slot.new.disk in
    let l = c.in_ok-loaded.loaded in
    let found = c.in_ok-loaded.ensures.ok in
    let o = c.in_ok-other.other in
    let read = c.in_ok-other.ensures.read in
    let keeps = still old mid found.read.ran model in
    let keeps_on = still mid last read.ran keeps in
    let same : mid.content ≡ old.content = (found.read.reads model).content in
    let same_on : last.content ≡ old.content = (read.reads keeps).content ∙ same in
    let there : StandsThere o (other l.slot) old.content = subst (λ (bytes : List ℕ). StandsThere o (other l.slot) bytes) same (c.in_ok-other.ensures.stands keeps) in
    let by = (found.of_model model).in_use.stands in
    let area : c.area-area.result ≡ journal_of l.slot = c.area-area.ensures.area ∙ found.parts.area in
    let room : c.area-area.result.room ≡ l.journal.area.room = ap (λ (a : Area). a.room) c.area-area.ensures.area in
    let end : c.area-area.result.room - c.room_left.result - 1 ≡ length (records request_form l.journal.groups) = omega (arith, room, c.room_left.ensures) in
    let other_at : c.slot_start-other_at.result ≡ slot_start (other l.slot) = c.slot_start-other_at.ensures.is in
    let count_at : c.slot_start-count_at.result ≡ slot_start l.slot = c.slot_start-count_at.ensures.is in
    record {
      state = state_of l;
      stands = stands_for l old.content found.parts by;
      epoch = told_at c.told.result _ _ _ (ap (λ (n : ℕ). n + 1) other_at)
          (told_on c.told.result _ _ _ (epoch_apart o l.slot l.epoch old.content c.is_epoch_apart.result there c.is_epoch_apart.ensures) c.told.ensures);
      count = told_at c.told-2.result _ _ _ (ap (λ (n : ℕ). n + 9) count_at)
          (told_on c.told-2.result _ _ _ (count_apart o l.slot l.base_count old.content c.is_count_apart.result there c.is_count_apart.ensures) c.told-2.ensures);
      slot = told_at c.told-3.result _ _ _ other_at
          (told_on c.told-3.result _ _ _ (slot_hides o l.slot l.tickets old.content c.hides.result there c.hides.ensures) c.told-3.ensures);
      record_gate = record_told c.in_ok-record.record _ _ _ _ l.tickets last.content old.content area end same_on (c.in_ok-record.ensures.told keeps_on);
    }
