use Rattle.std.proofs.Common.{◌≡◌, ap, inl, sym, ◌∙◌, length}
use Rattle.disk_trait.specs.Memory.{IsImageOf}
use Rattle.disk_trait.proofs.Torn.{image_settled}
use Rattle.disk_trait.proofs.ImageLemmas.{image_by_word}
use Rattle.disk_trait.proofs.Past.{only_now}
use Rattle.disk_trait.proofs.memory.MemDiskCrashDisk.crash.Goals as goal

pub returns-clause-image : goal.returns-clause-image
returns-clause-image c _ =
    let cells = c.args.self.cells in
    inl (rw c.crash.ensures.bytes (image_by_word c.args.word cells.unsettled.items cells.bytes.items cells.synced.items cells.flags cells.agrees))

pub returns-clause-settled : goal.returns-clause-settled
returns-clause-settled c _ image left =
    let cells = c.args.self.cells in
    let is : IsImageOf c.crash.new.self image = only_now c.with_entry-past.result.items c.crash.new.self 0 image left in
    let n : length c.args.self.cells.bytes.items ≡ length c.crash.new.self.bytes.items =
    sym (ap length c.crash.ensures.bytes ∙ (image_by_word c.args.word cells.unsettled.items cells.bytes.items cells.synced.items cells.flags cells.agrees).as_long) in
    image_settled c.crash.new.self.bytes.items image (rw (c.crash.ensures.unsettled, n) at is)
