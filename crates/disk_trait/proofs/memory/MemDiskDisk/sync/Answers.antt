use Rattle.std.proofs.Common.{arith, ap, rules, length}
use Rattle.std.proofs.lemmas.List.{length_push}
use Rattle.disk_trait.proofs.Torn.{image_settled}
use Rattle.disk_trait.proofs.Past.{called_same, called_sync, only_now}
use Rattle.disk_trait.proofs.memory.MemDiskDisk.sync.Goals as goal

pub returns-in-Some-clause-call : goal.returns-in-Some-clause-call
returns-in-Some-clause-call c =
    let more = ap length c.in-Some.ensures.failed in
    let one = length_push c.args.self.now.failures.items tt in
    rw c.begin.ensures.past (called_same _ c.args.self.now.cells c.begin.new.self.cells _ _ _ c.begin.ensures.cells (omega arith) (λ _. omega arith) tt)

pub returns-in-None-clause-call : goal.returns-in-None-clause-call
returns-in-None-clause-call c =
    let same = ap length c.in-None.ensures.goes in
    rw c.begin.ensures.past (called_sync _ c.args.self.now.cells c.settle.new.self _ _ _ (search rules) (search rules) (omega arith) (λ e. cc) same)

pub returns-in-None-clause-settled : goal.returns-in-None-clause-settled
returns-in-None-clause-settled c _ image left =
    let is = only_now c.begin.new.self.past.items c.settle.new.self (length c.begin.new.self.failures.items) image left in
    rw c.settle.ensures.bytes (image_settled c.begin.new.self.cells.bytes.items image (rw (c.settle.ensures.bytes, c.settle.ensures.unsettled) at is))
