use Rattle.std.proofs.Common.{arith, ap, length}
use Rattle.std.proofs.lemmas.List.{length_push}
use Rattle.disk_trait.proofs.Past.{called_same}
use Rattle.disk_trait.proofs.memory.MemDiskDisk.read.Goals as goal

pub returns-in-Some-clause-call : goal.returns-in-Some-clause-call
returns-in-Some-clause-call c =
    let more = ap length c.in-Some.ensures.failed in
    let one = length_push c.args.self.now.failures.items tt in
    rw c.begin.ensures.past (called_same _ c.args.self.now.cells c.begin.new.self.cells _ _ _ c.begin.ensures.cells (omega arith) (λ _. omega arith) tt)

pub returns-in-None-clause-call : goal.returns-in-None-clause-call
returns-in-None-clause-call c =
    let same = ap length c.in-None.ensures.goes in
    rw c.begin.ensures.past (called_same _ c.args.self.now.cells c.begin.new.self.cells _ _ _ c.begin.ensures.cells (omega arith) (λ e. cc) same)
