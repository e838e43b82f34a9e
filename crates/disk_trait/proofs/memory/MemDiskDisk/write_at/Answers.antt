use Rattle.std.proofs.Common.{arith, ap, rules, length, take, length-take}
use Rattle.std.proofs.lemmas.List.{length_push}
use Rattle.disk_trait.proofs.Past.{called_write}
use Rattle.disk_trait.proofs.memory.MemDiskDisk.write_at.Goals as goal

pub returns-in-Some-clause-call : goal.returns-in-Some-clause-call
returns-in-Some-clause-call c =
    let more = ap length c.in-Some.ensures.failed in
    let one = length_push c.args.self.now.failures.items tt in
    rw c.begin.ensures.past (called_write _ c.args.self.now.cells c.write.new.self _ _ c.args.at (length c.args.bytes.now) (take c.min.result c.args.bytes.now) _ (omega (arith, length-take c.min.result c.args.bytes.now)) c.requires (search rules) (search rules) (omega arith) (λ _. omega arith) tt)

pub returns-in-None-clause-call : goal.returns-in-None-clause-call
returns-in-None-clause-call c =
    let same = ap length c.in-None.ensures.goes in
    rw c.begin.ensures.past (called_write _ c.args.self.now.cells c.write-in-None.new.self _ _ c.args.at (length c.args.bytes.now) c.args.bytes.now _ (omega arith) c.requires (search rules) (search rules) (omega arith) (λ e. cc) same)
