use Rattle.std.proofs.Common.{List, length, arith, ap}
use Rattle.graph_edits.specs.declared.edits.Op.{Op}
use Rattle.journal.specs.ChangeForm.{length_ops}
use Rattle.journal.proofs.change_entry.ChangeEntry.text_len.Goals as goal

pub returns-clause-len : goal.returns-clause-len
returns-clause-len c = omega (arith, length_ops c.args.self.now, ap (λ (ops : List Op). length ops) c.ops.ensures.ops)
