use Rattle.std.proofs.Common.{List, length, arith, ap}
use Rattle.graph_edits.specs.declared.edits.Op.{Op}
use Rattle.journal.specs.ChangeForm.{length_ops}
use Rattle.journal.specs.RequestForm.{length_request}
use Rattle.journal.proofs.request_entry.RequestEntry.text_len.Goals as goal

pub returns-clause-len : goal.returns-clause-len
returns-clause-len c = let request = c.args.self.now in omega (arith, length_request request, length_ops request.change, ap (λ (ops : List Op). length ops) c.ops.ensures.ops)
