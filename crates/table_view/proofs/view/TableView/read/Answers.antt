use Rattle.table_view.proofs.Forms.{not_spelled}
use Rattle.table_view.proofs.view.TableView.read.Goals as goal

pub returns-then-not-is_body-clause-refused : goal.returns-then-not-is_body-clause-refused
returns-then-not-is_body-clause-refused c =
    not_spelled c.args.bytes.now c.in_ok-body.body.now c.in_ok-body.ensures (λ is. (let yes = c.is_body.ensures.1 is in let no = c.if-not-is_body.true in cc))
