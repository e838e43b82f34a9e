use Rattle.std.proofs.Common.{sym, subst}
use Rattle.std.specs.Prelude.{IfSome}
use Rattle.live_lines.specs.declared.asked.Asked.{Asked}
use Rattle.line_exchange.specs.OneList.{IsSaidBy}
use Rattle.line_workers.proofs.editing.answer_of.Goals as goal

pub returns-in-Edit-clause-said : goal.returns-in-Edit-clause-said
returns-in-Edit-clause-said g c =
    subst (λ (a : Asked). IfSome c.edited.result (λ r. ∥ IsSaidBy r.0.editor.known a r.1 ∥₁)) (sym c.in-Edit.is) c.edited.ensures.said
