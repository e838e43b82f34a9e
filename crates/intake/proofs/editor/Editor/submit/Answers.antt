use Rattle.std.proofs.Common.{◌≡◌, ap, sym, ◌∙◌, None}
use Rattle.generations.specs.Beginnings.{Beginning}
use Rattle.intake.specs.Editors.{refusal_by}
use Rattle.intake.proofs.Refusals.{on_ok, full_refused}
use Rattle.intake.proofs.editor.Editor.submit.Goals as goal

pub returns-in-Ok-None-clause-let_in : goal.returns-in-Ok-None-clause-let_in
returns-in-Ok-None-clause-let_in g c =
    let none : refusal_by c.put.new.self.known c.args.self.now c.args.ticket ≡ None =
    ap (λ (k : Beginning). refusal_by k c.args.self.now c.args.ticket) c.put.ensures.known ∙ sym (rw c.in-Ok-None.field-0-is at c.in-Ok-None.ensures.refusal) in
    on_ok c.put.result none

pub returns-in-Ok-None-clause-refusal : goal.returns-in-Ok-None-clause-refusal
returns-in-Ok-None-clause-refusal g c =
    let none : refusal_by c.put.new.self.known c.args.self.now c.args.ticket ≡ None =
    ap (λ (k : Beginning). refusal_by k c.args.self.now c.args.ticket) c.put.ensures.known ∙ sym (rw c.in-Ok-None.field-0-is at c.in-Ok-None.ensures.refusal) in
    full_refused c.put.new.self.known c.args.self.now c.args.ticket (λ b. b ≡ c.args.change) c.put.result none c.put.ensures.back
