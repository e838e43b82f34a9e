use Rattle.std.proofs.Common.{arith, ap, ◌∙◌, List, ℕ, drop, subst}
use Rattle.router_table.specs.Fields.{table_of}
use Rattle.router_table.specs.Reading.{IsHeadIn}
use Rattle.router_table.proofs.BodyTexts.{no_head, lists_refused, body_read}
use Rattle.router_table.proofs.reading.fields_of.Goals as goal

pub returns-in_default : goal.returns-in_default
returns-in_default c = no_head c.args.body.now (λ h ok e. c.in_default.ensures h ok (c.split_at-2.ensures.back ∙ ap (λ (t : List ℕ). drop 8 t) c.split_at.ensures.front ∙ e))

pub returns-in-Err : goal.returns-in-Err
returns-in-Err c = rw c.refused_by.ensures (lists_refused c.args.body.now c.split_at.result.1.now c.in-Err.failed c.split_at.ensures.back c.in-Err.ensures)

pub returns-in-Ok : goal.returns-in-Ok
returns-in-Ok c =
    let lists = c.in-Ok in
    body_read c.args.body.now c.split_at.result.0.now c.split_at.result.1.now (table_of (record { head = c.in-Some.head; ports = lists.ports; entries = lists.entries; directory = lists.directory }))
    (λ i. omega (arith, c.type_inv.body i)) c.requires.front c.requires.long c.split_at.ensures.front c.split_at.ensures.back (subst (λ (t : List ℕ). IsHeadIn t c.in-Some.head) c.split_at-2.ensures.back c.in-Some.ensures) lists.ensures
