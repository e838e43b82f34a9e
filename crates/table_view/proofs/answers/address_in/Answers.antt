use Rattle.std.proofs.Common.{ap, Some}
use Rattle.std.proofs.lemmas.Option.{none-some, same_Some}
use Rattle.router_table.specs.declared.head.Head.{Head}
use Rattle.router_table.specs.Table.{address_of}
use Rattle.table_view.proofs.Places.{has_parts, head_read}
use Rattle.table_view.proofs.answers.address_in.Goals as goal

pub returns-in_err-head : goal.returns-in_err-head
returns-in_err-head c a spelled = absurd (has_parts c.args.table.now a spelled c.in_err-head.ensures.parts)

pub returns-in_err-router : goal.returns-in_err-router
returns-in_err-router c a spelled = absurd (none-some _ (head_read c.args.table.now _ a c.in_ok-head.ensures.parts spelled _ c.in_err-router.ensures))

pub returns : goal.returns
returns c a spelled = ap (λ (h : Head). Some (address_of h)) (same_Some _ _ (head_read c.args.table.now _ a c.in_ok-head.ensures.parts spelled _ c.in_ok-router.ensures))
