use Rattle.std.proofs.Common.{arith}
use Rattle.std.proofs.lemmas.Bool.{true_from_ne_false}
use Rattle.table_view.proofs.Forms.{headless, is_body, listless, no_order}
use Rattle.table_view.proofs.Lists.{not_so}
use Rattle.table_view.proofs.order.is_body.Goals as goal

pub returns-in_default : goal.returns-in_default
returns-in_default c =
    not_so (headless c.args.body.now c.split_at.result.0.now c.split_at.result.1.now c.split_at-2.result.1.now c.split_at.ensures.front c.split_at.ensures.back c.split_at-2.ensures.back c.in_default.ensures)

pub returns-then-not-is_head : goal.returns-then-not-is_head
returns-then-not-is_head c =
    not_so (no_order c.args.body.now c.split_at.result.0.now c.split_at.result.1.now c.split_at-2.result.1.now c.split_at.ensures.front c.split_at.ensures.back c.split_at-2.ensures.back
    c.in-Some.head c.in-Some.ensures (λ order. (let yes = c.is_head.ensures.1 order in let no = c.if-not-is_head.true in cc)))

pub returns : goal.returns
returns c = (
  λ yes. is_body c.args.body.now c.split_at.result.0.now c.split_at.result.1.now c.split_at-2.result.1.now c.split_at.ensures.front c.split_at.ensures.back c.split_at-2.ensures.back
      c.in-Some.head c.in-Some.ensures (λ i. omega (arith, c.type_inv.body i)) c.requires.front c.requires.long (c.is_head.ensures.0 c.if-not-is_head.false) (c.are_lists.ensures.0 yes),
  λ is. true_from_ne_false c.are_lists.result (λ no. listless c.args.body.now c.split_at.result.0.now c.split_at.result.1.now c.split_at-2.result.1.now c.split_at.ensures.front c.split_at.ensures.back c.split_at-2.ensures.back
      c.in-Some.head c.in-Some.ensures (λ lists. (let yes = c.are_lists.ensures.1 lists in cc)) is),
)
