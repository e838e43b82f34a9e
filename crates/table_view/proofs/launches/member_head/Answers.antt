use Rattle.table_view.proofs.Walks.{head_cut}
use Rattle.table_view.proofs.launches.member_head.Goals as goal

pub returns-in_err-behind : goal.returns-in_err-behind
returns-in_err-behind c = rw c.from_residual-in_err-behind.ensures (head_cut c.args.bytes.now _ _ _ _ _ _ c.in_ok-node.ensures c.in_ok-rest.ensures c.in_ok-count.ensures c.if-count-gt-MOST_LIGHTS.false _ c.in_err-behind.ensures.parts)

pub returns : goal.returns
returns c = head_cut c.args.bytes.now _ _ _ _ _ _ c.in_ok-node.ensures c.in_ok-rest.ensures c.in_ok-count.ensures c.if-count-gt-MOST_LIGHTS.false _ c.in_ok-behind.ensures.parts
