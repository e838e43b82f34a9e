use Rattle.std.proofs.Common.{ap, sym, Option, Some}
use Rattle.std.specs.Prelude.{option_map}
use Rattle.schemes.specs.declared.parts.Listed.{Listed}
use Rattle.table_view.proofs.Walks.{at_first, goes_on, has_head, has_member, has_number, is_found, is_none}
use Rattle.table_view.proofs.launches.label_in.Goals as goal

pub returns-in_err-count : goal.returns-in_err-count
returns-in_err-count c ms rest is = absurd (has_number c.args.directory.now ms rest is c.in_err-count.ensures)

pub loop-init : goal.loop-init
loop-init c ms rest is = at_first c.args.directory.now ms rest is c.in_ok-count.count c.args.node c.in_ok-count.members.now c.in_ok-count.ensures

pub returns-in_default : goal.returns-in_default
returns-in_default c ms rest is = absurd (has_head c.in_ok-count.count c.loop.counter c.args.node c.loop.rest.now ms rest c.loop-test.true (c.loop.invariant ms rest is) c.in_default.ensures)

pub loop-preserved : goal.loop-preserved
loop-preserved c ms rest is =
    goes_on c.in_ok-count.count c.loop.counter c.args.node c.loop.rest.now ms rest c.loop-test.true (c.loop.invariant ms rest is) c.in-Some.listed c.in-Some.behind.now c.in-Some.ensures c.if-listed-node.false

pub returns-in_err-member : goal.returns-in_err-member
returns-in_err-member c ms rest is = absurd (has_member c.in_ok-count.count c.loop.counter c.args.node c.loop.rest.now ms rest c.loop-test.true (c.loop.invariant ms rest is) c.in_err-member.ensures)

pub returns-then-listed-node : goal.returns-then-listed-node
returns-then-listed-node c ms rest is =
    let found = is_found c.in_ok-count.count c.loop.counter c.args.node c.loop.rest.now ms rest c.loop-test.true (c.loop.invariant ms rest is) c.in-Some.listed c.in-Some.behind.now _ c.in-Some.ensures c.if-listed-node.true c.in_ok-member.ensures in
    ap (λ (o : Option Listed). Some (option_map (λ m. m.label) o)) (sym found)

pub returns : goal.returns
returns c ms rest is =
    let none = is_none c.in_ok-count.count c.loop.counter c.args.node c.loop.rest.now ms rest c.loop-test.false (c.loop.invariant ms rest is) in
    ap (λ (o : Option Listed). Some (option_map (λ m. m.label) o)) (sym none)
