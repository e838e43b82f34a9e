use Rattle.std.proofs.Common.{◌∙◌, sym, arith}
use Rattle.heavy_labels.specs.Stepped.{stepped}
use Rattle.router_table.specs.Table.{shown}
use Rattle.table_view.proofs.Moves.{arrives, first_inside, hop_is, no_bytes, no_root, ports_are, too_many}
use Rattle.table_view.proofs.Packets.{hops_are}
use Rattle.table_view.proofs.Places.{has_parts}
use Rattle.table_view.proofs.hops.hop_of.Goals as goal

pub returns-in_err-head : goal.returns-in_err-head
returns-in_err-head c a k spelled carried = absurd (has_parts c.args.table.now a spelled c.in_err-head.ensures.parts)

pub returns-then-hops_left-nodes : goal.returns-then-hops_left-nodes
returns-then-hops_left-nodes c a k spelled carried =
    too_many c.args.table.now c.args.packet.now _ a k c.in_ok-head.ensures.parts spelled carried (omega (arith, c.if-hops_left-nodes.true, c.u16_in-nodes.ensures, c.u16_in-hops_left.ensures))

pub returns-then-not-is_inside : goal.returns-then-not-is_inside
returns-then-not-is_inside c a k spelled carried =
    let inside = first_inside c.args.table.now c.args.packet.now _ a k c.in_ok-head.ensures.parts spelled carried in
    let yes = c.is_inside.ensures.1 (λ n is. omega (arith, inside n is, c.u16_in-nodes.ensures)) in
    let no = c.if-not-is_inside.true in
    cc

pub returns-in_default : goal.returns-in_default
returns-in_default c a k spelled carried =
    no_root c.args.table.now c.args.packet.now _ a k c.in_ok-head.ensures.parts spelled carried (omega (arith, c.if-hops_left-nodes.false, c.u16_in-nodes.ensures, c.u16_in-hops_left.ensures)) c.u16_in.result c.u16_in.ensures c.in_default.ensures.place

pub returns-in_err-entry : goal.returns-in_err-entry
returns-in_err-entry c a k spelled carried =
    absurd (no_bytes c.args.table.now c.args.packet.now _ a k c.in_ok-head.ensures.parts spelled carried (omega (arith, c.if-hops_left-nodes.false, c.u16_in-nodes.ensures, c.u16_in-hops_left.ensures)) c.in-Some.place c.in-Some.ensures.inside (c.in-Some.ensures.place ∙ c.u16_in.ensures) c.in_err-entry.ensures)

pub returns : goal.returns
returns c a k spelled carried =
    hop_is c.args.table.now c.args.packet.now _ a k c.in_ok-head.ensures.parts spelled carried (omega (arith, c.if-hops_left-nodes.false, c.u16_in-nodes.ensures, c.u16_in-hops_left.ensures)) c.in-Some.place c.in-Some.ensures.inside (c.in-Some.ensures.place ∙ c.u16_in.ensures)
    c.in_ok-entry.entry _ (stepped c.step_of-step.result) c.in_ok-entry.ensures (λ l first light. c.step_of-step.ensures l (first ∙ sym c.u16_in-2.ensures) light)
    ∙ c.hop_after.ensures (shown a) a.head.node k (arrives c.args.table.now c.args.packet.now _ a k c.in_ok-head.ensures.parts spelled carried _ _ c.u16_in-node.ensures c.u16_in-3.ensures) (c.u16_in-hops_left.ensures ∙ hops_are c.args.packet.now k carried) (ports_are c.args.table.now c.args.packet.now _ a k c.in_ok-head.ensures.parts spelled carried)
