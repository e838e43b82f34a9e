use Rattle.std.proofs.Common.{◌+◌, ◌-◌, arith, inl, inr, sym, ap, subst, ◌∙◌}
use Rattle.std.specs.Prelude.{Ok, Err}
use Rattle.schemes.specs.declared.packet.Packet.{Packet}
use Rattle.schemes.specs.Checks.{distance_of}
use Rattle.schemes.specs.Tables.{tables}
use Rattle.schemes.specs.Trails.{IsCarriedWhereConnected, IsUnreachableWhereApart}
use Rattle.schemes.proofs.Serving.Moves.{forward_is}
use Rattle.schemes.proofs.OnTheWay.CarriedTrails.{under_way_next, connected_ok, connected_refused, apart_ok, apart_refused}
use Rattle.schemes.proofs.scheme.Scheme.carry.Goals as goal

pub returns-in-Err-clause-connected : goal.returns-in-Err-clause-connected
returns-in-Err-clause-connected c =
    subst (λ e. IsCarriedWhereConnected c.args.self.now c.args.u c.args.to.now (Err e)) (sym c.carried.ensures)
    (connected_refused c.args.self.now c.args.u c.args.to.now c.in-Err.refused (inl (sym c.in-Err.ensures.packet)))

pub returns-in-Err-clause-apart : goal.returns-in-Err-clause-apart
returns-in-Err-clause-apart c =
    subst (λ e. IsUnreachableWhereApart c.args.self.now c.args.u c.args.to.now (Err e)) (sym c.carried.ensures)
    (apart_refused c.args.self.now c.args.u c.args.to.now c.in-Err.refused (sym c.in-Err.ensures.packet))

pub returns-in_default-clause-apart : goal.returns-in_default-clause-apart
returns-in_default-clause-apart c = apart_ok c.args.self.now c.args.u c.args.to.now c.in-Ok.packet _ (sym c.in-Ok.ensures.packet)

pub returns-in-Ok-Delivered-clause-connected : goal.returns-in-Ok-Delivered-clause-connected
returns-in-Ok-Delivered-clause-connected c =
    connected_ok c.args.self.now c.args.u c.args.to.now c.loop-trail.trail (record {
      at = c.loop-trail.at;
      left = c.loop-trail.packet;
      under_way = c.loop-trail.invariant.under_way;
      delivered = sym c.in-Ok-Delivered.ensures.moved ∙ ap (λ z. Ok z) c.in-Ok-Delivered.field-0-is;
    })

pub returns-in-Ok-Delivered-clause-apart : goal.returns-in-Ok-Delivered-clause-apart
returns-in-Ok-Delivered-clause-apart c = apart_ok c.args.self.now c.args.u c.args.to.now c.loop-trail.invariant.under_way.sent _ c.loop-trail.invariant.under_way.decided

pub returns-in_default-lengthen-clause-apart : goal.returns-in_default-lengthen-clause-apart
returns-in_default-lengthen-clause-apart c = apart_ok c.args.self.now c.args.u c.args.to.now c.loop-trail.invariant.under_way.sent _ c.loop-trail.invariant.under_way.decided

pub loop-trail-smaller : goal.loop-trail-smaller
loop-trail-smaller c =
    let f = forward_is (tables c.args.self.now) c.loop-trail.at c.loop-trail.packet c.in-Ok-Forward.port c.in-Ok-Forward.next c.in-Ok-Forward.left (sym c.in-Ok-Forward.ensures.moved ∙ ap (λ z. Ok z) c.in-Ok-Forward.field-0-is) in
    let less = ap (λ (z : Packet). z.hops_left) f.less in
    omega (arith, f.some, less)

pub loop-trail-preserved : goal.loop-trail-preserved
loop-trail-preserved c =
    let t = tables c.args.self.now in
    let i = c.loop-trail.invariant in
    let k = c.loop-trail.packet in
    let moved = sym c.in-Ok-Forward.ensures.moved ∙ ap (λ z. Ok z) c.in-Ok-Forward.field-0-is in
    let f = forward_is t c.loop-trail.at k c.in-Ok-Forward.port c.in-Ok-Forward.next c.in-Ok-Forward.left moved in
    let here = distance_of (t.entry c.loop-trail.at k.root) in
    let there = c.distance-there.result in
    let hop = c.difference.ensures ∙ (ap (λ d. (d - there) + (there - d)) i.here ∙ ap (λ d. (here - d) + (d - here)) c.distance-there.ensures) in
    record {
      under_way = under_way_next t c.args.u c.args.to.now c.loop-trail.trail.nodes.items c.loop-trail.trail.ports.items c.loop-trail.trail.length c.loop-trail.at k
          c.in-Ok-Forward.port c.in-Ok-Forward.next c.in-Ok-Forward.left c.lengthen.new.trail.nodes.items c.lengthen.new.trail.ports.items c.lengthen.new.trail.length c.difference.result
          i.under_way moved c.in-Ok-lengthen.ensures.nodes c.in-Ok-lengthen.ensures.ports hop c.in-Ok-lengthen.ensures.length;
      here = c.distance-there.ensures ∙ ap (λ r. distance_of (t.entry c.in-Ok-Forward.next r)) (sym (ap (λ (z : Packet). z.root) f.less));
    }

pub returns-in-Err-node_step-clause-refused : goal.returns-in-Err-node_step-clause-refused
returns-in-Err-node_step-clause-refused c = inr (c.in-Err-node_step.refused, (c.carried-in-Err-node_step.ensures, inr (_, (_, (_, (_, (_, (c.loop-trail.invariant.under_way, sym c.in-Err-node_step.ensures.moved))))))))

pub returns-in-Err-node_step-clause-connected : goal.returns-in-Err-node_step-clause-connected
returns-in-Err-node_step-clause-connected c =
    subst (λ e. IsCarriedWhereConnected c.args.self.now c.args.u c.args.to.now (Err e)) (sym c.carried-in-Err-node_step.ensures)
    (connected_refused c.args.self.now c.args.u c.args.to.now c.in-Err-node_step.refused (inr (_, (_, (_, (_, (_, (c.loop-trail.invariant.under_way, sym c.in-Err-node_step.ensures.moved))))))))

pub returns-in-Err-node_step-clause-apart : goal.returns-in-Err-node_step-clause-apart
returns-in-Err-node_step-clause-apart c = apart_ok c.args.self.now c.args.u c.args.to.now c.loop-trail.invariant.under_way.sent _ c.loop-trail.invariant.under_way.decided
