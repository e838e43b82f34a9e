use Rattle.std.proofs.Common.{rules, ◌≡◌, ap, sym, subst, refl}
use Rattle.std.specs.Prelude.{Ok, Err}
use Rattle.schemes.specs.declared.packet.Packet.{Packet}
use Rattle.generations.proofs.Sharing.{goes_self, goes_trans}
use Rattle.packet_ways.specs.declared.carried.Carried.TheVariants.{Along}
use Rattle.service_actors.specs.Forwarded.{IsOnWay}
use Rattle.service_actors.proofs.PacketsOnWay.{back_as_it_was, delivered_there, hopped_on, on_way_first, on_way_later}
use Rattle.service_actors.proofs.forwarding.carry.Goals as goal

pub loop-init : goal.loop-init
loop-init g c =
    (tt, (tt, (goes_self c.args.forwarder.now, on_way_first c.args.forwarder.now c.args.trip.from c.args.trip.to c.args.packet c.push.new.self.items c.requires (search rules))))

pub returns-in-Ok-Delivered-clause-launched : goal.returns-in-Ok-Delivered-clause-launched
returns-in-Ok-Delivered-clause-launched g c =
    delivered_there c.loop.forwarder c.hop.new.self c.args.trip c.args.packet.generation c.loop.at c.loop.packet (Ok c.in-Ok-Delivered.field-0)
    (Along c.args.packet.generation c.loop.nodes c.length_over-length.result) c.loop.nodes.items c.in-Ok-Delivered.ensures.kept c.loop.invariant.1.1.1 c.in-Ok-Delivered.ensures.answer
    (ap (λ z. Ok z) c.in-Ok-Delivered.field-0-is) (refl, refl)

pub loop-preserved-in-Ok-Forward : goal.loop-preserved-in-Ok-Forward
loop-preserved-in-Ok-Forward g c = (
  tt,
  (
    tt,
    (
      goes_trans c.args.forwarder.now c.loop.forwarder c.hop.new.self c.loop.invariant.1.1.0 c.in-Ok-Forward.ensures.kept,
      hopped_on c.loop.forwarder c.hop.new.self c.args.trip.from c.args.trip.to c.args.packet.generation c.loop.nodes.items c.push-in-Ok-Forward.new.self.items c.loop.at c.loop.packet
          c.in-Ok-Forward.field-0-0 c.in-Ok-Forward.next c.in-Ok-Forward.on (Ok c.in-Ok-Forward.field-0) c.in-Ok-Forward.ensures.kept c.loop.invariant.1.1.1 c.in-Ok-Forward.ensures.answer
          (ap (λ z. Ok z) c.in-Ok-Forward.field-0-is) (search rules),
    ),
  ),
)

pub loop-preserved : goal.loop-preserved
loop-preserved g c =
    let same : c.in-Err-BoardShut-default.back ≡ c.loop.packet =
    back_as_it_was c.hop.new.self c.loop.at c.loop.packet c.in-Err-BoardShut-default.back (Err (c.in-Err-BoardShut-default.field-0-0, c.in-Err-BoardShut-default.back)) c.in-Err-BoardShut-default.field-0-0
    c.in-Err-BoardShut-default.ensures.answer refl in (
      tt,
      (
        tt,
        (
          goes_trans c.args.forwarder.now c.loop.forwarder c.hop.new.self c.loop.invariant.1.1.0 c.in-Err-BoardShut-default.ensures.kept,
          subst (λ (k : Packet). IsOnWay c.hop.new.self c.args.trip.from c.args.trip.to c.args.packet.generation c.loop.nodes.items c.loop.at k) (sym same)
              (on_way_later c.loop.forwarder c.hop.new.self c.args.trip.from c.args.trip.to c.args.packet.generation c.loop.nodes.items c.loop.at c.loop.packet c.in-Err-BoardShut-default.ensures.kept c.loop.invariant.1.1.1),
        ),
      ),
    )
