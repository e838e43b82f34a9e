use Rattle.std.proofs.Common.{rules}
use Rattle.generations.proofs.Sharing.{goes_trans}
use Rattle.service_actors.proofs.NewestLooks.{looked_newest}
use Rattle.service_actors.proofs.asked_forwarding.address_now.Goals as goal

pub returns-in-Ok-clause-newest : goal.returns-in-Ok-clause-newest
returns-in-Ok-clause-newest g c =
    let old = c.args.forwarder.now in
    let before = goes_trans old c.loop.forwarder c.look.new.forwarder c.loop.invariant.1.1.1 c.in_ok-look.ensures.kept in
    looked_newest old c.latest.new.self c.address.new.self c.in-Ok-Some.generation (goes_trans old c.look.new.forwarder c.latest.new.self before c.in-Ok-Some.ensures.kept) (search rules) c.in-Ok.ensures.kept

pub returns-in-Err-clause-newest : goal.returns-in-Err-clause-newest
returns-in-Err-clause-newest g c =
    let old = c.args.forwarder.now in
    let before = goes_trans old c.loop.forwarder c.look.new.forwarder c.loop.invariant.1.1.1 c.in_ok-look.ensures.kept in
    looked_newest old c.latest.new.self c.address.new.self c.in-Ok-Some.generation (goes_trans old c.look.new.forwarder c.latest.new.self before c.in-Ok-Some.ensures.kept) (search rules) c.in-Err.ensures.kept
