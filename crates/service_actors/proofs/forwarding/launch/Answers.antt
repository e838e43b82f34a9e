use Rattle.std.proofs.Common.{rules, ◌≡◌, ℕ, sym, subst, refl}
use Rattle.std.specs.Prelude.{Ok, Err}
use Rattle.generations.proofs.Sharing.{goes_trans}
use Rattle.service_actors.specs.Forwarded.{IsAlongIn, IsLaunched, IsLaunchedByNewest}
use Rattle.service_actors.proofs.NewestLooks.{along_newest, looked_newest, refused_newest}
use Rattle.service_actors.proofs.PacketsOnWay.{address_refused, launch_refused, sent_by}
use Rattle.service_actors.proofs.forwarding.launch.Goals as goal

pub returns-in-Err-clause-launched : goal.returns-in-Err-clause-launched
returns-in-Err-clause-launched g c =
    subst (IsLaunched c.address.new.self c.args.trip) (sym c.refused_at.ensures)
    (address_refused c.address.new.self c.args.trip c.in-Ok-Some.generation (Err c.in-Err.refused) c.in-Err.refused c.in-Err.ensures.answer refl)

pub carry-requires : goal.carry-requires
carry-requires g c =
    sent_by c.address.new.self c.launch.new.self c.in-Ok-Some.generation c.args.trip.from c.args.trip.to c.in-Ok.address (Ok c.in-Ok.address) (Ok c.in-Ok-launch.packet) c.in-Ok-launch.packet
    c.in-Ok-launch.ensures.kept c.in-Ok.ensures.answer refl c.in-Ok-launch.ensures.answer refl

pub returns-in-Err-launch-clause-launched : goal.returns-in-Err-launch-clause-launched
returns-in-Err-launch-clause-launched g c =
    subst (IsLaunched c.launch.new.self c.args.trip) (sym c.refused_at-in-Err-launch.ensures)
    (launch_refused c.address.new.self c.launch.new.self c.args.trip c.in-Ok-Some.generation c.in-Ok.address (Ok c.in-Ok.address) (Err c.in-Err-launch.refused) c.in-Err-launch.refused
    c.in-Err-launch.ensures.kept c.in-Ok.ensures.answer refl c.in-Err-launch.ensures.answer refl)

pub returns-in-Err-clause-newest : goal.returns-in-Err-clause-newest
returns-in-Err-clause-newest g c =
    let old = c.args.forwarder.now in
    let new = c.address.new.self in
    subst (IsLaunchedByNewest old new) (sym c.refused_at.ensures)
    (refused_newest old new c.in-Ok-Some.generation c.in-Err.refused (looked_newest old c.latest.new.self new c.in-Ok-Some.generation c.in-Ok-Some.ensures.kept (search rules) c.in-Err.ensures.kept))

pub returns-in-Err-launch-clause-newest : goal.returns-in-Err-launch-clause-newest
returns-in-Err-launch-clause-newest g c =
    let old = c.args.forwarder.now in
    let new = c.launch.new.self in
    let on = goes_trans c.latest.new.self c.address.new.self new c.in-Ok.ensures.kept c.in-Err-launch.ensures.kept in
    subst (IsLaunchedByNewest old new) (sym c.refused_at-in-Err-launch.ensures)
    (refused_newest old new c.in-Ok-Some.generation c.in-Err-launch.refused (looked_newest old c.latest.new.self new c.in-Ok-Some.generation c.in-Ok-Some.ensures.kept (search rules) on))

pub returns-else-packet-generation-clause-newest : goal.returns-else-packet-generation-clause-newest
returns-else-packet-generation-clause-newest g c =
    let old = c.args.forwarder.now in
    let new = c.carry.new.forwarder in
    let same : c.in-Ok-launch.packet.generation ≡ c.in-Ok-Some.generation = search rules in
    let on = goes_trans c.latest.new.self c.address.new.self new c.in-Ok.ensures.kept (goes_trans c.address.new.self c.launch.new.self new c.in-Ok-launch.ensures.kept c.carry.ensures.kept) in
    along_newest old new c.in-Ok-Some.generation c.carry.result (looked_newest old c.latest.new.self new c.in-Ok-Some.generation c.in-Ok-Some.ensures.kept (search rules) on) (subst (λ (n : ℕ). IsAlongIn n c.carry.result) same c.carry.ensures.along)
