use Rattle.service_actors.proofs.NewestLooks.{newest_wider}
use Rattle.generations.proofs.Sharing.{goes_self, goes_trans}
use Rattle.service_actors.proofs.forwarding.forward.Goals as goal

pub returns-in-Answered-clause-newest : goal.returns-in-Answered-clause-newest
returns-in-Answered-clause-newest g c =
    let old = c.args.forwarder.now in
    let from = c.look.new.forwarder in
    let new = c.launch.new.forwarder in
    newest_wider old from new new c.in-Answered.carried (goes_trans old c.loop.forwarder from c.loop.invariant.1.1.1 c.in_ok-look.ensures.kept) (goes_self new) c.in-Answered.ensures.newest
