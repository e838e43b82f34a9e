use Rattle.std.proofs.Common.{sym, subst}
use Rattle.generations.specs.Beginnings.{Beginning}
use Rattle.packet_ways.specs.Standing.{IsNewest}
use Rattle.packet_ways.proofs.Newest.{newest_on}
use Rattle.service_actors.proofs.forwarding.look.Goals as goal

pub returns-clause-some : goal.returns-clause-some
returns-clause-some g c =
    let shown = c.in_ok-shown.shown in
    newest_on c.told.result.now c.learn.new.self shown.generation c.learn.ensures.told (subst (λ (b : Beginning). IsNewest b shown.generation) (sym c.told.ensures.same) shown.newest)
