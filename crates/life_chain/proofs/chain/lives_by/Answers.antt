use Rattle.life_chain.specs.Lived.{AreLived}
use Rattle.life_chain.proofs.LifeLemmas.{first_opened, last_refused, are_chained, exactly_once}
use Rattle.life_chain.proofs.chain.lives_by.Goals as goal

pub returns-in-Ok-clause-told : goal.returns-in-Ok-clause-told
returns-in-Ok-clause-told g c model =
    let disk = c.args.disk in
    let left = c.lives_in-report.result.1 in
    let ls = c.args.lives.now in
    let reports = c.lives_in-report.result.0.lives.items in
    let refused = c.lives_in-report.result.0.refused in
    let so : AreLived g.D.Disk g.C.Crash.by_word disk ls reports refused left = c.lives_in-report.ensures model in
    record {
      first = first_opened g.D.Disk g.C.Crash.by_word disk left ls reports refused so;
      chained = are_chained g.D.Disk g.C.Crash.by_word c.standing_law.ensures disk left ls reports refused so;
      exactly_once = exactly_once g.D.Disk g.C.Crash.by_word c.tickets_law.ensures.life c.exactly_once_laws.ensures.exactly_once c.standing_law.ensures disk left ls reports refused so;
      refused = last_refused g.D.Disk g.C.Crash.by_word disk left ls reports refused so;
      lived = so;
    }
