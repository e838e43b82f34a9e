use Rattle.life_chain.specs.Words.{IsLeftByWord}
use Rattle.crash_trials.proofs.KindLemmas.{are_kept}
use Rattle.crash_trials.proofs.trial.lived.Goals as goal

pub kind_of-requires : goal.kind_of-requires
kind_of-requires c =
    let reported = c.in_ok-report.ensures.reported in
    are_kept _ IsLeftByWord reported.1.disk reported.0 c.args.lives.now _ _ reported.1.told.lived reported.1.told.chained

pub returns-in-Some-clause-lived : goal.returns-in-Some-clause-lived
returns-in-Some-clause-lived c =
    let reported = c.in_ok-report.ensures.reported in
    record { report = c.in_ok-report.report; left = reported.0; reported = reported.1; told = c.in-Some.ensures }
