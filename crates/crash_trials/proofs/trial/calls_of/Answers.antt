use Rattle.std.proofs.Common.{refl, arith}
use Rattle.std.proofs.lemmas.Grind.{common_steps}
use Rattle.crash_trials.proofs.trial.calls_of.Goals as goal

pub returns : goal.returns
returns c =
    let told = (rw c.in_ok-report.was at c.lives_on-report.ensures.told) refl in
    record {
      report = c.in_ok-report.report;
      left = c.lives_on-report.result.1;
      reported = record {
        disk = c.new.result;
        formatted = rw c.new.ensures.disk c.in_ok-disk.ensures.formatted;
        told = told;
      };
      all = grind (arith, common_steps);
      noted = c.in_ok-into_calls.ensures;
    }
