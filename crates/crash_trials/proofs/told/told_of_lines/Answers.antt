use Rattle.std.proofs.Common.{rules, inr}
use Rattle.crash_trials.proofs.told.told_of_lines.Goals as goal

pub returns-in_ok-map_err-in-Some-clause-told : goal.returns-in_ok-map_err-in-Some-clause-told
returns-in_ok-map_err-in-Some-clause-told g c = inr (record { rehearsal = c.in-Some.rehearsal; are = search rules; is = search rules })
