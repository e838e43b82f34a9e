use Rattle.std.proofs.Common.{arith}
use Rattle.rehearsals.proofs.run.rehearse.Goals as goal

pub returns-clause-printed : goal.returns-clause-printed
returns-clause-printed c = record {
  report = c.in_ok-report.report;
  left = c.in_ok-report.ensures.reported.0;
  reported = rw c.deref.ensures.value at c.in_ok-report.ensures.reported.1;
  printed = grind (arith, c.in_ok-report_text.ensures, c.saturating_sub-whole.ensures, c.len.ensures);
}
