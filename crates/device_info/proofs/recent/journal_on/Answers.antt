use Rattle.std.proofs.Common.{rules}
use Rattle.device_info.proofs.recent.journal_on.Goals as goal

pub returns-clause-printed : goal.returns-clause-printed
returns-clause-printed g c = record {
  changes = c.in_ok-changes.changes;
  own = c.in_ok-changes.ensures.changes;
  printed = search rules;
  read = c.in_ok-changes.ensures.read;
}
