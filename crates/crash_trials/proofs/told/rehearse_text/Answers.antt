use Rattle.std.proofs.Common.{rules}
use Rattle.std.specs.String.{string_bytes}
use Rattle.crash_trials.proofs.told.rehearse_text.Goals as goal

pub returns-clause-printed : goal.returns-clause-printed
returns-clause-printed g c = record {
  lines = c.in-Ok.lines.items;
  spelt = search rules;
  told = string_bytes c.in_ok-told.told;
  is = c.in_ok-told.ensures.told;
  printed = search rules;
}
