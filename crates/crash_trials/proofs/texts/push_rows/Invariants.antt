use Rattle.std.proofs.Common.{◌≡◌, ◌++◌, take}
use Rattle.std.specs.List.{flat_map}
use Rattle.std.specs.String.{string_bytes}
use Rattle.crash_trials.specs.Trials.{count_line}
use Rattle.crash_trials.proofs.texts.push_rows.Given as goal

-- the lines of the rows so far are there
abbrev pub invariant-loop-row : goal.invariant-loop-row
invariant-loop-row l = string_bytes l.text ≡ string_bytes l.initial.text ++ flat_map count_line (take l.row-index l.rows)
