-- The line is all that was read, and has no line feed.
use Rattle.std.proofs.Common.{◌≤◌, length}
use Rattle.std.specs.Io.KnownBytes.{Consumes}
use Rattle.input_lines.specs.Lines.{longest_line}
use Rattle.input_lines.specs.Reading.{Unfed}
use Rattle.input_lines.proofs.line.next_line.Given as goal

abbrev pub invariant-loop : goal.invariant-loop
invariant-loop g l = record {
  bounded : length l.line.items ≤ longest_line;
  unfed : Unfed l.line.items;
  read : Consumes (g.R.Read.remaining l.initial.reader) (g.R.Read.remaining l.reader) l.line.items;
}
