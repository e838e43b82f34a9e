-- So far only bytes that are no line feed are left.
use Rattle.std.proofs.Common.{ℕ, List}
use Rattle.std.specs.Io.KnownBytes.{Consumes}
use Rattle.input_lines.specs.Reading.{Unfed}
use Rattle.input_lines.proofs.line.skip_longer.Given as goal

abbrev pub invariant-loop : goal.invariant-loop
invariant-loop g l = (part : List ℕ) × Unfed part × Consumes (g.R.Read.remaining l.initial.reader) (g.R.Read.remaining l.reader) part
