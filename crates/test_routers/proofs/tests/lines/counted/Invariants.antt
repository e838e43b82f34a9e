-- So many lines are read.
use Rattle.std.proofs.Common.{IfSome}
use Rattle.input_lines.specs.Reading.{AreRead}
use Rattle.test_routers.proofs.tests.lines.counted.Given as goal

abbrev pub invariant-loop-count : goal.invariant-loop-count
invariant-loop-count g l = IfSome (g.R.Read.remaining l.initial.reader) (λ xs. AreRead xs l.count (g.R.Read.remaining l.reader))
