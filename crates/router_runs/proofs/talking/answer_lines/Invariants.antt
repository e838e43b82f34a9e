use Rattle.router_runs.specs.Runs.{AnswersSoFar}
use Rattle.router_runs.proofs.talking.answer_lines.Given as goal

abbrev pub invariant-loop : goal.invariant-loop
invariant-loop g l =
    AnswersSoFar g.F.TableSource.reads (g.R.Read.remaining l.fn.reader) l.fn.shelf (g.O.Write.contents l.fn.out) (g.R.Read.remaining l.reader) l.shelf (g.O.Write.contents l.out)
