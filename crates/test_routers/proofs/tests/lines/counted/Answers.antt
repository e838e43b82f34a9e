use Rattle.std.proofs.Common.{IfSome, subst}
use Rattle.input_lines.specs.Reading.{IsLineAt}
use Rattle.input_lines.proofs.LoopLemmas.{known_more, known_next}
use Rattle.test_routers.proofs.tests.lines.counted.Goals as goal

pub returns-in-End : goal.returns-in-End
returns-in-End g c =
    let known = g.R.Read.remaining c.args.reader.now in
    let line = c.next_line.new.line.items in
    subst (λ next. IfSome known (λ xs. IsLineAt xs c.loop-count.count next line)) c.in-End.is
    (known_next known c.loop-count.count _ _ line c.loop-count.invariant c.in_ok-next_line.ensures.next)

pub loop-count-preserved : goal.loop-count-preserved
loop-count-preserved g c =
    let known = g.R.Read.remaining c.args.reader.now in
    let line = c.next_line.new.line.items in
    known_more known c.loop-count.count _ _ _ line c.in-Line.is c.loop-count.invariant c.in_ok-next_line.ensures.next c.in_ok-next_line.ensures.rest
