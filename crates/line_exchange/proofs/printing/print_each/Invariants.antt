use Rattle.std.proofs.Common.{◌≡◌}
use Rattle.std.specs.Io.KnownBytes.{Appends}
use Rattle.live_lines.specs.Answers.{answer_text}
use Rattle.line_exchange.specs.Prints.{HasPrintedBy}
use Rattle.line_exchange.proofs.printing.print_each.Given as goal

abbrev pub invariant-loop : goal.invariant-loop
invariant-loop g l =
    (goal.iterator-loop g).can_next l.iterator' × ((goal.iterator-loop g).is_finite l.iterator'
    × ((l.tally.known.opening ≡ g.B.BoardName.opening) × ((l.tally.lines.book ≡ g.J.Stream.book) × HasPrintedBy answer_text l.tally g.J.Stream.input g.J.Stream.editors (Appends (g.O.AnswerWriter.contents l.initial.out) (g.O.AnswerWriter.contents l.out)))))
