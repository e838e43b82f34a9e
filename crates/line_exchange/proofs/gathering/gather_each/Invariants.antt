use Rattle.std.proofs.Common.{◌≡◌}
use Rattle.std.specs.String.{string_bytes}
use Rattle.line_exchange.specs.Gathers.{HasText}
use Rattle.line_exchange.proofs.gathering.gather_each.Given as goal

abbrev pub invariant-loop : goal.invariant-loop
invariant-loop g l =
    (goal.iterator-loop g).can_next l.iterator' × ((goal.iterator-loop g).is_finite l.iterator'
    × ((l.tally.known.opening ≡ g.B.BoardName.opening) × ((l.tally.lines.book ≡ g.J.Stream.book) × HasText l.tally g.J.Stream.input g.J.Stream.editors (string_bytes l.text))))
