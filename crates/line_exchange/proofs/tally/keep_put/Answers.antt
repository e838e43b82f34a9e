use Rattle.std.proofs.Common.{rules, ◌≡◌, ◌<◌, ◌+◌, ap, length, ℕ}
use Rattle.std.specs.Prelude.{set}
use Rattle.requests.specs.Tickets.{last_of}
use Rattle.line_exchange.proofs.NotedLines.{notes_one}
use Rattle.line_exchange.proofs.tally.keep_put.Goals as goal

pub returns-in_ok-next-in-Settled : goal.returns-in_ok-next-in-Settled
returns-in_ok-next-in-Settled g c =
    let noted = c.in-Some.noted in
    let mark = c.in-Settled.mark in
    let puts = c.args.puts.now in
    let within : mark.session < length puts = search rules in
    let same : noted.number ≡ last_of puts mark.session = search rules in
    let next : c.in_ok-next-in-Settled.next ≡ noted.number + 1 = search rules in
    record {
      more = notes_one c.args.answered.now.place c.args.answered.now.answer mark noted.line puts _ c.args.lines.now c.learn.result noted.lines noted.number c.in-Settled.is c.learn.ensures.book c.learn.ensures.this c.learn.ensures.that noted.next
          c.if-line-mark.false c.if-line-mark-2.false c.if-line-answered.false within same (ap (λ (n : ℕ). set puts mark.session n) next);
      book = c.learn.ensures.book;
    }
