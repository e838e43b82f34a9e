use Rattle.line_exchange.proofs.Answering.{filled_at, filled_off}
use Rattle.line_exchange.proofs.tally.Tally.filled.Goals as goal

pub invariant_of-result : goal.invariant_of-result
invariant_of-result g c =
    let old = c.args.answered in
    record {
      named = old.named;
      is_answer = filled_at old.known g.J.Stream.input g.J.Stream.editors old.place old.answer c.fill.result c.fill.ensures.stays old.is_answer;
      is_off = filled_off old.known g.J.Stream.input g.J.Stream.editors old.place old.answer c.fill.result c.fill.ensures.stays old.is_off;
    }
