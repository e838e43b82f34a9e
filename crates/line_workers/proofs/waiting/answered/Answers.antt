use Rattle.line_exchange.proofs.Answering.{answers, answers_off}
use Rattle.line_workers.proofs.waiting.answered.Goals as goal

pub invariant_of-result : goal.invariant_of-result
invariant_of-result g c =
    let known = c.in_ok-answer.known in
    let is = c.in_ok-answer.ensures.answers in
    record {
      named = c.in_ok-answer.ensures.named;
      is_answer = answers known g.J.Stream.input g.J.Stream.editors c.args.ask.place c.args.ask.asked c.in_ok-answer.answer c.args.ask.is_line is;
      is_off = answers_off known g.J.Stream.input g.J.Stream.editors c.args.ask.place c.args.ask.asked c.in_ok-answer.answer c.args.ask.is_line is;
    }
