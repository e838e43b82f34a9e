use Rattle.line_exchange.proofs.Answering.{answers, answers_off}
use Rattle.line_exchange.proofs.reading.answered.Goals as goal

pub invariant_of-result : goal.invariant_of-result
invariant_of-result g c =
    let known = c.args.known in
    let is = c.in_ok-answer.ensures known in
    record {
      named = c.requires;
      is_answer = answers known g.J.Stream.input g.J.Stream.editors c.args.ask.place c.args.ask.asked c.in_ok-answer.answer c.args.ask.is_line is;
      is_off = answers_off known g.J.Stream.input g.J.Stream.editors c.args.ask.place c.args.ask.asked c.in_ok-answer.answer c.args.ask.is_line is;
    }
