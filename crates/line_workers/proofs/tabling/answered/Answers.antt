use Rattle.line_exchange.proofs.Answering.{answers, answers_off}
use Rattle.line_workers.proofs.tabling.answered.Goals as goal

pub invariant_of-answered : goal.invariant_of-answered
invariant_of-answered g c =
    let known = c.known.result in
    let input = g.J.Stream.input in
    let editors = g.J.Stream.editors in
    let ask = c.args.ask in
    let answer = c.in_ok-reader.answer in
    let is = c.in_ok-reader.ensures known in
    record {
      named = c.known.ensures;
      is_answer = answers known input editors ask.place ask.asked answer ask.is_line is;
      is_off = answers_off known input editors ask.place ask.asked answer ask.is_line is;
    }
