use Rattle.std.proofs.Common.{sym, subst}
use Rattle.generations.specs.Beginnings.{Beginning}
use Rattle.line_exchange.proofs.Answering.{answers_known, off_known}
use Rattle.line_workers.specs.Newest.{GoesByNewest}
use Rattle.line_workers.proofs.forwarding.answered.Goals as goal

pub invariant_of-result : goal.invariant_of-result
invariant_of-result g c =
    let known = c.known.result in
    let seen = c.answer_at.new.forwarder.forwarder in
    let input = g.J.Stream.input in
    let editors = g.J.Stream.editors in
    let ask = c.args.ask in
    let answer = c.in_ok-answer.answer in
    record {
      named = c.known.ensures.named;
      is_answer = answers_known known seen input editors ask.place ask.asked answer c.known.ensures.same ask.is_line c.in_ok-answer.ensures.answer;
      is_off = off_known known seen input editors ask.place ask.asked answer c.known.ensures.same ask.is_line c.in_ok-answer.ensures.answer;
    }

pub returns : goal.returns
returns g c = record {
  newest = subst (λ (b : Beginning). GoesByNewest c.args.forwarder.now.forwarder b c.args.ask.asked c.in_ok-answer.answer) (sym c.known.ensures.same) c.in_ok-answer.ensures.newest;
}
