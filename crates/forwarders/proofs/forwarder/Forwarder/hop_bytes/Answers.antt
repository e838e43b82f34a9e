use Rattle.std.proofs.Common.{subst, sym}
use Rattle.generations.specs.Beginnings.{board_after}
use Rattle.forwarders.specs.ByteAnswers.{IsByteAnswer}
use Rattle.forwarders.proofs.Looks.{answered}
use Rattle.forwarders.proofs.forwarder.Forwarder.hop_bytes.Goals as goal

pub returns-clause-answer : goal.returns-clause-answer
returns-clause-answer c =
    let shelf = (board_after c.hop-answer.new.self).shelf in
    let packet = c.in_ok-packet.ensures in
    subst (IsByteAnswer shelf c.args.at c.args.bytes.now) (sym c.answer_in_bytes.ensures)
    (answered shelf c.args.at c.args.bytes.now c.in_ok-packet.packet c.hop-answer.result packet.0 packet.1 c.hop-answer.ensures.answer)
