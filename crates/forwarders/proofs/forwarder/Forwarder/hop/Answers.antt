use Rattle.std.proofs.Common.{◌∙◌, ap, inr}
use Rattle.generations.specs.Boards.{BoardState}
use Rattle.forwarders.specs.Answers.{handed_back, hop_at}
use Rattle.forwarders.proofs.Looks.{looked_at}
use Rattle.forwarders.proofs.forwarder.Forwarder.hop.Goals as goal

pub returns-in-Ok-clause-answer : goal.returns-in-Ok-clause-answer
returns-in-Ok-clause-answer c =
    let seen = looked_at c.in-Ok.look c.known.result c.leave-reader.result c.board.result.now c.board.ensures.fold c.leave-reader.ensures c.known.ensures.all in
    inr (c.with_packet.ensures ∙ ap (handed_back c.args.packet) c.hop_on-answer.ensures ∙ ap (λ (b : BoardState). handed_back c.args.packet (hop_at c.args.at c.args.packet b.shelf)) seen)
