use Rattle.std.proofs.Common.{◌∙◌, ap, inr}
use Rattle.generations.specs.Boards.{BoardState}
use Rattle.forwarders.specs.Answers.{launch_at}
use Rattle.forwarders.proofs.Looks.{looked_at}
use Rattle.forwarders.proofs.forwarder.Forwarder.launch.Goals as goal

pub returns-in-Ok-clause-answer : goal.returns-in-Ok-clause-answer
returns-in-Ok-clause-answer c =
    let seen = looked_at c.in-Ok.look c.known.result c.leave-reader.result c.board.result.now c.board.ensures.fold c.leave-reader.ensures c.known.ensures.all in
    inr (c.launch_on-answer.ensures ∙ ap (λ (b : BoardState). launch_at c.args.from c.args.address.now b.shelf) seen)
