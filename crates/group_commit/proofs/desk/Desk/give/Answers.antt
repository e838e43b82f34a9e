use Rattle.std.proofs.Common.{List, sym, subst}
use Rattle.requests.specs.declared.request.Request.{Request}
use Rattle.layout_2.specs.State.{AreInTurn}
use Rattle.checkpoint.specs.StoreWords.{state_of}
use Rattle.group_commit.proofs.TurnLemmas.{turn_push}
use Rattle.group_commit.proofs.desk.Desk.give.Goals as goal

pub invariant_of-self-clause-in_turn : goal.invariant_of-self-clause-in_turn
invariant_of-self-clause-in_turn g c =
    let tickets = (state_of c.args.self.now.store).tickets in
    subst (λ (rs : List Request). AreInTurn tickets rs) (sym c.push.ensures.items) (turn_push tickets c.args.self.now.held.items c.args.request c.args.self.now.in_turn c.requires.next)
