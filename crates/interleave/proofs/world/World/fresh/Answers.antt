use Rattle.std.proofs.Common.{ℕ, List, [], length, sym, subst}
use Rattle.checkpoint.specs.StoreWords.{state_of}
use Rattle.requests.specs.declared.request.Request.{Request}
use Rattle.layout_2.specs.State.{AreInTurn}
use Rattle.group_commit.specs.DeskWords.{store_of}
use Rattle.group_commit.specs.Turns.{AreBehind}
use Rattle.group_commit.proofs.TurnLemmas.{behind_itself}
use Rattle.event_model.specs.declared.session.Session.{Session}
use Rattle.interleave.specs.Stores.{AreLasts}
use Rattle.interleave.proofs.Tickets.{fresh_lasts}
use Rattle.interleave.proofs.world.World.fresh.Goals as goal

pub invariant_of-result-clause-in_turn : goal.invariant_of-result-clause-in_turn
invariant_of-result-clause-in_turn g c = subst (λ (l : List Request). AreInTurn c.starts-starts.result l) (sym c.new.ensures.items) (tt, tt)

pub invariant_of-result-clause-lasts : goal.invariant_of-result-clause-lasts
invariant_of-result-clause-lasts g c =
    let many : ℕ = length c.args.sessions.items in
    subst (λ (l : List Request). AreLasts c.starts-starts.result l c.args.sessions.items) (sym c.new.ensures.items)
    (subst (λ (xs : List Session). AreLasts c.starts-starts.result [] xs) (sym c.requires.fresh) (fresh_lasts c.starts-starts.result many))

pub invariant_of-result-clause-behind : goal.invariant_of-result-clause-behind
invariant_of-result-clause-behind g c =
    let tickets = (state_of (store_of c.args.desk)).tickets in
    subst (λ (l : List ℕ). AreBehind tickets l) (sym c.starts-starts.ensures) (behind_itself tickets)
