use Rattle.std.proofs.Common.{◌≡◌, drop}
use Rattle.requests.specs.Tickets.{tickets_after}
use Rattle.layout_2.specs.State.{asked, AreInTurn}
use Rattle.checkpoint.proofs.store.raise_all.Given as goal

abbrev pub invariant-loop-request : goal.invariant-loop-request
invariant-loop-request l = record {
  in_turn : AreInTurn l.tickets (drop l.request-index l.requests);
  rest : tickets_after l.fn.tickets (asked l.requests) ≡ tickets_after l.tickets (asked (drop l.request-index l.requests));
}
