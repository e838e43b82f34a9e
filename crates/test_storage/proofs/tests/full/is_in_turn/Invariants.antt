use Rattle.std.proofs.Common.{drop}
use Rattle.layout_2.specs.State.{AreInTurn}
use Rattle.test_storage.proofs.tests.full.is_in_turn.Given as goal

abbrev pub invariant-loop-request : goal.invariant-loop-request
invariant-loop-request l = AreInTurn l.tickets (drop l.request-index l.requests) → AreInTurn l.fn.starts l.requests
