use Rattle.std.proofs.Common.{◌≡◌, take}
use Rattle.requests.specs.Tickets.{last_of, tickets_after}
use Rattle.layout_2.specs.State.{asked}
use Rattle.group_commit.proofs.turns.last_ticket.Given as goal

abbrev pub invariant-loop-request : goal.invariant-loop-request
invariant-loop-request l = l.last ≡ last_of (tickets_after l.starts (asked (take l.request-index l.requests))) l.session
