use Rattle.std.proofs.Common.{◌≡◌, ◌++◌, take}
use Rattle.layout_2.specs.State.{tickets_text}
use Rattle.network_load.proofs.image.put_tickets.Given as goal

abbrev pub invariant-loop-ticket : goal.invariant-loop-ticket
invariant-loop-ticket l = l.text.items ≡ l.initial.text.items ++ tickets_text (take l.ticket-index l.tickets)
