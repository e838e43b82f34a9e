use Rattle.std.proofs.Common.{rules, ◌∙◌}
use Rattle.live_service.proofs.Actors.{all_editors, fresh_seats, seated, started}
use Rattle.live_service.proofs.engine.seat_all.Goals as goal

pub named-requires-clause-named : goal.named-requires-clause-named
named-requires-clause-named g c =
    seated g.B.BoardName.opening c.in_ok-taker.taker.queue c.args.starts.now c.forwarders.new.readers.items c.in_ok-taker.editors.items c.in_ok-taker.ensures.editors c.in_ok-forwarders.ensures.named

pub named-requires-clause-fresh : goal.named-requires-clause-fresh
named-requires-clause-fresh g c = fresh_seats c.in_ok-taker.taker.queue c.args.starts.now c.forwarders.new.readers.items c.in_ok-taker.editors.items c.in_ok-taker.ensures.editors

pub named-requires-clause-start : goal.named-requires-clause-start
named-requires-clause-start g c =
    started g.B.BoardName.opening.starts c.in_ok-taker.taker.queue c.args.starts.now c.forwarders.new.readers.items c.in_ok-taker.editors.items c.requires.begins c.in_ok-taker.ensures.editors

pub returns-clause-editors : goal.returns-clause-editors
returns-clause-editors g c =
    all_editors c.in_ok-taker.taker c.args.starts.now c.forwarders.new.readers.items _ (c.in_ok-editors.ensures ∙ c.in_ok-taker.ensures.editors) (search rules)
