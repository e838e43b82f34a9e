-- The form of layout 2: its journal lists accepted requests, and its checkpoints hold the last ticket of each session.
use Rattle.std.specs.Prelude.{ℕ, List}
use Rattle.requests.specs.Tickets.{tickets_after}
use Rattle.journal.specs.RequestForm.{request_form}
use Rattle.layout_reader.specs.Forms.{LayoutForm}
use Rattle.layout_2.specs.Layout.{sizes}
use Rattle.layout_2.specs.Tickets.{asked, tickets_text, AreTickets, AreInTurn}

-- what the reader and the laws of layout_reader are told of layout 2
abbrev pub layout_form : LayoutForm request_form (List ℕ)
layout_form = record {
  sizes = sizes;
  change_of = λ request. request.change;
  tickets_text = tickets_text;
  AreTickets = AreTickets;
  tickets_after = λ tickets requests. tickets_after tickets (asked requests);
  AreInTurn = AreInTurn;
}
