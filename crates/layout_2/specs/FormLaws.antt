-- What the form of layout 2 keeps.
use Rattle.std.proofs.Common.{refl, sym, ◌∙◌, ap, arith}
use Rattle.std.proofs.lemmas.List.{map-append}
use Rattle.requests.specs.Tickets.{tickets_after}
use Rattle.requests.specs.Requests.{asked_by}
use Rattle.requests.proofs.TicketLemmas.{after_append}
use Rattle.journal.specs.RequestForm.{request_is_form}
use Rattle.layout_reader.specs.Forms.{IsLayoutForm}
use Rattle.layout_2.specs.Form.{layout_form}
use Rattle.layout_2.specs.Tickets.{asked}
use Rattle.layout_2.specs.TicketTexts.{tickets_wide, words, same_tickets}

pub layout_is_form : IsLayoutForm layout_form
layout_is_form = record {
  fit = record { nodes = omega arith; edges = omega arith; checkpoint = omega arith; slots = omega arith; journal = omega arith };
  entries_form = request_is_form;
  wide = λ tickets are. tickets_wide tickets are.wide;
  same = λ ts us are_t are_u. same_tickets ts us (are_t.wide ∙ sym are_u.wide) (words ts are_t.fit) (words us are_u.fit);
  after_none = λ tickets. refl;
  after_parts = λ tickets xs ys. ap (tickets_after tickets) (map-append asked_by xs ys) ∙ after_append tickets (asked xs) (asked ys);
  in_turn_none = λ tickets. (tt, tt);
  in_turn_parts = λ tickets x ys.
      (λ h. (((h.0.0, h.0.1, tt), (h.1.0, tt)), (h.0.2, h.1.1)), λ h. ((h.0.0.0, h.0.0.1, h.1.0), (h.0.1.0, h.1.1)));
}
