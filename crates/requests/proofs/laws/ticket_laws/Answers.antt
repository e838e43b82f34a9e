use Rattle.requests.proofs.TicketLemmas.{stays_wide, after_append, rises_first, rises_rest, rises_both, rises_take, rises_next, at_most, above, last_is, none_of}
use Rattle.requests.proofs.laws.ticket_laws.Goals as goal

pub returns-clause-stays_wide : goal.returns-clause-stays_wide
returns-clause-stays_wide c = stays_wide

pub returns-clause-tickets_in_parts : goal.returns-clause-tickets_in_parts
returns-clause-tickets_in_parts c = after_append

pub returns-clause-rises_in_parts : goal.returns-clause-rises_in_parts
returns-clause-rises_in_parts c ts xs ys = (λ h. (rises_first ts xs ys h, rises_rest ts xs ys h), λ h. rises_both ts xs ys h.0 h.1)

pub returns-clause-beginning_rises : goal.returns-clause-beginning_rises
returns-clause-beginning_rises c = rises_take

pub returns-clause-next_rises : goal.returns-clause-next_rises
returns-clause-next_rises c = rises_next

pub returns-clause-each_once : goal.returns-clause-each_once
returns-clause-each_once c ts rs wide h s t = (at_most ts rs s t wide h, above ts rs s t wide h)

pub returns-clause-last_is_greatest : goal.returns-clause-last_is_greatest
returns-clause-last_is_greatest c ts rs wide h s = last_is ts rs s wide h

pub returns-clause-none_later : goal.returns-clause-none_later
returns-clause-none_later c ts rs wide h s = none_of ts rs s wide h
