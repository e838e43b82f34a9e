use Rattle.std.proofs.Common.{rules, ◌≡◌, length, sym, ◌∙◌, subst}
use Rattle.layout_2.specs.Layout.{sessions}
use Rattle.layout_2.specs.Tickets.{AreTickets}
use Rattle.layout_2.specs.TicketTexts.{words, same_tickets}
use Rattle.layout_2.proofs.form.Layout2Layout.read_tickets.Goals as goal

pub returns-then-not-are_sound-clause-refused : goal.returns-then-not-are_sound-clause-refused
returns-then-not-are_sound-clause-refused g c model fault tickets are text =
    let read = c.tickets_of-tickets.result in
    let wide : length read ≡ sessions = search rules in
    let same = same_tickets read tickets (wide ∙ sym are.wide) c.tickets_of-tickets.ensures.words (words tickets are.fit) (c.tickets_of-tickets.ensures.text ∙ c.in_ok-text.ensures.bytes model ∙ sym text) in
    let yes = c.are_sound.ensures.1 (subst AreTickets (sym same) are) in
    let no = c.if-not-are_sound.true in
    cc
