use Rattle.std.proofs.Common.{true, false, refl, sym, ap, ◌∙◌}
use Rattle.std.specs.Arc.{arc_value}
use Rattle.generations.specs.declared.posting.Notice.TheVariants.{Built}
use Rattle.committer.specs.Outboxes.{Outgoing, all_of}
use Rattle.committer.proofs.Listings.{relisted, earlier_listed}
use Rattle.committer.proofs.Logs.{earlier_tied, lawful_behind, tied_posted, tied_due}
use Rattle.committer.proofs.committer.Committer.offer_generation.Goals as goal

pub offer-requires-clause-lawful : goal.offer-requires-clause-lawful
offer-requires-clause-lawful g c =
    let tied = earlier_tied c.args.self.now.outbox (arc_value c.args.scheme) c.args.number _ _ _ _ _ c.args.self.now.tied c.requires.up c.requires.reached c.requires.ahead c.requires.serves in
    lawful_behind c.args.self.now.outbox (Built c.args.number (arc_value c.args.scheme)) c.requires.nothing_due tied.lawful

pub invariant_of-self : goal.invariant_of-self
invariant_of-self g c =
    let tied = earlier_tied c.args.self.now.outbox (arc_value c.args.scheme) c.args.number _ _ _ _ _ c.args.self.now.tied c.requires.up c.requires.reached c.requires.ahead c.requires.serves in
    record {
      at_outbox = c.args.self.now.at_outbox;
      same_starts = c.args.self.now.same_starts ∙ sym (ap (λ (o : Outgoing). o.opening.starts) c.in-Posted.ensures);
      tied = tied_posted _ _ _ _ _ c.args.self.now.outbox c.offer.new.self (Built c.args.number (arc_value c.args.scheme)) c.requires.nothing_due c.in-Posted.ensures tied;
      led = c.args.self.now.led;
      whole = c.args.self.now.whole;
    }

pub invariant_of-self-in-Due : goal.invariant_of-self-in-Due
invariant_of-self-in-Due g c =
    let tied = earlier_tied c.args.self.now.outbox (arc_value c.args.scheme) c.args.number _ _ _ _ _ c.args.self.now.tied c.requires.up c.requires.reached c.requires.ahead c.requires.serves in
    record {
      at_outbox = c.args.self.now.at_outbox;
      same_starts = c.args.self.now.same_starts ∙ sym (ap (λ (o : Outgoing). o.opening.starts) c.in-Due.ensures);
      tied = tied_due _ _ _ _ _ c.args.self.now.outbox c.offer.new.self (Built c.args.number (arc_value c.args.scheme)) c.requires.nothing_due c.in-Due.ensures tied;
      led = c.args.self.now.led;
      whole = c.args.self.now.whole;
    }

pub returns-in-Posted-clause-earlier : goal.returns-in-Posted-clause-earlier
returns-in-Posted-clause-earlier g c first of is =
    earlier_listed first c.args.self.now.outbox c.offer.new.self true c.args.number of.at (arc_value c.args.scheme) _ _ _ _ is c.requires.up c.requires.nothing_due c.requires.ahead of.settled of.number_is of.named of.serves c.in-Posted.ensures

pub returns-in-Due-clause-earlier : goal.returns-in-Due-clause-earlier
returns-in-Due-clause-earlier g c first of is =
    earlier_listed first c.args.self.now.outbox c.offer.new.self false c.args.number of.at (arc_value c.args.scheme) _ _ _ _ is c.requires.up c.requires.nothing_due c.requires.ahead of.settled of.number_is of.named of.serves c.in-Due.ensures

pub returns-in-Dropped-clause-earlier : goal.returns-in-Dropped-clause-earlier
returns-in-Dropped-clause-earlier g c first of is =
    relisted first c.args.self.now.outbox c.offer.new.self _ _ _ _ _ _ _ _ (ap (λ (o : Outgoing). o.opening) c.in-Dropped.ensures) (ap all_of c.in-Dropped.ensures) refl refl refl refl is
