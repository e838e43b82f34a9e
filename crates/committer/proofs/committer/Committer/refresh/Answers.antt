use Rattle.std.proofs.Common.{refl, sym, ap, ◌∙◌, subst}
use Rattle.checkpoint.specs.StoreWords.{state_of, is_down}
use Rattle.group_commit.specs.DeskWords.{store_of as desk_store, held_of as desk_held}
use Rattle.committer.specs.Outboxes.{Outgoing, all_of}
use Rattle.committer.specs.Ties.{IsTied}
use Rattle.committer.proofs.Listings.{relisted}
use Rattle.committer.proofs.committer.Committer.refresh.Goals as goal

pub invariant_of-self : goal.invariant_of-self
invariant_of-self g c =
    let old = c.args.self.now in
    record {
      at_outbox = old.at_outbox;
      same_starts = old.same_starts ∙ sym (ap (λ (o : Outgoing). o.opening.starts) c.publish_again.ensures);
      tied = subst (λ (o : Outgoing). IsTied o.opening (all_of o) old.newest (desk_held old.desk) old.taker.got (state_of (desk_store old.desk)) (is_down (desk_store old.desk))) (sym c.publish_again.ensures) old.tied;
      led = old.led;
      whole = old.whole;
    }

pub returns-then-publish_again-clause-listed : goal.returns-then-publish_again-clause-listed
returns-then-publish_again-clause-listed g c builds first is =
    relisted first c.args.self.now.outbox c.publish_again.new.self _ _ _ _ _ _ _ _ (ap (λ (o : Outgoing). o.opening) c.publish_again.ensures) (ap all_of c.publish_again.ensures) refl refl refl refl is

pub returns-clause-listed : goal.returns-clause-listed
returns-clause-listed g c builds first is =
    relisted first c.args.self.now.outbox c.publish_again.new.self _ _ _ _ _ _ _ _ (ap (λ (o : Outgoing). o.opening) c.publish_again.ensures) (ap all_of c.publish_again.ensures) refl refl refl refl is
