use Rattle.std.proofs.Common.{rules, ◌≡◌, Some, ap, ◌∙◌}
use Rattle.checkpoint.specs.StoreWords.{state_of}
use Rattle.group_commit.specs.DeskWords.{store_of as desk_store}
use Rattle.committer.specs.Outboxes.{Outgoing, paid}
use Rattle.committer.proofs.Listings.{paid_listed}
use Rattle.committer.proofs.Rebuilding.{newest_serves}
use Rattle.committer.proofs.committer.Committer.generation_due.Goals as goal

pub returns-then-eq-clause-ok : goal.returns-then-eq-clause-ok
returns-then-eq-clause-ok g c =
    let old = c.args.self.now in
    let is : old.newest ≡ Some c.count-number.result = search rules in
    let same : c.count-number.result ≡ (state_of (desk_store old.desk)).count = c.count-number.ensures.same ∙ ap (λ s. (state_of s).count) c.store-2.ensures in
    let pays : c.pay.new.self ≡ paid old.outbox = c.if-not-pay.ensures in
    record {
      up = search rules;
      posts = pays;
      nothing_due = ap (λ (o : Outgoing). o.due) pays;
      number = tt;
      news = tt;
      old_news = tt;
      serves = λ _. newest_serves _ _ _ _ _ _ _ c.count-number.result c.pay.new.self.posted old.tied is same (ap (λ (o : Outgoing). o.posted) pays);
    }

pub returns-then-not-pay-clause-listed : goal.returns-then-not-pay-clause-listed
returns-then-not-pay-clause-listed g c builds first is = paid_listed first c.args.self.now.outbox c.pay.new.self c.pay.result _ _ _ _ c.pay.ensures is

pub returns-then-eq-clause-listed : goal.returns-then-eq-clause-listed
returns-then-eq-clause-listed g c builds first is = paid_listed first c.args.self.now.outbox c.pay.new.self c.pay.result _ _ _ _ c.pay.ensures is

pub returns-clause-listed : goal.returns-clause-listed
returns-clause-listed g c builds first is = paid_listed first c.args.self.now.outbox c.pay.new.self c.pay.result _ _ _ _ c.pay.ensures is
