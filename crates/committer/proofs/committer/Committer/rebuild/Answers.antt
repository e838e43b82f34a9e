use Rattle.std.proofs.Common.{rules, ◌≡◌, ap, ◌∙◌, inl, inr, subst}
use Rattle.std.specs.Arc.{arc_value}
use Rattle.checkpoint.specs.StoreWords.{state_of}
use Rattle.group_commit.specs.DeskWords.{store_of as desk_store}
use Rattle.committer.specs.Answers.{FindsDue}
use Rattle.committer.proofs.Answering.{put_twice}
use Rattle.committer.proofs.Rebuilding.{owed_is, rebuilt, scheme_is}
use Rattle.committer.proofs.committer.Committer.rebuild.Goals as goal

pub returns-in_default-clause-ok : goal.returns-in_default-clause-ok
returns-in_default-clause-ok g c = record {
  number = search rules;
  serves = c.in_ok-number.ensures.ok.serves c.in_default.is;
  posts = inl c.in_ok-number.ensures.ok.posts;
  no_news = λ _. c.in_ok-number.ensures.ok.posts;
}

pub returns-clause-ok : goal.returns-clause-ok
returns-clause-ok g c =
    let old = c.args.self.now in
    let s = state_of (desk_store old.desk) in
    let found = subst (λ o. FindsDue old c.generation_due.new.self o) c.in-Some.is c.in_ok-number.ensures.ok in
    let graph : c.graph.result.now ≡ s.graph = c.graph.ensures ∙ ap (λ s. (state_of s).graph) (c.store-2.ensures ∙ c.generation_due.ensures.stays.store) in
    let good = scheme_is c.args.words.now _ s (arc_value c.in-Ok.scheme) c.in-Some.number graph found.number c.in-Ok.ensures in
    rebuilt c.args.words.now old c.generation_due.new.self c.announce.new.self (arc_value c.in-Ok.scheme) c.in-Some.number c.announce.result found good c.announce.ensures.number c.announce.ensures.posted

pub returns-clause-board : goal.returns-clause-board
returns-clause-board g c e =
    let old = c.args.self.now in
    let s = state_of (desk_store old.desk) in
    let found = subst (λ o. FindsDue old c.generation_due.new.self o) c.in-Some.is c.in_ok-number.ensures.ok in
    let graph : c.graph.result.now ≡ s.graph = c.graph.ensures ∙ ap (λ s. (state_of s).graph) (c.store-2.ensures ∙ c.generation_due.ensures.stays.store) in
    let good = scheme_is c.args.words.now _ s (arc_value c.in-Ok.scheme) c.in-Some.number graph found.number c.in-Ok.ensures in
    inr (owed_is c.args.words.now s old.outbox c.generation_due.new.self.outbox c.announce.new.self.outbox (arc_value c.in-Ok.scheme) c.in-Some.number found.posts found.number good (c.announce.ensures.board e))

pub returns-clause-stays : goal.returns-clause-stays
returns-clause-stays g c = put_twice c.args.self.now c.generation_due.new.self c.announce.new.self c.generation_due.ensures.stays c.announce.ensures.stays

pub returns-clause-listed : goal.returns-clause-listed
returns-clause-listed g c builds first is = c.announce.ensures.listed c.in-Ok.ensures.given builds first (c.generation_due.ensures.listed builds first is)
