use Rattle.std.proofs.Common.{◌≡◌, ap, sym, subst, ◌∙◌}
use Rattle.std.specs.Arc.{arc_value}
use Rattle.std.specs.Prelude.{IfSome}
use Rattle.checkpoint.specs.StoreWords.{state_of}
use Rattle.committer.specs.CommitterWords.{store_of}
use Rattle.committer_thread.proofs.Pace.{shown_announced}
use Rattle.committer_thread.proofs.committing.rebuild_by.Goals as goal

pub returns-in-Ok-announce-clause-shown : goal.returns-in-Ok-announce-clause-shown
returns-in-Ok-announce-clause-shown g c =
    let count = (state_of (store_of c.args.committer.now)).count in
    let due : c.in-Some.number ≡ count = subst (λ o. IfSome o (λ n. n ≡ count)) c.in-Some.is c.in-Ok-generation_due.ensures.ok.number in
    let same : store_of c.announce.new.self ≡ store_of c.args.committer.now = c.in-Ok-announce.ensures.stays.store ∙ c.in-Ok-generation_due.ensures.stays.store in
    shown_announced c.generation_due.new.self c.announce.new.self c.in-Some.number (arc_value c.in_ok-scheme.scheme) (due ∙ ap (λ s. (state_of s).count) (sym same)) c.in-Ok-announce.ensures.posted
