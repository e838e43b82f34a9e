use Rattle.std.proofs.Common.{◌≡◌, ◌⊎◌, [], ◌∷◌, ◌++◌, Err, inl, inr, ap, sym, subst, ◌∙◌}
use Rattle.std.proofs.lemmas.Result.{IfOk-weaker}
use Rattle.checkpoint.specs.StoreWords.{state_of}
use Rattle.command_output.specs.declared.fault.Fault.{Fault}
use Rattle.command_output.specs.declared.fault.Fault.TheVariants as told
use Rattle.intake.specs.Turns.{of}
use Rattle.committer.specs.Answers.{asked_group}
use Rattle.committer.specs.CommitterWords.{held_or_taken, got_of, posts_of, store_of}
use Rattle.device_commands.specs.Answer.{state_by}
use Rattle.device_commands.specs.Edits.{IsSettledTo}
use Rattle.device_commands.proofs.OneRequest.{by_round, on_any, outcome_never, refused_by, told_is, worn_alone, worn_is_taken}
use Rattle.device_commands.proofs.OneRound.{asked_one}
use Rattle.device_commands.proofs.one_round.round.Goals as goal

pub returns-in-Ok-clause-settled : goal.returns-in-Ok-clause-settled
returns-in-Ok-clause-settled g c r is =
    let old = c.args.committer.now in
    let mid = c.round-round.new.self in
    let seen = c.outcome-seen.result in
    let by = c.in-Ok.ensures in
    let end = c.end-watcher.ensures in
    let put : r ∷ [] ≡ of c.args.editor.session (got_of mid ++ end.whole.0) =
    sym is ∙ (sym c.outcome-seen.ensures.put ∙ (end.whole.1 ∙ (λ i. of (c.outcome-seen.ensures.same.1.0 i) (end.same.1.0 i ++ end.whole.0)))) in
    let one : (held_or_taken old mid ≡ []) ⊎ (held_or_taken old mid ≡ r ∷ []) = asked_one old mid c.args.editor r end.whole.0 c.requires by.takes.taken put in
    let begins : (posts_of old).posted ++ (posts_of old).due ≡ [] = λ i. c.requires.posted i ++ c.requires.due i in
    let verdict = IfOk-weaker seen _ _ (λ v t. told_is (asked_group old mid) mid r c.in-Ok.field-0.accepted c.args.editor v begins one by.ok t) c.outcome-seen.ensures.told in
    let fault = c.outcome-seen.ensures.fault in
    subst (λ s. IsSettledTo (state_by (state_of (store_of old)) r) r.change (store_of old) s seen) (sym end.store)
    (by_round (store_of old) (store_of mid) (held_or_taken old mid) r seen one c.requires.up by.idle by.goes_on.ran by.any_moment verdict (on_any seen by.ok.state)
    (λ _. (by.stays_up c.requires.up (λ e. cc), inr by.ok.state))
    (outcome_never seen told.Worn (λ x. x) fault) (outcome_never seen told.NoThread (λ x. x) fault) (outcome_never seen told.Device (λ x. x) fault))

pub returns-clause-settled : goal.returns-clause-settled
returns-clause-settled g c r is =
    let old = c.args.committer.now in
    let mid = c.round-round.new.self in
    let by = c.in-Err.ensures in
    let end = c.end-watcher.ensures in
    let put : r ∷ [] ≡ of c.args.editor.session (got_of mid ++ end.whole.0) =
    sym is ∙ (sym c.outcome-seen.ensures.put ∙ (end.whole.1 ∙ (λ i. of (c.outcome-seen.ensures.same.1.0 i) (end.same.1.0 i ++ end.whole.0)))) in
    let one : (held_or_taken old mid ≡ []) ⊎ (held_or_taken old mid ≡ r ∷ []) = asked_one old mid c.args.editor r end.whole.0 c.requires by.takes.taken put in
    subst (λ s. IsSettledTo (state_by (state_of (store_of old)) r) r.change (store_of old) s (Err c.fault_of.result)) (sym end.store)
    (subst (λ (f : Fault). IsSettledTo (state_by (state_of (store_of old)) r) r.change (store_of old) (store_of mid) (Err f)) (sym c.fault_of.ensures)
    (refused_by old mid r c.in-Err.refused one c.requires.up c.requires.due by.idle by.goes_on.ran by.any_moment
    (λ not. by.stays_up c.requires.up (λ e. not (let same = e in cc)))
    (λ down. let gone = by.down.0 (ap Err down) in let up = c.requires.up in cc)
    (λ memory. by.kept (inl (ap Err memory))) (λ worn. by.worn (ap Err worn)) (λ device. by.device (ap Err device)) (λ board. by.board (ap Err board))))

pub returns-clause-worn : goal.returns-clause-worn
returns-clause-worn g c r is told =
    let old = c.args.committer.now in
    let mid = c.round-round.new.self in
    let by = c.in-Err.ensures in
    let end = c.end-watcher.ensures in
    let put : r ∷ [] ≡ of c.args.editor.session (got_of mid ++ end.whole.0) =
    sym is ∙ (sym c.outcome-seen.ensures.put ∙ (end.whole.1 ∙ (λ i. of (c.outcome-seen.ensures.same.1.0 i) (end.same.1.0 i ++ end.whole.0)))) in
    let worn = worn_alone c.in-Err.refused (ap Err (sym c.fault_of.ensures) ∙ told) in
    worn_is_taken old mid r (asked_one old mid c.args.editor r end.whole.0 c.requires by.takes.taken put) (by.kept (inr (ap Err worn))) (by.worn (ap Err worn))
