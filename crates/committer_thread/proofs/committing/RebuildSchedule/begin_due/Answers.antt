use Rattle.std.proofs.Common.{rules, ◌≡◌, ◌≢◌, ℕ, Some, IsTrue, ap, refl, sym, ◌∙◌}
use Rattle.checkpoint.specs.StoreWords.{state_of}
use Rattle.committer.specs.CommitterWords.{store_of}
use Rattle.committer_thread.proofs.OnWay.{goes_begun}
use Rattle.committer_thread.proofs.committing.RebuildSchedule.begin_due.Goals as goal

pub returns-clause-goes : goal.returns-clause-goes
returns-clause-goes g c first goes =
    let count : c.count.result ≡ (state_of (store_of c.args.committer.now)).count = c.count.ensures.same ∙ ap (λ s. (state_of s).count) c.store.ensures in
    let due : IsTrue c.is_due.result = search rules in
    let behind : c.args.self.now.newest ≢ Some (state_of (store_of c.args.committer.now)).count = λ same. (c.is_due.ensures.due.0 due).behind (same ∙ ap (λ (n : ℕ). Some n) (sym count)) in
    goes_begun first c.args.committer.now c.args.self.now _ c.in_ok-build.build goes c.in_ok-build.ensures.of_state behind c.is_due.ensures.same.0 refl
