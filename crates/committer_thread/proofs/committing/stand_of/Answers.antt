use Rattle.std.proofs.Common.{ap, sym, subst, ◌∙◌}
use Rattle.checkpoint.specs.StoreWords.{state_of}
use Rattle.committer.specs.CommitterWords.{got_of, held_of, newest_of, posts_of, store_of}
use Rattle.checkpoint.specs.StoreWords.{is_down}
use Rattle.generations.specs.Beginnings.{Beginning}
use Rattle.packet_ways.specs.Standing.{Counts}
use Rattle.service_actors.specs.Stands.{HasNewest}
use Rattle.committer_thread.proofs.Pace.{counts_now}
use Rattle.committer_thread.proofs.committing.stand_of.Goals as goal

pub invariant_of-result : goal.invariant_of-result
invariant_of-result g c =
    let now = c.args.committer.now in
    let same = c.new.ensures ∙ c.told.ensures.posted in
    let all = counts_now (posts_of now) (newest_of now) (held_of now) (got_of now) (state_of (store_of now)) (is_down (store_of now)) c.told.ensures.tied c.requires.shown.nothing_due in
    record {
      counted = subst (λ (b : Beginning). Counts b c.count.result) (sym same) (all ∙ sym (c.count.ensures.same ∙ ap (λ s. (state_of s).count) c.store.ensures));
      newest = subst (λ (b : Beginning). HasNewest b c.args.generation) (sym same) c.requires.shown.newest;
    }
