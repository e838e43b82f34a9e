use Rattle.std.proofs.Common.{sym, subst}
use Rattle.checkpoint.specs.StoreWords.{state_of, view_of}
use Rattle.committer.specs.CommitterWords.{store_of}
use Rattle.committer_thread.specs.Kept.{HasSettledSome}
use Rattle.committer_thread.proofs.Settling.{some_settled_still}
use Rattle.live_service.proofs.Ended.{stopped_early}
use Rattle.live_service.proofs.engine.run.Goals as goal

pub returns-in-Err : goal.returns-in-Err
returns-in-Err g c =
    stopped_early g.B.BoardName.opening g.J.Stream (store_of c.args.committer) c.in-Err.cause (view_of c.into_store.result) c.in-Err.ensures.only.not_device
    (subst (λ s. HasSettledSome (state_of (store_of c.args.committer)) (view_of (store_of c.args.committer)) (view_of s)) (sym c.into_store.ensures)
    (some_settled_still c.args.committer c.begun.new.committer c.requires.fresh.up c.begun.ensures.only.stays))
