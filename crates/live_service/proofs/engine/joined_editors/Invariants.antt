use Rattle.std.proofs.Common.{◌≡◌, All}
use Rattle.std.specs.Vec.Iter.{into_iter_items}
use Rattle.committer.specs.CommitterWords.{got_of, queue_of, store_of}
use Rattle.live_service.specs.Noting.{AreJoined}
use Rattle.live_service.proofs.engine.joined_editors.Given as goal

abbrev pub invariant-loop-handle : goal.invariant-loop-handle
invariant-loop-handle g l =
    All (λ h. h.promise.editor.value.editor.queue ≡ queue_of l.fn.committer) (into_iter_items l.handle-iterator) × ((queue_of l.committer ≡ queue_of l.fn.committer) × ((got_of l.committer ≡ got_of l.fn.committer)
    × ((store_of l.committer ≡ store_of l.fn.committer) × AreJoined g.J.Stream.book g.J.Stream.input g.J.Stream.editors (got_of l.fn.committer) l.ended)))
