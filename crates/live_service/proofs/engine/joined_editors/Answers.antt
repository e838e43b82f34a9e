use Rattle.std.proofs.Common.{◌≡◌, ◌∙◌, rules, sym, subst, All}
use Rattle.std.proofs.lemmas.List.Elements.{All-head, All-rest}
use Rattle.request_lists.specs.Posted.{ArePosted}
use Rattle.live_service.proofs.Backs.{each_of}
use Rattle.live_service.proofs.Noting.{none_joined}
use Rattle.std.specs.Vec.Iter.{into_iter_items}
use Rattle.committer.specs.CommitterWords.{got_of, queue_of}
use Rattle.live_service.proofs.engine.joined_editors.Goals as goal

pub loop-handle-preserved : goal.loop-handle-preserved
loop-handle-preserved g c =
    let was = c.loop-handle.invariant in
    let same = c.joined_next-ended.ensures.same in (
      All-rest (λ h. h.promise.editor.value.editor.queue ≡ queue_of c.args.committer.now) c.in-Some.handle (into_iter_items c.next.new.self) (into_iter_items c.loop-handle.handle-iterator) c.in-Some.ensures.steps.0 was.0,
      (
        same.queue ∙ was.1.0,
        (
          same.got ∙ was.1.1.0,
          (
            same.store ∙ was.1.1.1.0,
            c.joined_next-ended.ensures.more (got_of c.args.committer.now) (sym was.1.1.0) was.1.1.1.1,
          ),
        ),
      ),
    )

pub joined_next-ended-requires-clause-posted : goal.joined_next-ended-requires-clause-posted
joined_next-ended-requires-clause-posted g c =
    (c.requires.posted.0, c.requires.posted.1, subst (λ got. ArePosted c.requires.posted.0 c.requires.posted.1 got c.args.board.now.log) (sym c.loop-handle.invariant.1.1.0) c.requires.posted.2)

pub joined_next-ended-requires-clause-queue : goal.joined_next-ended-requires-clause-queue
joined_next-ended-requires-clause-queue g c =
    let was = c.loop-handle.invariant in
    let own = All-head (λ h. h.promise.editor.value.editor.queue ≡ queue_of c.args.committer.now) c.in-Some.handle (into_iter_items c.next.new.self)
    (subst (λ hs. All (λ h. h.promise.editor.value.editor.queue ≡ queue_of c.args.committer.now) hs) c.in-Some.ensures.steps.0 was.0) in
    each_of c.join-back.result (λ e came. came.same.queue ∙ (own ∙ sym was.1.0)) c.join-back.ensures

pub loop-handle-init : goal.loop-handle-init
loop-handle-init g c =
    (search rules, (search rules, (search rules, (search rules, none_joined g.J.Stream.book g.J.Stream.input g.J.Stream.editors (got_of c.args.committer.now) _ c.requires.lines (search rules) (search rules)))))
