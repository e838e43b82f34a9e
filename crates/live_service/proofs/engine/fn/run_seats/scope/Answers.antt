use Rattle.std.proofs.Common.{rules, ◌≡◌, All, sym, subst, ap, ◌∙◌}
use Rattle.std.proofs.lemmas.Bool.{eqb-true}
use Rattle.std.proofs.lemmas.List.{length-map}
use Rattle.atomic_table.specs.Seated.{TableId}
use Rattle.checkpoint.specs.StoreWords.{state_of, view_of}
use Rattle.committer.specs.CommitterWords.{got_of, posts_of, queue_of, store_of}
use Rattle.intake.specs.Turns.{of}
use Rattle.request_lists.specs.Posted.{ArePosted}
use Rattle.committer_thread.specs.Kept.{HasFailed, HasSettled}
use Rattle.live_service.specs.Noting.{AreAllNoted}
use Rattle.live_service.specs.ServedList.{builds_of}
use Rattle.live_service.proofs.AllTaken.{all_sessions, ok_holds}
use Rattle.live_service.proofs.Ended.{memory_early}
use Rattle.live_service.proofs.OneListed.{put_of_all, served_all}
use Rattle.live_service.proofs.engine.fn.run_seats.scope.Goals as goal

pub returns-in_default : goal.returns-in_default
returns-in_default g c = memory_early g.B.BoardName.opening g.J.Stream (store_of c.captures.committer) c.into_store.result c.requires.fresh.up c.into_store.ensures

pub returns-in_default-with_capacity : goal.returns-in_default-with_capacity
returns-in_default-with_capacity g c =
    memory_early g.B.BoardName.opening g.J.Stream (store_of c.captures.committer) c.into_store-in_default-with_capacity.result c.requires.fresh.up c.into_store-in_default-with_capacity.ensures

pub returns : goal.returns
returns g c =
    let first = c.captures.committer in
    let now = c.commit_lines-own.new.committer in
    let back = c.into_store-2.result in
    let left : back ≡ store_of now = c.into_store-2.ensures ∙ c.joined_editors-taken.ensures.store in
    let taken = c.joined_editors-taken in
    served_all first now back g.J.Stream c.commit_lines-own.result c.ended.result g.B.BoardName.opening (record { board = c.history-board.result; puts = taken.result.puts; lines = taken.result.lines })
    (record {
      settled = (got_of now, subst (λ s. HasSettled (state_of (store_of first)) (got_of now) (view_of (store_of first)) (view_of s)) (sym left) c.commit_lines-own.ensures.settled);
      device = λ is. subst (λ s. HasFailed (view_of (store_of first)) (view_of s)) (sym left) (c.commit_lines-own.ensures.device (c.ended.ensures.device is));
    })
    c.requires.listed c.commit_lines-own.ensures.all c.commit_lines-own.ensures.opening c.commit_lines-own.ensures.up_to_date (c.history-board.ensures ∙ c.told.ensures.posted) taken.ensures.joined.book_is c.ended.ensures.own c.ended.ensures.ending
    (put_of_all c.ended.result _ ((session : _) → AreAllNoted g.J.Stream.input g.J.Stream.editors taken.result.puts taken.result.lines.lines session (of session (got_of now))) c.ended.ensures.all
    (λ is. all_sessions g.J.Stream.book g.J.Stream.input g.J.Stream.editors first now taken.result c.requires.fresh.got c.commit_lines-own.ensures.queue
    (eqb-true taken.result.count c.len-sessions.result is ∙ (c.len-sessions.ensures ∙ (c.captures.seats-editors.ok.0 ∙ (sym (length-map c.captures.seats-editors.items (λ e. e.editor)) ∙ c.requires.editors.many))))
    taken.ensures.joined))
    left

pub joined_editors-taken-requires : goal.joined_editors-taken-requires
joined_editors-taken-requires g c =
    let first = c.captures.committer in
    let now = c.commit_lines-own.new.committer in
    let board : c.history-board.result.log ≡ (posts_of now).posted = ap (λ b. b.log) (c.history-board.ensures ∙ c.told.ensures.posted) in
    let same : queue_of first ≡ queue_of now = sym c.commit_lines-own.ensures.queue.queue in
    record {
      opening = λ served.
          ap (λ b. b.opening) (c.history-board.ensures ∙ c.told.ensures.posted) ∙ ok_holds c.commit_lines-own.result ((posts_of now).opening ≡ g.B.BoardName.opening) (sym c.is_ok.ensures.value ∙ served) c.commit_lines-own.ensures.opening;
      posted = (
        builds_of g.J.Stream.input,
        state_of (store_of first),
        subst (λ l. ArePosted (builds_of g.J.Stream.input) (state_of (store_of first)) (got_of now) l) (sym board) (c.commit_lines-own.ensures.posted (state_of (store_of first)) c.requires.listed),
      );
      queue = subst (λ (q : TableId). All (λ h. h.promise.editor.value.editor.queue ≡ q) c.start_editors.new.handles.items) same (c.start_editors.ensures.queue (queue_of first) c.requires.editors.queue);
      lines = search rules;
    }
