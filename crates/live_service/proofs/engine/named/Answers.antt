use Rattle.std.specs.Prelude.{◌≡◌, []}
use Rattle.std.proofs.lemmas.List.Elements.{All-rest}
use Rattle.std.specs.Vec.Iter.{into_iter_items}
use Rattle.requests.specs.Tickets.{last_of}
use Rattle.intake.specs.Editors.{Editing}
use Rattle.live_service.proofs.Backs.{one_moved}
use Rattle.live_service.proofs.engine.named.Goals as goal

pub loop-editor-preserved : goal.loop-editor-preserved
loop-editor-preserved g c = (
  All-rest (λ (e : Editing). e.known.opening ≡ g.B.BoardName.opening) c.in-Some.editor (into_iter_items c.next.new.self) (into_iter_items c.loop-editor.editor-iterator)
      c.in-Some.ensures.steps.0 c.loop-editor.invariant.0,
  (
    All-rest (λ (e : Editing). e.put ≡ []) c.in-Some.editor (into_iter_items c.next.new.self) (into_iter_items c.loop-editor.editor-iterator) c.in-Some.ensures.steps.0 c.loop-editor.invariant.1.0,
    (
      All-rest (λ (e : Editing). e.start ≡ last_of g.B.BoardName.opening.starts e.session) c.in-Some.editor (into_iter_items c.next.new.self) (into_iter_items c.loop-editor.editor-iterator) c.in-Some.ensures.steps.0
          c.loop-editor.invariant.1.1.0,
      one_moved (λ e. e.editor) c.loop-editor.all.items c.push.new.self.items c.new.result c.in-Some.editor (into_iter_items c.loop-editor.editor-iterator) (into_iter_items c.next.new.self) c.args.editors.items
          c.in_ok-push.ensures.items c.new.ensures c.in-Some.ensures.steps.0 c.loop-editor.invariant.1.1.1,
    ),
  ),
)
