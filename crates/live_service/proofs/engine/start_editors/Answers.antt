use Rattle.std.proofs.Common.{◌≡◌, ◌∙◌, ◌∷◌, [], ap, sym, subst, All, map}
use Rattle.std.proofs.lemmas.List.Elements.{All-head, All-push, All-rest}
use Rattle.std.specs.Vec.Iter.{into_iter_items}
use Rattle.std.specs.Prelude.{IfSome}
use Rattle.intake.specs.Editors.{Editing}
use Rattle.service_actors.specs.declared.session_editor.SessionEditor.{SessionEditor}
use Rattle.line_exchange.specs.declared.messages.Noted.{Noted}
use Rattle.line_workers.specs.Submits.{ComesBack}
use Rattle.live_service.proofs.engine.start_editors.Goals as goal

pub loop-editor-preserved : goal.loop-editor-preserved
loop-editor-preserved g c =
    let was = c.loop-editor.invariant in
    let x = c.in-Some.editor.editor in
    let old = map (λ e. e.editor) (into_iter_items c.loop-editor.editor-iterator) in
    let new = map (λ e. e.editor) (into_iter_items c.next.new.self) in
    let first : old ≡ x ∷ new = ap (map (λ e. e.editor)) c.in-Some.ensures.steps.0 in (
      All-rest (λ (e : Editing). e.put ≡ []) x new old first was.0,
      λ q all.
          let so = was.1 q all in
          let here : x.queue ≡ q = All-head (λ (e : Editing). e.queue ≡ q) x new (subst (λ l. All (λ (e : Editing). e.queue ≡ q) l) first so.0) in (
            All-rest (λ (e : Editing). e.queue ≡ q) x new old first so.0,
            subst (λ l. All (λ h. h.promise.editor.value.editor.queue ≡ q) l) (sym c.push_reserved.ensures.items)
                (All-push (λ h. h.promise.editor.value.editor.queue ≡ q) c.loop-editor.handles.items c.in-Ok.handle so.1
                (ap (λ p. p.editor.value.editor.queue) c.in-Ok.ensures.ok ∙ (ap (λ e. e.editor.queue) c.of.ensures ∙ here))),
          ),
    )

pub returns-in-Err : goal.returns-in-Err
returns-in-Err g c = record { queue = λ q all. (c.loop-editor.invariant.1 q all).1 }

pub spawn_with-requires-clause-keeps : goal.spawn_with-requires-clause-keeps
spawn_with-requires-clause-keeps g c κs within r kept =
    subst (λ (s : SessionEditor g.row.B.Denot g.B.BoardName). IfSome r (λ (e : SessionEditor g.row.B.Denot g.B.BoardName × Noted). ComesBack g.J.Stream.book g.J.Stream.input g.J.Stream.editors s.editor e.0.editor e.1)) (sym c.of.ensures) kept

pub returns-then-len-capacity : goal.returns-then-len-capacity
returns-then-len-capacity g c = record { queue = λ q all. (c.loop-editor.invariant.1 q all).1 }

pub returns : goal.returns
returns g c = record { queue = λ q all. (c.loop-editor.invariant.1 q all).1 }
