use Rattle.std.proofs.Common.{◌≡◌, [], All, map}
use Rattle.std.specs.Vec.Iter.{into_iter_items}
use Rattle.atomic_table.specs.Seated.{TableId}
use Rattle.live_service.proofs.engine.start_editors.Given as goal

abbrev pub invariant-loop-editor : goal.invariant-loop-editor
invariant-loop-editor g l =
    All (λ e. e.put ≡ []) (map (λ e. e.editor) (into_iter_items l.editor-iterator))
    × ((q : TableId) → All (λ e. e.queue ≡ q) (map (λ e. e.editor) l.fn.editors.items)
    → All (λ e. e.queue ≡ q) (map (λ e. e.editor) (into_iter_items l.editor-iterator)) × All (λ h. h.promise.editor.value.editor.queue ≡ q) l.handles.items)
