use Rattle.std.proofs.Common.{◌≡◌, ◌++◌, [], All, map}
use Rattle.std.specs.Vec.Iter.{into_iter_items}
use Rattle.requests.specs.Tickets.{last_of}
use Rattle.live_service.proofs.engine.named.Given as goal

abbrev pub invariant-loop-editor : goal.invariant-loop-editor
invariant-loop-editor g l =
    All (λ e. e.known.opening ≡ g.B.BoardName.opening) (into_iter_items l.editor-iterator) × (All (λ e. e.put ≡ []) (into_iter_items l.editor-iterator)
    × (All (λ e. e.start ≡ last_of g.B.BoardName.opening.starts e.session) (into_iter_items l.editor-iterator) × (map (λ e. e.editor) l.all.items ++ into_iter_items l.editor-iterator ≡ l.fn.editors.items)))
