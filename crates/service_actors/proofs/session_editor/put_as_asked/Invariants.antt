use Rattle.std.proofs.Common.{◌≡◌}
use Rattle.service_actors.specs.Edited.{IsSameEditor}
use Rattle.service_actors.proofs.session_editor.put_as_asked.Given as goal

abbrev pub invariant-loop : goal.invariant-loop
invariant-loop g l =
    (goal.iterator-loop g).can_next l.iterator' × ((goal.iterator-loop g).is_finite l.iterator' × ((l.editor.known.opening ≡ g.J.BoardName.opening) × ((l.change ≡ l.initial.change)
    × ((l.editor.put ≡ l.initial.editor.put) × IsSameEditor l.initial.editor l.editor))))
