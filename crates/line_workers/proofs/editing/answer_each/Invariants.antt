use Rattle.service_actors.specs.Edited.{IsSameEditor}
use Rattle.line_workers.specs.Submits.{HasNoted}
use Rattle.line_workers.proofs.editing.answer_each.Given as goal

abbrev pub invariant-loop : goal.invariant-loop
invariant-loop g l =
    (goal.iterator-loop g).can_next l.iterator' × ((goal.iterator-loop g).is_finite l.iterator' × (IsSameEditor l.fn.editor.editor l.editor.editor
    × HasNoted g.J.Stream.book g.J.Stream.input g.J.Stream.editors l.editor.editor l.noted))
