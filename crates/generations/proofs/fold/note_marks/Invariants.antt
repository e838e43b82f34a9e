use Rattle.std.proofs.Common.{◌≡◌, take, fold}
use Rattle.generations.specs.Boards.{marked}
use Rattle.generations.proofs.fold.note_marks.Given as goal

abbrev pub invariant-loop-mark : goal.invariant-loop-mark
invariant-loop-mark l = l.marks ≡ fold marked l.initial.marks (take l.mark-index l.all)
