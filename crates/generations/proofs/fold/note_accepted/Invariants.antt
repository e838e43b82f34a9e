use Rattle.std.proofs.Common.{◌≡◌, take, fold}
use Rattle.generations.specs.Boards.{accepting}
use Rattle.generations.proofs.fold.note_accepted.Given as goal

abbrev pub invariant-loop-mark : goal.invariant-loop-mark
invariant-loop-mark l = l.accepted ≡ fold accepting l.initial.accepted (take l.mark-index l.all)
