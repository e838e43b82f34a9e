use Rattle.std.proofs.Common.{◌≡◌, take, fold}
use Rattle.generations.specs.Boards.{counting}
use Rattle.generations.proofs.fold.count_after.Given as goal

abbrev pub invariant-loop-mark : goal.invariant-loop-mark
invariant-loop-mark l = l.last ≡ fold counting l.count (take l.mark-index l.all)
