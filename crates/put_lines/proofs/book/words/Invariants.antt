use Rattle.std.proofs.Common.{◌≡◌, ◌≤◌, ◌+◌, ◌-◌}
use Rattle.put_lines.specs.Rules.{words_of}
use Rattle.put_lines.proofs.book.words.Given as goal

abbrev pub invariant-loop-made : goal.invariant-loop-made
invariant-loop-made l = (l.made ≤ 64) × ((l.pens.next ≡ l.made) × ((l.pens.left + l.made ≡ 64) × ((l.pens.book ≡ l.fn.pens.book) × (l.all.items ≡ words_of l.fn.pens.book l.made))))

abbrev pub decreases-loop-made : goal.decreases-loop-made
decreases-loop-made l = 64 - l.made
