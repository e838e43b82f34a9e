use Rattle.std.proofs.Common.{◌≡◌, ◌≤◌, ◌++◌, take, drop}
use Rattle.disk_trait.specs.Image.{filled, word_byte}
use Rattle.disk_trait.proofs.image.deal.Given as goal

-- what is done, and what the rest will be
abbrev pub invariant-loop-i : goal.invariant-loop-i
invariant-loop-i l = record {
  word : l.source.word ≡ l.word;
  few : l.source.dealt ≤ l.i;
  done : take l.i l.bytes ++ filled (drop l.i l.unsettled) (drop l.i l.bytes) (word_byte l.word) l.source.dealt ≡ filled l.unsettled l.initial.bytes (word_byte l.word) 0;
}
