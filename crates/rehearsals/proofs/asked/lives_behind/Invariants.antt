use Rattle.std.proofs.Common.{◌≡◌, ◌++◌, List, reverse, vec_len}
use Rattle.rehearsal_syntax.specs.declared.line.RehearsalLine.{RehearsalLine}
use Rattle.rehearsals.specs.Asked.{AskFor}
use Rattle.rehearsals.proofs.asked.lives_behind.Given as goal

-- the lines that were gone through
abbrev pub invariant-loop-line : goal.invariant-loop-line
invariant-loop-line l = record {
  behind : List RehearsalLine;
  whole : l.lines.items ++ behind ≡ l.initial.lines.items;
  asked : AskFor l.nodes behind (reverse l.events.items) (reverse l.lives.items);
}

abbrev pub decreases-loop-line : goal.decreases-loop-line
decreases-loop-line l = vec_len l.lines
