use Rattle.std.proofs.Common.{◌≡◌, take}
use Rattle.value_syntax.specs.Reading.{texts_of}
use Rattle.rehearsal_syntax.specs.declared.stage.Stage.TheVariants.{Empty}
use Rattle.rehearsal_syntax.specs.Grammar.{IsRehearsal, stage_of}
use Rattle.rehearsal_syntax.specs.Said.{Say}
use Rattle.rehearsal_syntax.proofs.reading.read_rehearsal.Given as goal

abbrev pub invariant-loop-index : goal.invariant-loop-index
invariant-loop-index l = record {
  say : Say (take l.index (texts_of l.texts.items)) l.lines.items;
  stand : IsRehearsal l.lines.items;
  stage : l.stage ≡ stage_of Empty l.lines.items;
}
