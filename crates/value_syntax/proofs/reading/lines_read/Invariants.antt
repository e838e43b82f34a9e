use Rattle.std.proofs.Common.{◌≡◌, take, map, List, All}
use Rattle.value_syntax.specs.declared.line.ScriptLine.{ScriptLine}
use Rattle.value_syntax.specs.Scripts.{MayStand, line_words, words_of}
use Rattle.value_syntax.proofs.reading.lines_read.Given as goal

abbrev pub invariant-loop-text : goal.invariant-loop-text
invariant-loop-text l = record {
  written : map (λ x. words_of x.now) (take l.text-index l.texts) ≡ map line_words l.script.items;
  stand : All (MayStand l.editors) l.script.items;
  same : (script : List ScriptLine) → All (MayStand l.editors) script → map (λ x. words_of x.now) l.texts ≡ map line_words script → l.script.items ≡ take l.text-index script;
}
