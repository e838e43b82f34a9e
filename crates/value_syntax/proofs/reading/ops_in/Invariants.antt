use Rattle.std.proofs.Common.{◌≡◌, take, map, List, All}
use Rattle.graph_edits.specs.declared.edits.Op.{Op}
use Rattle.value_syntax.specs.OpText.{Fits, op_text}
use Rattle.value_syntax.proofs.reading.ops_in.Given as goal

abbrev pub invariant-loop-word : goal.invariant-loop-word
invariant-loop-word l = record {
  written : map op_text l.ops.items ≡ map (λ x. x.now) (take l.word-index l.words);
  fits : All Fits l.ops.items;
  same : (ops : List Op) → All Fits ops → map op_text ops ≡ map (λ x. x.now) l.words → l.ops.items ≡ take l.word-index ops;
}
