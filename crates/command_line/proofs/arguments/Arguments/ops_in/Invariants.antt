use Rattle.std.proofs.Common.{◌≡◌, take, map, List, All}
use Rattle.clap.specs.Walk.{texts}
use Rattle.graph_edits.specs.declared.edits.Op.{Op}
use Rattle.value_syntax.specs.OpText.{Fits, op_text}
use Rattle.command_line.proofs.arguments.Arguments.ops_in.Given as goal

abbrev pub invariant-loop-text : goal.invariant-loop-text
invariant-loop-text l = record {
  written : map op_text l.ops.items ≡ texts (take l.text-index l.given);
  fits : All Fits l.ops.items;
  same : (ops : List Op) → All Fits ops → map op_text ops ≡ texts l.given → l.ops.items ≡ take l.text-index ops;
}
