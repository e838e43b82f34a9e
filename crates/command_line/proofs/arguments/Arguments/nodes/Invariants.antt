use Rattle.std.proofs.Common.{◌≡◌, ◌<◌, ◌^◌, take, map, decimal, All}
use Rattle.clap.specs.Walk.{texts}
use Rattle.command_line.proofs.arguments.Arguments.nodes.Given as goal

abbrev pub invariant-loop-text : goal.invariant-loop-text
invariant-loop-text l = record {
  read : map decimal l.nodes.items ≡ texts (take l.text-index l.given);
  fits : All (λ node. node < 2 ^ 16) l.nodes.items;
}
