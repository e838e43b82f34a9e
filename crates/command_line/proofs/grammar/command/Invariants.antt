use Rattle.std.proofs.Common.{◌≡◌, drop, false, map}
use Rattle.clap.specs.Simple.{app_of}
use Rattle.clap.specs.declared.builder.command.Command.TheViews.{out-Command}
use Rattle.command_line.specs.Grammar.{app_named, rule_for, with_rules}
use Rattle.command_line.proofs.grammar.command.Given as goal

abbrev pub invariant-loop-argument : goal.invariant-loop-argument
invariant-loop-argument l = record {
  rest : with_rules (app_of l.command) (map rule_for (drop l.argument-index l.arguments)) ≡ app_named l.fn.name l.arguments;
  local : (out-Command l.command).has_globals ≡ false;
}
