use Rattle.std.proofs.Common.{◌≡◌, drop, false, map}
use Rattle.clap.specs.Simple.{app_of}
use Rattle.clap.specs.declared.builder.command.Command.TheViews.{out-Command}
use Rattle.command_line.specs.Grammar.{with_rules}
use Rattle.lab_parts.specs.Grammar.{app_with, rule_for}
use Rattle.lab_parts.proofs.words.command.Given as goal

abbrev pub invariant-loop-said : goal.invariant-loop-said
invariant-loop-said l = record {
  rest : with_rules (app_of l.command) (map rule_for (drop l.said-index l.said)) ≡ app_with l.fn.name (map rule_for l.fn.said);
  local : (out-Command l.command).has_globals ≡ false;
}
