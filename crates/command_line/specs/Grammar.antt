-- The program's grammar, as clap takes it.
use Rattle.std.specs.Prelude.{◌≡◌, List, [], ◌∷◌, Some, codes, false, map, true}
use Rattle.std.specs.List.{flat_map}
use Rattle.clap.specs.Lexer.{usize_max}
use Rattle.clap.specs.Walk.{Rule, Text, rule_of}
use Rattle.clap.specs.Simple.{App, app_of, new_app, new_rule, on_top, with_rule, with_subcommand}
use Rattle.clap.specs.declared.builder.action.ArgAction.TheVariants.{Append, Set, SetTrue}
use Rattle.clap.specs.declared.builder.arg.Arg.{Arg}
use Rattle.clap.specs.declared.builder.command.Command.{Command}
use Rattle.clap.specs.declared.builder.command.Command.TheViews.{out-Command}
use Rattle.command_line.specs.declared.grammar.Argument.{Argument}
use Rattle.command_line.specs.declared.grammar.Argument.TheVariants as given
use Rattle.command_line.specs.Fields.{Field, Word, Number, Usual, Optional, Flag, Live, Nodes, Pairs, Landmarks, Ops, table}

-- a text that has to be given
abbrev pub text_rule : Text → Rule
text_rule id = record (new_rule id) { required = true; action = Some Set }

-- `--ID N`, which may be left out
abbrev pub option_rule : Text → Rule
option_rule id = record (new_rule id) { long = Some id; action = Some Set }

-- the same, which may be given any number of times
abbrev pub repeated_rule : Text → Rule
repeated_rule id = record (new_rule id) { long = Some id; action = Some Append }

-- `--ID`, which may be left out
abbrev pub flag_rule : Text → Rule
flag_rule id = record (new_rule id) { long = Some id; action = Some SetTrue }

-- `--ID TEXT`
abbrev pub named_rule : Text → Rule
named_rule id = record (text_rule id) { long = Some id }

-- `TEXT..`: one text or more
abbrev pub texts_rule : Text → Rule
texts_rule id = record (text_rule id) { range = Some (record { start_inclusive = 1; end_inclusive = usize_max }) }

-- `[TEXT]..`: one text or more, or none
abbrev pub more_rule : Text → Rule
more_rule id = record (new_rule id) { action = Some Append; range = Some (record { start_inclusive = 1; end_inclusive = usize_max }) }

-- the rules of a field
abbrev pub rules_of : Field → List Rule
rules_of (Word id) = text_rule id ∷ []
rules_of (Number id least most) = text_rule id ∷ []
rules_of (Usual id least most usual) = option_rule id ∷ []
rules_of (Optional id least most) = option_rule id ∷ []
rules_of (Flag id) = flag_rule id ∷ []
rules_of Live = flag_rule (codes "live") ∷ option_rule (codes "rounds") ∷ []
rules_of (Nodes id) = repeated_rule id ∷ []
rules_of Pairs = text_rule (codes "from") ∷ text_rule (codes "to") ∷ more_rule (codes "more") ∷ []
rules_of Landmarks = named_rule (codes "words") ∷ []
rules_of Ops = texts_rule (codes "ops") ∷ []

-- a command with these rules more
abbrev pub with_rules : App → List Rule → App
with_rules app [] = app
with_rules app (rule ∷ rules) = with_rules (with_rule app rule) rules

-- one of the commands has to be given, and the program's name is not among the words
abbrev pub bare_app : App
bare_app = on_top (λ s. record s { no_binary_name = true; subcommand_required = true }) (new_app (codes "tznode"))

abbrev pub with_commands : App → List (Text × List Field) → App
with_commands app [] = app
with_commands app (row ∷ rows) = with_commands (with_subcommand app (with_rules (new_app row.0) (flat_map rules_of row.1)).top) rows

-- the program's grammar: each command of the table, with the rules of its fields
unfoldable pub program : App
program = with_commands bare_app table

-- ---- what is built of it

-- The argument has this rule, and no subcommand shares it.
pub record IsArgOf (arg : Arg) (wanted : Rule) : Type 0 where
  pub rule : rule_of arg ≡ wanted
  pub local : arg.global ≡ false

-- The command is this one of the grammar, and shares no argument with subcommands.
pub record IsCommandOf (command : Command) (wanted : App) : Type 0 where
  pub app : app_of command ≡ wanted
  pub local : (out-Command command).has_globals ≡ false

-- the rule of an argument
abbrev pub rule_for : Argument → Rule
rule_for (given.Text id) = text_rule id.now
rule_for (given.Texts id) = texts_rule id.now
rule_for (given.More id) = more_rule id.now
rule_for (given.Named id) = named_rule id.now
rule_for (given.Option id) = option_rule id.now
rule_for (given.Repeated id) = repeated_rule id.now
rule_for (given.Flag id) = flag_rule id.now

-- the command of this name with these arguments
abbrev pub app_named : Text → List Argument → App
app_named name arguments = with_rules (new_app name) (map rule_for arguments)
