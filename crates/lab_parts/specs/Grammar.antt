-- The words of a command, as clap takes them.
use Rattle.std.specs.Prelude.{List}
use Rattle.clap.specs.Simple.{App, new_app}
use Rattle.clap.specs.Walk.{Rule, Text}
use Rattle.command_line.specs.Grammar.{named_rule, option_rule, text_rule, with_rules}
pub use Rattle.command_line.specs.Grammar.{IsArgOf, IsCommandOf, flag_rule}
use Rattle.lab_parts.specs.declared.words.Kind.{Kind}
use Rattle.lab_parts.specs.declared.words.Kind.TheVariants.{Flag, Needed, Value, Word}
use Rattle.lab_parts.specs.declared.words.Said.{Said}

-- help has a name for the value
abbrev pub with_shown : Rule → Rule
with_shown rule = record rule { value_names = 1 }

-- `TEXT`, which has to be there
abbrev pub word_rule : Text → Rule
word_rule id = with_shown (text_rule id)

-- `--ID TEXT`, which has to be there
abbrev pub needed_rule : Text → Rule
needed_rule id = with_shown (named_rule id)

-- `[--ID TEXT]`
abbrev pub value_rule : Text → Rule
value_rule id = with_shown (option_rule id)

-- the rule of a word of this kind
abbrev pub rule_as : Kind → Text → Rule
rule_as Word id = word_rule id
rule_as Needed id = needed_rule id
rule_as Value id = value_rule id
rule_as Flag id = flag_rule id

-- the rule of what is said of a word
abbrev pub rule_for : Said → Rule
rule_for said = rule_as said.kind said.name.now

-- the command of this name with these words
abbrev pub app_with : Text → List Rule → App
app_with name rules = with_rules (new_app name) rules
