-- The words of the command, as clap takes them.
use Rattle.std.specs.Prelude.{[], ◌∷◌, Some, codes, false, pos}
use Rattle.clap.specs.Simple.{App}
use Rattle.clap.specs.Walk.{Rule}
use Rattle.clap.specs.declared.builder.value_parser.ValueParser.TheVariants.{Signed}
use Rattle.lab_parts.specs.Grammar.{app_with, flag_rule, value_rule, word_rule}

-- `--most N`: a number of 32 bits, from 1, and 4096 where it is left out; it stands with `--every-stop` alone
abbrev pub most_rule : Rule
most_rule =
    record (value_rule (codes "most")) { defaults = codes "4096" ∷ []; parser = Some (Signed (pos 1) (pos 4294967295)); is_free = false }

-- `rehearse FILE [--every-stop] [--most N]`
abbrev pub rehearse_app : App
rehearse_app = app_with (codes "rehearse") (word_rule (codes "file") ∷ flag_rule (codes "every-stop") ∷ most_rule ∷ [])
