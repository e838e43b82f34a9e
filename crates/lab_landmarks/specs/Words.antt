-- The words of the command, as clap takes them.
use Rattle.std.specs.Prelude.{[], ◌∷◌, codes}
use Rattle.clap.specs.Simple.{App}
use Rattle.lab_parts.specs.Grammar.{app_with, flag_rule, value_rule, word_rule}

-- `landmarks DEVICE ..`
abbrev pub landmarks_app : App
landmarks_app =
    app_with (codes "landmarks") (word_rule (codes "device") ∷ value_rule (codes "seed")
    ∷ value_rule (codes "start") ∷ value_rule (codes "most-entries") ∷ value_rule (codes "most")
    ∷ flag_rule (codes "figures") ∷ [])
