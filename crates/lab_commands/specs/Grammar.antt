-- The program's grammar, as clap takes it.
use Rattle.std.specs.Prelude.{List, [], ◌∷◌, codes, true}
use Rattle.clap.specs.Simple.{App, new_app, on_top, with_subcommand}
use Rattle.crash_trials.specs.Words.{rehearse_app}
use Rattle.device_info.specs.Commands.{info_app, journal_app}
use Rattle.lab_landmarks.specs.Words.{landmarks_app}
use Rattle.network_load.specs.Commands.{grow_app, load_app}

-- one of the commands has to be given, and the program's name is not among the words
abbrev pub bare_app : App
bare_app = on_top (λ s. record s { no_binary_name = true; subcommand_required = true }) (new_app (codes "tzlab"))

-- a program with these commands more
abbrev pub with_commands : App → List App → App
with_commands app [] = app
with_commands app (command ∷ commands) = with_commands (with_subcommand app command.top) commands

-- the program's grammar: its commands, each with its words
unfoldable pub program : App
program = with_commands bare_app (load_app ∷ grow_app ∷ info_app ∷ journal_app ∷ landmarks_app ∷ rehearse_app ∷ [])
