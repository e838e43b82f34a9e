-- What a program says of itself.
use Rattle.std.specs.Prelude.{ℕ, List, [], ◌∷◌, ◌++◌, Option, codes, find}
use Rattle.std.specs.List.{flat_map}
use Rattle.std.specs.Str.{bytes_eq}
use Rattle.program_help.specs.declared.help.CommandHelp.{CommandHelp}
use Rattle.program_help.specs.declared.help.Help.{Help}

-- the version of all programs of the repository
abbrev pub version : List ℕ
version = codes "0.5.0"

-- the entry of a command
abbrev pub entry_of : CommandHelp → List ℕ
entry_of command = command.entry.now

-- all that is said of it
abbrev pub command_text : CommandHelp → List ℕ
command_text command = command.entry.now ++ command.more.now

-- the first command of a name
abbrev pub command_in : List CommandHelp → List ℕ → Option CommandHelp
command_in commands name = find (λ command. bytes_eq command.name.now name) commands

-- the front, the entries of all commands, and the back
abbrev pub whole_text : Help → List ℕ
whole_text help = (help.front.now ++ flat_map entry_of help.commands.now) ++ help.back.now

-- the program's name, and the version
abbrev pub version_text : Help → List ℕ
version_text help = ((help.program.now ++ codes " ") ++ version) ++ 10 ∷ []
