use Rattle.std.proofs.Common.{◌≡◌, ◌++◌, take}
use Rattle.std.specs.List.{flat_map}
use Rattle.std.specs.String.{string_bytes}
use Rattle.program_help.specs.Texts.{entry_of}
use Rattle.program_help.proofs.help.push_entries.Given as goal

abbrev pub invariant-loop-command : goal.invariant-loop-command
invariant-loop-command l = string_bytes l.text ≡ string_bytes l.initial.text ++ flat_map entry_of (take l.command-index l.commands)
