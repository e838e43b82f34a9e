-- What the program's grammar makes of words.
use Rattle.std.proofs.Common.{◌≡◌, ◌∙◌, ap, refl, subst, sym, true, List, Some, option_map}
use Rattle.clap.specs.Simple.{App, HasMatchesOf, is_simple, subcommand_of, subcommand_rows_of}
use Rattle.clap.specs.Walk.{Row, Text}
use Rattle.clap.specs.Words.{subcommand_name_of}
use Rattle.clap.specs.declared.parser.matches.ArgMatches.{ArgMatches}
use Rattle.command_line.proofs.Asking.{found_is}
use Rattle.lab_commands.specs.Grammar.{program}

-- the grammar is one whose matches are known
program_is_simple : is_simple program ≡ true
unfolding program
program_is_simple = refl

-- what was found is what the words name
pub taken : (app : App) (words : List Text) (m : ArgMatches) → app ≡ program → HasMatchesOf app words m → subcommand_rows_of m ≡ subcommand_of program words
taken app words m is =
    subst (λ (a : App). HasMatchesOf a words m → subcommand_rows_of m ≡ subcommand_of program words) (sym is) (λ matches. (matches program_is_simple).1)

-- a command that was met by this name, with these rows, is the one that was found
pub named : (m : ArgMatches) (met name : Text) (rows : List Row) → Some met ≡ subcommand_name_of m → met ≡ name → Some rows ≡ option_map (λ p. p.1) (subcommand_rows_of m)
    → subcommand_rows_of m ≡ Some (name, rows)
named m met name rows first is second = found_is m name rows (ap Some (sym is) ∙ first) second
