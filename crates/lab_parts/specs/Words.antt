-- What the words of a command say.
use Rattle.std.specs.Prelude.{◌≡◌, ◌↔◌, ℕ, Bool, List, Option, None, Some, IsTrue, codes, decimal}
use Rattle.clap.specs.Walk.{Row, Text, first_of, rows_of}
use Rattle.clap.specs.Words.{found_of}
use Rattle.clap.specs.declared.parser.matches.ArgMatches.{ArgMatches}

-- the words that were given, each with its texts
abbrev pub rows_in : ArgMatches → List Row
rows_in found = rows_of (found_of found)

-- whether a flag was given
abbrev pub IsFlag : List Row → Text → Bool → Type 0
IsFlag rows id is_set = IsTrue is_set ↔ (first_of id rows ≡ Some (codes "true"))

-- the number that was given, and the usual one where none was
abbrev pub IsUsual : Option Text → ℕ → ℕ → Type 0
IsUsual None usual n = n ≡ usual
IsUsual (Some text) usual n = text ≡ decimal n
