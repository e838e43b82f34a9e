-- Suspects that there are, and their lines.
use Rattle.std.specs.Prelude.{ℕ, List, [], ◌∷◌, ◌++◌, Option, None, Some, codes, flat_map}
use Rattle.device_suspects.specs.declared.suspect.Suspect.{Suspect}
use Rattle.device_suspects.specs.declared.suspect.Suspects.{Suspects}
use Rattle.device_suspects.specs.Suspects.{listed, suspect_text}

-- one, where it is there
abbrev pub if_there : Option Suspect → List Suspect
if_there None = []
if_there (Some suspect) = suspect ∷ []

-- those that are there, in their order
abbrev pub present : Suspects → List Suspect
present suspects = flat_map if_there (listed suspects)

-- the line of one
abbrev pub suspect_line : Suspect → List ℕ
suspect_line suspect = suspect_text suspect ++ codes "\n"
