-- The shelf of the newest generations.
use Rattle.std.specs.Prelude.{ℕ, ◌-◌, List, length, drop, Option, Some, None}
use Rattle.std.specs.Arc.{arc_value}
use Rattle.schemes.specs.declared.parts.Parts.{Parts}
use Rattle.generations.specs.declared.fold.Shelved.{Shelved}

-- how many generations stand on the shelf at most. `limits_law` says that the code's number is the same
abbrev pub most_shelved : ℕ
most_shelved = 4

-- a place of the shelf, as its number and its scheme's tables
abbrev pub plain : Option Shelved → Option (ℕ × Parts)
plain None = None
plain (Some g) = Some (g.number, arc_value g.scheme)

-- the newest of a list, as many as the shelf has room for
abbrev pub newest : {A : Type 0} → List A → List A
newest xs = drop (length xs - most_shelved) xs
