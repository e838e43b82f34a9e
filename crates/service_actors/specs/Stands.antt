-- How a board stands, also before it has a generation.
use Rattle.std.specs.Prelude.{◌≡◌, ℕ, Option}
use Rattle.std.specs.Option.{option_map}
use Rattle.generations.specs.Notices.{newest_in}
use Rattle.generations.specs.Beginnings.{Beginning}

-- this is the number of the newest generation, where there is one
abbrev pub HasNewest : Beginning → Option ℕ → Type 0
HasNewest seen number = option_map (λ g. g.0) (newest_in seen.log) ≡ number
