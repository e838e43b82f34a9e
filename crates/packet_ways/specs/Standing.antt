-- How a board stands after a beginning of its list.
use Rattle.std.specs.Prelude.{◌≡◌, ℕ, Some}
use Rattle.std.specs.Option.{option_map}
use Rattle.generations.specs.Notices.{newest_in}
use Rattle.generations.specs.Beginnings.{Beginning, board_after}

-- so many changes are accepted
abbrev pub Counts : Beginning → ℕ → Type 0
Counts seen count = (board_after seen).count ≡ count

-- the newest generation has this number
abbrev pub IsNewest : Beginning → ℕ → Type 0
IsNewest seen number = option_map (λ g. g.0) (newest_in seen.log) ≡ Some number
