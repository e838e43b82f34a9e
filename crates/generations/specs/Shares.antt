-- The rule of the shared board: which replica is shown, and what each reader and the writer know.
use Rattle.std.specs.Prelude.{◌≡◌, ℕ, List, Option, Some, None}
use mathlib.Core.Option.{some}
use lib.ListN.{get_elem?}
use Rattle.generations.specs.declared.replica.Replica.{Replica}
use Rattle.generations.specs.Beginnings.{Beginning, GoesOn, board_after}

-- who knows something knows a beginning of the list
abbrev pub Follows : Option Beginning → Beginning → Type 0
Follows None b = Unit {0}
Follows (Some a) b = GoesOn a b

-- the board that is shown is the fold of its list, and each of those who look knows a beginning of that
abbrev pub IsConsistent : Replica → List (Option Beginning) → Type 0
IsConsistent x views = (x.board ≡ board_after x.history) × ((seat : ℕ) (v : Option Beginning) → get_elem? views seat ≡ some v → Follows v x.history)

-- the replica that is shown afterwards was seen: its board is the fold of its list, which goes on from all that was known
abbrev pub Observes : Option Beginning → Replica → Replica → Option Beginning → Type 0
Observes v x y w = (y.board ≡ board_after y.history) × Follows v y.history × (w ≡ Some y.history)

-- what a reader knows once it was told
abbrev pub informed : Option Beginning → Option Beginning → Option Beginning
informed v w = w
