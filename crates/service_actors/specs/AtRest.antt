-- What holds of an editor between two changes.
use Rattle.std.specs.Prelude.{◌≡◌, ◌<◌, ℕ, List, [], ◌∷◌, Option, Some, None}
use Rattle.requests.specs.declared.request.Request.{Request}
use Rattle.generations.specs.declared.posting.Mark.{Mark}
use Rattle.intake.specs.Editors.{Editing}
use Rattle.service_actors.specs.Edited.{IsLastMark}

-- each ticket is above the one before, and the first is above this one
abbrev pub RisesFrom : ℕ → List Request → Type 0
RisesFrom start [] = Unit {0}
RisesFrom start (r ∷ rs) = (start < r.ticket) × RisesFrom r.ticket rs

-- nothing was submitted, or the last change has this mark, in what the editor knows of the board's list
abbrev pub IsLastTold : Editing → Option Mark → Type 0
IsLastTold e None = e.put ≡ []
IsLastTold e (Some mark) = IsLastMark e e.known mark

-- the ticket of the last change by its mark, or the start
abbrev pub last_by : Option Mark → ℕ → ℕ
last_by None start = start
last_by (Some mark) start = mark.ticket

-- All that it submitted is settled, the last change by this mark.
pub record IsAtRest (e : Editing) (last : Option Mark) : Type 0 where
  pub rises : RisesFrom e.start e.put
  pub told : IsLastTold e last
