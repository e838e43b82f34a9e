-- What an editor's last change came to.
use Rattle.std.specs.Prelude.{◌≡◌, Some}
use Rattle.generations.specs.Beginnings.{board_after}
use Rattle.generations.specs.declared.posting.Mark.{Mark}
use Rattle.intake.specs.Editors.{Editing}
use Rattle.intake.specs.declared.outcome.Standing.TheVariants.{Settled}
use Rattle.intake.specs.Outcomes.{standing_on}
use Rattle.intake.specs.Turns.{last_asked}

-- The mark is that of the editor's last change: it has its session and its ticket, and tells what the board, after all that the
-- editor knows, says of it.
pub record IsMarkOf (e : Editing) (mark : Mark) : Type 0 where
  pub session : mark.session ≡ e.session
  pub ticket : last_asked e.put ≡ Some mark.ticket
  pub told : standing_on (board_after e.known) e.session (last_asked e.put) ≡ Settled mark
