use Rattle.std.proofs.Common.{◌≡◌, ◌∙◌, sym}
use Rattle.generations.specs.Beginnings.{board_after}
use Rattle.generations.proofs.LastMarks.{mark_there}
use Rattle.intake.specs.declared.outcome.Standing.TheVariants.{Settled}
use Rattle.intake.specs.Outcomes.{standing_on}
use Rattle.intake.specs.Turns.{last_asked}
use Rattle.intake.proofs.SettledMarks.{settled_by}
use Rattle.service_actors.proofs.editing.settled.Goals as goal

pub returns-in-Ok-Settled-clause-mark : goal.returns-in-Ok-Settled-clause-mark
returns-in-Ok-Settled-clause-mark g c =
    let e = c.standing.new.self in
    let mark = c.in-Ok-Settled.mark in
    let says : standing_on (board_after e.known) e.session (last_asked e.put) ≡ Settled mark = sym c.in-Ok-Settled.ensures.standing ∙ c.in-Ok-Settled.field-0-is in
    let shown = settled_by (board_after e.known) e.session (last_asked e.put) mark says in
    record {
      session = (mark_there e.known.opening.starts e.known.opening.count e.known.log e.session mark shown.0).0;
      ticket = shown.1;
      told = says;
    }
