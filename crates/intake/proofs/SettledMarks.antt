-- The mark by which a board tells that a ticket is settled.
use Rattle.std.proofs.Common.{◌≡◌, ◌==◌, ℕ, Bool, true, false, cond, Option, Some, None, refl, sym, ap, ◌∙◌}
use Rattle.std.proofs.lemmas.Bool.{eqb-true}
use Rattle.generations.specs.declared.posting.Mark.{Mark}
use Rattle.generations.specs.Boards.{BoardState, mark_of}
use Rattle.intake.specs.declared.outcome.Standing.{Standing}
use Rattle.intake.specs.declared.outcome.Standing.TheVariants.{Nothing, Settled, Down, Waiting}
use Rattle.intake.specs.Outcomes.{standing_by_mark, standing_on}

-- what isn't settled has no mark
unmarked : (down : Bool) (mark : Mark) → cond down Down Waiting ≡ Settled mark → ⊥
unmarked true mark is = cc
unmarked false mark is = cc

by_board : (s : BoardState) (last : ℕ) (mark : Mark) (shown : Option Mark) → standing_by_mark s last shown ≡ Settled mark → (shown ≡ Some mark) × (last ≡ mark.ticket)
by_board s last mark None is = absurd (unmarked s.down mark is)
by_board s last mark (Some m) is = by (m.ticket == last) refl is
  where
    by : (same : Bool) → (m.ticket == last) ≡ same → cond same (Settled m) (cond s.down Down Waiting) ≡ Settled mark → (Some m ≡ Some mark) × (last ≡ mark.ticket)
    by true same tells = (let one : m ≡ mark = cc in (ap Some one, sym (eqb-true m.ticket last same) ∙ ap (λ (x : Mark). x.ticket) one))
    by false same tells = absurd (unmarked s.down mark tells)

-- it is the session's last mark, and the ticket is the last one
pub settled_by : (s : BoardState) (session : ℕ) (last : Option ℕ) (mark : Mark) → standing_on s session last ≡ Settled mark → (mark_of s session ≡ Some mark) × (last ≡ Some mark.ticket)
settled_by s session None mark is = (let other : ◌≡◌ {A = Standing} Nothing (Settled mark) = is in absurd (cc))
settled_by s session (Some last) mark is = (let by = by_board s last mark (mark_of s session) is in (by.0, ap Some by.1))
