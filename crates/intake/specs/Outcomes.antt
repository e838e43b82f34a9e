-- What a board says of a session's last ticket, and why it lets in no next one.
use Rattle.std.specs.Prelude.{ℕ, ◌==◌, Bool, true, false, cond, nat_le, nat_lt, Option, Some, None}
use Rattle.std.specs.Option.{unwrap_or}
use Rattle.requests.specs.Tickets.{last_of, worn_limit}
use Rattle.generations.specs.declared.posting.Mark.{Mark}
use Rattle.generations.specs.declared.posting.Verdict.{Verdict}
use Rattle.generations.specs.declared.posting.Verdict.TheVariants.{Accepted as Yes, Refused as No}
use Rattle.generations.specs.Boards.{BoardState, mark_of}
use Rattle.intake.specs.declared.outcome.Outcome.{Outcome}
use Rattle.intake.specs.declared.outcome.Outcome.TheVariants.{Nothing, Accepted, Refused, Down, Waiting}
use Rattle.intake.specs.declared.outcome.Standing.{Standing}
use Rattle.intake.specs.declared.outcome.Standing.TheVariants as standings
use Rattle.intake.specs.declared.outcome.SubmitRefused.{SubmitRefused}
use Rattle.intake.specs.declared.outcome.SubmitRefused.TheVariants.{Busy, AlreadyIn, OldTicket, Worn}

-- of a ticket that has no mark
abbrev pub unsettled : BoardState → Outcome
unsettled s = cond s.down Down Waiting

-- of a ticket by its verdict
abbrev pub told : ℕ → Verdict → Outcome
told ticket (Yes count) = Accepted ticket count
told ticket (No op code) = Refused ticket op code

-- of a ticket by its session's last mark
abbrev pub by_mark : BoardState → ℕ → Option Mark → Outcome
by_mark s last None = unsettled s
by_mark s last (Some mark) = cond (mark.ticket == last) (told last mark.verdict) (unsettled s)

-- of the last ticket that a session submitted: nothing exactly where there is none
abbrev pub outcome_on : BoardState → ℕ → Option ℕ → Outcome
outcome_on s session None = Nothing
outcome_on s session (Some last) = by_mark s last (mark_of s session)

-- the same with the mark: of a ticket that has none, of a ticket by its session's last mark, of the last ticket
abbrev pub standing_unsettled : BoardState → Standing
standing_unsettled s = cond s.down standings.Down standings.Waiting

abbrev pub standing_by_mark : BoardState → ℕ → Option Mark → Standing
standing_by_mark s last None = standing_unsettled s
standing_by_mark s last (Some mark) = cond (mark.ticket == last) (standings.Settled mark) (standing_unsettled s)

abbrev pub standing_on : BoardState → ℕ → Option ℕ → Standing
standing_on s session None = standings.Nothing
standing_on s session (Some last) = standing_by_mark s last (mark_of s session)

-- what it says without the mark's session
abbrev pub outcome_in : Standing → Outcome
outcome_in standings.Nothing = Nothing
outcome_in (standings.Settled mark) = told mark.ticket mark.verdict
outcome_in standings.Down = Down
outcome_in standings.Waiting = Waiting

-- it isn't settled
abbrev pub is_open : Outcome → Bool
is_open Nothing = false
is_open (Accepted ticket count) = false
is_open (Refused ticket op code) = false
is_open Down = true
is_open Waiting = true

-- Why a ticket isn't let in, the first that holds: the last change isn't settled; the ticket is at most the last one that is
-- in; it is at most the last one submitted, or the start; it is past the limit.
abbrev pub refusal_on : BoardState → ℕ → ℕ → Option ℕ → ℕ → Option SubmitRefused
refusal_on s session start last ticket =
    cond (is_open (outcome_on s session last)) (Some Busy)
    (cond (nat_le ticket (last_of s.accepted session)) (Some AlreadyIn)
    (cond (nat_le ticket (unwrap_or last start)) (Some OldTicket)
    (cond (nat_lt worn_limit ticket) (Some Worn) None)))
