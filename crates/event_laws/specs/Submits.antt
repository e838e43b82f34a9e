-- A submit in a life, by a board as it was looked at.
use Rattle.std.specs.Prelude.{◌≡◌, ℕ, Bool, List, take, cond, Option, Some}
use Rattle.std.specs.Option.{unwrap_or}
use Rattle.requests.specs.Tickets.{last_of, tickets_after}
use Rattle.requests.specs.declared.request.Request.{Request}
use Rattle.layout_2.specs.State.{asked}
use Rattle.generations.specs.Boards.{BoardState, board_of}
use Rattle.intake.specs.declared.outcome.SubmitRefused.TheVariants.{Busy, AlreadyIn}
use Rattle.intake.specs.Outcomes.{outcome_on, is_open, refusal_on}
use Rattle.event_laws.specs.LaterLives.{LifeLists}

-- the board of a life after its first k postings
abbrev pub board_of_lists : LifeLists → ℕ → BoardState
board_of_lists life k = board_of life.opened.tickets life.opened.count (take k life.posted)

-- the last ticket that a session submitted, or where it starts if it submitted none, is its last one of these requests
abbrev pub IsLastOf : List ℕ → List Request → ℕ → Option ℕ → Type 0
IsLastOf starts requests s last = unwrap_or last (last_of starts s) ≡ last_of (tickets_after starts (asked requests)) s

-- the session's last change isn't settled on this board
abbrev pub is_busy : BoardState → ℕ → Option ℕ → Bool
is_busy board s last = is_open (outcome_on board s last)

-- by the board after k postings of a life a session's ticket is refused: as one that is in, or as Busy where the session is
abbrev pub IsRefusedAsIn : LifeLists → ℕ → ℕ → Option ℕ → ℕ → Type 0
IsRefusedAsIn life k s last ticket = refusal_on (board_of_lists life k) s (last_of life.opened.tickets s) last ticket ≡ Some (cond (is_busy (board_of_lists life k) s last) Busy AlreadyIn)
