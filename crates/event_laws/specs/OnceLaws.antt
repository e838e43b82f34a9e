-- Exactly once over crashes.
use Rattle.std.specs.Prelude.{◌≡◌, ◌<◌, ◌≤◌, ℕ, List, [], ◌∷◌, ◌++◌, take, Option, Some, None, false}
use Rattle.requests.specs.Tickets.{sessions, last_of, times, IsLast}
use Rattle.requests.specs.declared.request.Request.{Request}
use Rattle.layout_2.specs.State.{after, asked, AreInTurn}
use Rattle.generations.specs.Boards.{BoardState}
use Rattle.intake.specs.Outcomes.{refusal_on}
use Rattle.event_laws.specs.LaterLives.{LifeLists, IsLife, AreChained, let_in, answered, last_life, in_before, joined, IsAcknowledged}
use Rattle.event_laws.specs.Submits.{board_of_lists, IsLastOf, is_busy, IsRefusedAsIn}

-- What holds of the joined list of a life and of those that followed it.
pub record IsExactlyOnce (life : LifeLists) (rest : List LifeLists) : Type 0 where
  -- its changes, made in order, lead from the state that the first life opened to to that of the last one's store
  pub leads : after life.opened (joined life rest) ≡ Some (answered (last_life life rest)).state
  -- each session's ticket is in it at most once,
  pub at_most_once : (s t : ℕ) → times s t (asked (joined life rest)) ≤ 1
  -- .. and only above the last one that the session had on the first disk
  pub above : (s t : ℕ) → 0 < times s t (asked (joined life rest)) → last_of life.opened.tickets s < t
  -- one that is acknowledged is in it exactly once
  pub acknowledged : (s t : ℕ) → IsAcknowledged s t life rest → times s t (asked (joined life rest)) ≡ 1
  -- the last life opened to each session's last ticket of what was in by then, which `resume` answers;
  pub resumes : (s : ℕ) → IsLast life.opened.tickets (asked (in_before life rest)) s (last_of (last_life life rest).opened.tickets s)
  -- .. its store has that of the joined list;
  pub last : (s : ℕ) → IsLast life.opened.tickets (asked (joined life rest)) s (last_of (answered (last_life life rest)).state.tickets s)
  -- .. it let in no ticket that was in when it opened;
  pub let_in_new : (s t : ℕ) → 0 < times s t (asked (in_before life rest)) → times s t (asked (let_in (last_life life rest))) ≡ 0
  -- .. and by any board of its own each ticket of the joined list is refused as one that is in
  pub refused : (s t k : ℕ) (last : Option ℕ) → IsLastOf (last_life life rest).opened.tickets (let_in (last_life life rest)) s last → 0 < times s t (asked (joined life rest)) → IsRefusedAsIn (last_life life rest) k s last t

-- so it is of lives that follow one another, and of each beginning of them
abbrev pub ExactlyOnce : Type 0
ExactlyOnce = (life : LifeLists) (rest : List LifeLists) → AreChained life rest → (n : ℕ) → IsExactlyOnce life (take n rest)

-- requests in turn are in turn with one more that a board lets in
abbrev pub LetInTurn : Type 0
LetInTurn = (starts : List ℕ) (requests : List Request) (board : BoardState) (last : Option ℕ) (r : Request) → AreInTurn starts requests → r.session < sessions → IsLastOf starts requests r.session last
    → refusal_on board r.session (last_of starts r.session) last r.ticket ≡ None → AreInTurn starts (requests ++ r ∷ [])

-- where a session isn't busy on a board of a life, the last accepted ticket that the board has of it is the store's
abbrev pub FreeShowsLast : Type 0
FreeShowsLast = (life : LifeLists) → IsLife life → (k s : ℕ) (last : Option ℕ) → IsLastOf life.opened.tickets (let_in life) s last → is_busy (board_of_lists life k) s last ≡ false
    → last_of (board_of_lists life k).accepted s ≡ last_of (answered life).state.tickets s
