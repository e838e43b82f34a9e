-- What a board lets in, and what it refuses.
use Rattle.std.proofs.Common.{◌≡◌, ◌<◌, ◌≤◌, nat_le, nat_lt, ℕ, Bool, true, false, cond, List, take, Option, Some, None, refl, ap, subst, arith}
use Rattle.std.proofs.lemmas.Bool.Decides.{nat_tests}
use Rattle.std.specs.Option.{unwrap_or}
use Rattle.requests.specs.Tickets.{worn_limit, last_of}
use Rattle.requests.proofs.TicketLemmas.{at_most, above}
use Rattle.layout_2.specs.State.{asked}
use Rattle.generations.specs.Boards.{BoardState}
use Rattle.group_commit.proofs.TurnLemmas.{turn_push}
use Rattle.intake.specs.declared.outcome.SubmitRefused.{SubmitRefused}
use Rattle.intake.specs.declared.outcome.SubmitRefused.TheVariants.{Busy, AlreadyIn, OldTicket, Worn}
use Rattle.intake.specs.Outcomes.{outcome_on, is_open, refusal_on}
use Rattle.event_laws.specs.LaterLives.{LifeLists, let_in, answered, IsLife, AreChained, last_life, joined}
use Rattle.event_laws.specs.Submits.{board_of_lists, IsLastOf, is_busy, IsRefusedAsIn}
use Rattle.event_laws.specs.OnceLaws.{IsExactlyOnce, ExactlyOnce, LetInTurn}
use Rattle.event_laws.proofs.Every.{on_bool}
use Rattle.event_laws.proofs.Chains.{last_led, first_life, last_is_life, chain_first, joined_leads, resumes, let_in_new, acknowledged}
use Rattle.event_laws.proofs.Boards.{free_shows_last}

-- the tests of a submit in their order, by what they find
abbrev tested : Bool → Bool → Bool → Bool → Option SubmitRefused
tested waits there old worn = cond waits (Some Busy) (cond there (Some AlreadyIn) (cond old (Some OldTicket) (cond worn (Some Worn) None)))

-- one lets in only where each finds nothing
lets_in : (waits there old worn : Bool) → tested waits there old worn ≡ None → (old ≡ false) × (worn ≡ false)
lets_in true there old worn e = absurd cc
lets_in false true old worn e = absurd cc
lets_in false false true worn e = absurd cc
lets_in false false false true e = absurd cc
lets_in false false false false e = (refl, refl)

-- and it is answered as already in only where nothing is open, and the ticket is no later than the board's
in_found : (waits there old worn : Bool) → tested waits there old worn ≡ Some AlreadyIn → (waits ≡ false) × (there ≡ true)
in_found true there old worn e = absurd cc
in_found false true old worn e = (refl, refl)
in_found false false true worn e = absurd cc
in_found false false false true e = absurd cc
in_found false false false false e = absurd cc

-- what a board lets in is above the last one that was submitted, and within the limit
pub let_in_bounds : (b : BoardState) (s start : ℕ) (last : Option ℕ) (ticket : ℕ) → refusal_on b s start last ticket ≡ None → (unwrap_or last start < ticket) × (ticket ≤ worn_limit)
let_in_bounds b s start last ticket none =
    let none = lets_in (is_open (outcome_on b s last)) (nat_le ticket (last_of b.accepted s)) (nat_le ticket (unwrap_or last start)) (nat_lt worn_limit ticket) none in
    let old = none.0 in
    let worn = none.1 in
    (grind (arith, nat_tests, old), grind (arith, nat_tests, worn))

pub let_in_turn : LetInTurn
let_in_turn starts requests board last r turn there is none =
    let new = let_in_bounds board r.session (last_of starts r.session) last r.ticket none in
    turn_push starts requests r turn (there, subst (λ (n : ℕ). n < r.ticket) is new.0, new.1)

module _ (life : LifeLists) (is : IsLife life) (s t k : ℕ) (last : Option ℕ) (is_last : IsLastOf life.opened.tickets (let_in life) s last) where
  abbrev board : BoardState
  board = board_of_lists life k

  abbrev start : ℕ
  start = last_of life.opened.tickets s

  -- a ticket that is refused as one that is in is no later than the last one that is in
  pub is_there : refusal_on board s start last t ≡ Some AlreadyIn → t ≤ last_of (answered life).state.tickets s
  is_there e =
      let found = in_found (is_busy board s last) (nat_le t (last_of board.accepted s)) (nat_le t (unwrap_or last start)) (nat_lt worn_limit t) e in
      let shows = free_shows_last life is k s last is_last found.0 in
      let le = found.1 in
      grind (arith, nat_tests, shows, le)

  -- and one that is no later is refused so
  pub is_refused : t ≤ last_of (answered life).state.tickets s → IsRefusedAsIn life k s last t
  is_refused low = on_bool (λ busy. tested busy (nat_le t (last_of board.accepted s)) (nat_le t (unwrap_or last start)) (nat_lt worn_limit t) ≡ Some (cond busy Busy AlreadyIn)) (is_busy board s last) (λ _. refl)
      (λ e.
      let shows = free_shows_last life is k s last is_last e in
      let inside : nat_le t (last_of board.accepted s) ≡ true = grind (arith, nat_tests, shows, low) in
      ap (λ (b : Bool). tested false b (nat_le t (unwrap_or last start)) (nat_lt worn_limit t)) inside)

once : (life : LifeLists) (rest : List LifeLists) → AreChained life rest → IsExactlyOnce life rest
once life rest h =
    let p = last_life life rest in
    let wide = (first_life life rest h).wide in
    let all = joined_leads life rest h in
    let last = last_led life.opened (answered p).state (joined life rest) wide all in
    record {
      leads = all.leads;
      at_most_once = λ s t. at_most life.opened.tickets (asked (joined life rest)) s t wide all.rises;
      above = λ s t some. above life.opened.tickets (asked (joined life rest)) s t wide all.rises some;
      acknowledged = acknowledged life rest h;
      resumes = resumes life rest h;
      last = last;
      let_in_new = let_in_new life rest h;
      refused = λ s t k ticket is_last some. is_refused p (last_is_life life rest h) s t k ticket is_last ((last s).greatest t some);
    }

pub exactly_once : ExactlyOnce
exactly_once life rest h n = once life (take n rest) (chain_first life rest n h)
