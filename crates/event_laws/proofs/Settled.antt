-- Requests in turn, and what a settling of them says of a session's tickets.
use Rattle.std.proofs.Common.{◌≡◌, ◌+◌, ◌<◌, ◌==◌, ◌&&◌, ⊎_elim, cond, ℕ, Bool, true, false, List, [], ◌∷◌, map, fold, Contains, Ok, Err, refl, sym, ap, ◌∙◌, arith, ◌++◌, subst}
use Rattle.std.proofs.lemmas.Bool.Decides.{nat_tests}
use Rattle.std.proofs.lemmas.List.{map-append}
use Rattle.graph_edits.specs.Changes.{after as graph_after}
use Rattle.requests.specs.Tickets.{last_of, times, NoneOf, raise, tickets_after, Rises}
use Rattle.requests.specs.Requests.{asked_by}
use Rattle.requests.specs.declared.request.Request.{Request}
use Rattle.requests.proofs.TicketLemmas.{other_at, times_append, after_append, rises_both}
use Rattle.layout_2.specs.State.{State, asked, AreInTurn}
use Rattle.generations.specs.declared.posting.Mark.{Mark}
use Rattle.generations.specs.declared.posting.Verdict.TheVariants.{Accepted, Refused}
use Rattle.generations.specs.Boards.{accepting}
use Rattle.generations.specs.Notices.{told_to}
use Rattle.group_commit.specs.Settling.{settle, one_more}
use Rattle.group_commit.proofs.SettlingLemmas.{settle_by, settle_step}
use Rattle.event_laws.proofs.Every.{first_or_rest}

pub asked_append : (xs ys : List Request) → asked (xs ++ ys) ≡ asked xs ++ asked ys
asked_append xs ys = map-append asked_by xs ys

-- the first of requests in turn are in turn
pub in_turn_first : (ts : List ℕ) (xs ys : List Request) → AreInTurn ts (xs ++ ys) → AreInTurn ts xs
in_turn_first ts [] ys h = (tt, tt)
in_turn_first ts (r ∷ xs) ys h =
    let rest = in_turn_first (raise ts (asked_by r)) xs ys (h.0.2, h.1.1) in
    ((h.0.0, h.0.1, rest.0), (h.1.0, rest.1))

pub times_in_append : (s t : ℕ) (xs ys : List Request) → times s t (asked (xs ++ ys)) ≡ times s t (asked xs) + times s t (asked ys)
times_in_append s t xs ys = ap (times s t) (asked_append xs ys) ∙ times_append s t (asked xs) (asked ys)

pub after_in_append : (ts : List ℕ) (xs ys : List Request) → tickets_after ts (asked (xs ++ ys)) ≡ tickets_after (tickets_after ts (asked xs)) (asked ys)
after_in_append ts xs ys = ap (tickets_after ts) (asked_append xs ys) ∙ after_append ts (asked xs) (asked ys)

pub rises_in_both : (ts : List ℕ) (xs ys : List Request) → Rises ts (asked xs) → Rises (tickets_after ts (asked xs)) (asked ys) → Rises ts (asked (xs ++ ys))
rises_in_both ts xs ys a b = subst (Rises ts) (sym (asked_append xs ys)) (rises_both ts (asked xs) (asked ys) a b)

-- none of all is none of the first
pub none_first : (s : ℕ) (xs ys : List (ℕ × ℕ)) → NoneOf s (xs ++ ys) → NoneOf s xs
none_first s [] ys h = tt
none_first s (p ∷ xs) ys h = (h.0, none_first s xs ys h.1)

-- marks of a settling, as its accepted requests raise them: the state's last tickets
pub board_shows : (s : State) (rs : List Request) → fold accepting s.tickets (settle s rs).marks ≡ (settle s rs).state.tickets
board_shows s [] = refl
board_shows s (r ∷ rs) = rw (settle_step s r rs) (elim (graph_after s.graph r.change) as (λ o. fold accepting s.tickets (settle_by s r rs o).marks ≡ (settle_by s r rs o).state.tickets) [
  | Ok graph ↦ board_shows (one_more s r graph) rs
  | Err at ↦ board_shows s rs
])

-- a session that has none of the requests keeps its last ticket
pub untouched : (s : ℕ) (st : State) (rs : List Request) → NoneOf s (asked rs) → last_of (settle st rs).state.tickets s ≡ last_of st.tickets s
untouched s st [] none = refl
untouched s st (r ∷ rs) none = rw (settle_step st r rs) (elim (graph_after st.graph r.change) as (λ o. last_of (settle_by st r rs o).state.tickets s ≡ last_of st.tickets s) [
  | Ok graph ↦ untouched s (one_more st r graph) rs none.1 ∙ other_at st.tickets r.session s r.ticket (λ e. none.0 (sym e))
  | Err at ↦ untouched s st rs none.1
])

-- ---- what is marked as accepted is accepted

own_time : (s t : ℕ) (p : ℕ × ℕ) (ps : List (ℕ × ℕ)) → p.0 ≡ s → p.1 ≡ t → 0 < times s t (p ∷ ps)
own_time s t p ps a b =
    let yes : (p.0 == s && p.1 == t) ≡ true = grind (arith, nat_tests) in
    let e : times s t (p ∷ ps) ≡ 1 + times s t ps = ap (λ (b : Bool). cond b (1 + times s t ps) (times s t ps)) yes in
    omega (arith, e)

more_times : (s t : ℕ) (p : ℕ × ℕ) (ps : List (ℕ × ℕ)) → 0 < times s t ps → 0 < times s t (p ∷ ps)
more_times s t p ps some = elim (p.0 == s && p.1 == t) as (λ b. 0 < cond b (1 + times s t ps) (times s t ps)) [ true ↦ omega arith | false ↦ some ]

-- the mark's ticket stands among those that were told
pub told_time : (ms : List Mark) (m : Mark) → Contains ms m → 0 < times m.session m.ticket (map told_to ms)
told_time [] m has = absurd (let within = has.1 in omega (arith, within))
told_time (x ∷ ms) m has = ⊎_elim
    (λ same. own_time m.session m.ticket (told_to x) (map told_to ms) (ap (λ (y : Mark). y.session) same) (ap (λ (y : Mark). y.ticket) same))
    (λ behind. more_times m.session m.ticket (told_to x) (map told_to ms) (told_time ms m behind))
    (first_or_rest x ms m has)

pub accepted_in : (m : Mark) (count : ℕ) (st : State) (rs : List Request) → m.verdict ≡ Accepted count → Contains (settle st rs).marks m → 0 < times m.session m.ticket (asked (settle st rs).accepted)
accepted_in m count st [] v = λ has. absurd (let within = has.1 in omega (arith, within))
accepted_in m count st (r ∷ rs) v = rw (settle_step st r rs) (elim (graph_after st.graph r.change) as (λ o. Contains (settle_by st r rs o).marks m → 0 < times m.session m.ticket (asked (settle_by st r rs o).accepted)) [
  | Ok graph ↦ λ has.
      (let later = settle (one_more st r graph) rs in
      ⊎_elim (λ same. own_time m.session m.ticket (asked_by r) (asked later.accepted) (ap (λ (x : Mark). x.session) same) (ap (λ (x : Mark). x.ticket) same))
      (λ behind. more_times m.session m.ticket (asked_by r) (asked later.accepted) (accepted_in m count (one_more st r graph) rs v behind))
      (first_or_rest _ later.marks m has))
  | Err at ↦ λ has. ⊎_elim (λ same. absurd (let e : Refused at.0 at.1 ≡ Accepted count = ap (λ (x : Mark). x.verdict) same ∙ v in cc)) (accepted_in m count st rs v) (first_or_rest _ (settle st rs).marks m has)
])
