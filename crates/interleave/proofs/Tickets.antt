-- The tickets of a world: a request that waits may be given to the desk.
use Rattle.std.proofs.Common.{◌≡◌, ◌<◌, ◌≤◌, ℕ, suc, List, [], ◌∷◌, ◌++◌, length, take, drop, set, get_or, replicate, Option, Some, None, slice_get, refl, sym, ap, ◌∙◌, subst, arith, ⊎_elim}
use Rattle.std.specs.Option.{unwrap_or}
use Rattle.std.proofs.Math.Seq.{drop-cons}
use Rattle.std.proofs.lemmas.List.{take-append-drop, take-take}
use Rattle.std.proofs.lemmas.Option.{slice_get_read}
use Rattle.graph_edits.specs.declared.edits.Op.{Op}
use Rattle.requests.specs.declared.request.Request.{Request}
use Rattle.requests.specs.Tickets.{sessions, last_of, raise, tickets_after}
use Rattle.requests.specs.Requests.{asked_by}
use Rattle.requests.proofs.TicketLemmas.{either_same}
use Rattle.layout_2.specs.State.{State, asked, IsNext, AreInTurn}
use Rattle.generations.specs.Boards.{BoardState}
use Rattle.group_commit.specs.Laws.{TicketsStayBehind}
use Rattle.group_commit.specs.Settling.{settle}
use Rattle.group_commit.specs.Turns.{AreBehind}
use Rattle.group_commit.proofs.TurnLemmas.{behind_at, behind_both, last_own, last_other}
use Rattle.intake.specs.declared.outcome.SubmitRefused.{SubmitRefused}
use Rattle.intake.specs.Outcomes.{refusal_on}
use Rattle.event_model.specs.declared.session.Session.{Session}
use Rattle.event_model.specs.Machines.{Machine, board_at, fresh_session}
use Rattle.event_laws.specs.Submits.{IsLastOf}
use Rattle.event_laws.proofs.Every.{set_at, get_other}
use Rattle.event_laws.proofs.Listing.{know_first}
use Rattle.event_laws.proofs.Settled.{after_in_append, in_turn_first}
use Rattle.interleave.specs.Stores.{AreLasts}

-- ---- requests in turn, in parts

-- what was taken is what is settled and what is held
pub taken_parts : {A : Type 0} (d t : ℕ) (l : List A) → d ≤ t → take t l ≡ take d l ++ drop d (take t l)
taken_parts d t l h = sym (take-append-drop d (take t l)) ∙ ap (λ r. r ++ drop d (take t l)) (take-take d t l h)

turn_rest : (ts : List ℕ) (xs ys : List Request) → AreInTurn ts (xs ++ ys) → AreInTurn (tickets_after ts (asked xs)) ys
turn_rest ts [] ys h = h
turn_rest ts (x ∷ xs) ys h = turn_rest (raise ts (asked_by x)) xs ys (h.0.2, h.1.1)

turn_take : (ts : List ℕ) (n : ℕ) (l : List Request) → AreInTurn ts l → AreInTurn ts (take n l)
turn_take ts n l h = in_turn_first ts (take n l) (drop n l) (subst (λ (r : List Request). AreInTurn ts r) (sym (take-append-drop n l)) h)

behind_after : (ts us : List ℕ) (ps : List (ℕ × ℕ)) → AreBehind ts us → AreBehind (tickets_after ts ps) (tickets_after us ps)
behind_after ts us [] h = h
behind_after ts us (p ∷ ps) h = behind_after (raise ts p) (raise us p) ps (behind_both ts us p.0 p.1 h)

-- ---- taking

-- the request that waits first may be given
pub next_here : (tickets starts : List ℕ) (l held : List Request) (done taken : ℕ) (r : Request) → AreInTurn starts l → AreBehind tickets (tickets_after starts (asked (take done l))) → held ≡ drop done (take taken l)
    → done ≤ taken → taken < length l → r ≡ get_or l taken r → IsNext (tickets_after tickets (asked held)) r
next_here tickets starts l held done taken r turn behind split le lt is =
    let now = tickets_after tickets (asked held) in
    let then = tickets_after starts (asked (take taken l)) in
    let rest : drop taken l ≡ r ∷ drop (suc taken) l = drop-cons l taken r lt ∙ ap (λ (x : Request). x ∷ drop (suc taken) l) (sym is) in
    let whole : AreInTurn starts (take taken l ++ (r ∷ drop (suc taken) l)) =
    subst (λ (x : List Request). AreInTurn starts x) (sym (take-append-drop taken l) ∙ ap (λ (x : List Request). take taken l ++ x) rest) turn in
    let next = turn_rest starts (take taken l) (r ∷ drop (suc taken) l) whole in
    let all : tickets_after (tickets_after starts (asked (take done l))) (asked held) ≡ then =
    sym (after_in_append starts (take done l) held) ∙ ap (λ (x : List Request). tickets_after starts (asked x)) (ap (λ (x : List Request). take done l ++ x) split ∙ sym (taken_parts done taken l le)) in
    let no_later = behind_at now then r.session (subst (λ (x : List ℕ). AreBehind now x) all (behind_after tickets (tickets_after starts (asked (take done l))) (asked held) behind)) in
    let above = next.0.1 in
    (next.0.0, omega (arith, no_later, above), next.1.0)

-- ---- committing

-- after a commit that was answered Ok, the store has no later ticket than all that was taken
pub won_behind : (law : TicketsStayBehind) (state : State) (starts : List ℕ) (l held : List Request) (done taken : ℕ) → AreInTurn starts l → AreBehind state.tickets (tickets_after starts (asked (take done l))) → held ≡ drop done (take taken l)
    → done ≤ taken → AreBehind (settle state held).state.tickets (tickets_after starts (asked (take taken l)))
won_behind law state starts l held done taken turn behind split le =
    let parts : take taken l ≡ take done l ++ held = taken_parts done taken l le ∙ ap (λ (x : List Request). take done l ++ x) (sym split) in
    let whole : AreInTurn starts (take done l ++ held) = subst (λ (x : List Request). AreInTurn starts x) parts (turn_take starts taken l turn) in
    let stays = law state (tickets_after starts (asked (take done l))) held behind (turn_rest starts (take done l) held whole) in
    subst (λ (x : List ℕ). AreBehind (settle state held).state.tickets x) (sym (after_in_append starts (take done l) held) ∙ ap (λ (x : List Request). tickets_after starts (asked x)) (sym parts)) stays.1

-- ---- submitting

-- what was read of a session, and of the board that it sees, lets a request in
pub lets_in_as_read : (m : Machine) (r : Request) (x : Session) (board : BoardState) (start : ℕ) (refused : Option SubmitRefused) → r.session < length m.sessions → x ≡ get_or m.sessions r.session x
    → board ≡ board_at m x.seen → start ≡ last_of m.starts r.session → refused ≡ refusal_on board r.session start x.last r.ticket → refused ≡ None
    → (slice_get m.sessions r.session ≡ Some x) × (refusal_on (board_at m x.seen) r.session (last_of m.starts r.session) x.last r.ticket ≡ None)
lets_in_as_read m r x board start refused within is sees starts answered none =
    let by : BoardState → ℕ → Option SubmitRefused = λ b k. refusal_on b r.session k x.last r.ticket in (
      slice_get_read m.sessions (length m.sessions) r.session x refl within is,
      ap (λ b. by b (last_of m.starts r.session)) (sym sees) ∙ ap (by board) (sym starts) ∙ sym answered ∙ none,
    )

-- the requests with one more, whose change is a copy
pub with_copy : (old new : List Request) (r : Request) (copy : List Op) → new ≡ old ++ record r { change = copy } ∷ [] → copy ≡ r.change → new ≡ old ++ r ∷ []
with_copy old new r copy is same = is ∙ ap (λ (change : List Op). old ++ record r { change = change } ∷ []) same

-- one session is written, which has the last ticket of its own, and no other has a later one
lasts_set : (starts : List ℕ) (old new : List Request) (xs : List Session) (i : ℕ) (y : Session) → AreLasts starts old xs → IsLastOf starts new i y.last
    → ((s : ℕ) → (i ≡ s → ⊥) → last_of (tickets_after starts (asked new)) s ≡ last_of (tickets_after starts (asked old)) s) → AreLasts starts new (set xs i y)
lasts_set starts old new xs i y lasts own others s x at = ⊎_elim
    (λ same.
    let is : y ≡ x = set_at xs i y x (ap (slice_get (set xs i y)) same ∙ at) in
    subst (λ (p : ℕ × Session). IsLastOf starts new p.0 p.1.last) (λ j. (same j, is j)) own)
    (λ other. lasts s x (sym (get_other xs s i y (λ e. other (sym e))) ∙ at) ∙ sym (others s other))
    (either_same i s)

-- a session that is let in has its last ticket
pub let_in_lasts : (starts : List ℕ) (l : List Request) (xs : List Session) (y : Session) (r : Request) → length starts ≡ sessions → AreLasts starts l xs → r.session < sessions → y.last ≡ Some r.ticket
    → AreLasts starts (l ++ r ∷ []) (set xs r.session y)
let_in_lasts starts l xs y r wide lasts here own =
    lasts_set starts l (l ++ r ∷ []) xs r.session y lasts (ap (λ o. unwrap_or o (last_of starts r.session)) own ∙ sym (last_own starts l r r.session wide here refl)) (last_other starts l r)

-- a session that looks asks for nothing
pub look_lasts : (starts : List ℕ) (l : List Request) (xs : List Session) (i : ℕ) (x y : Session) → AreLasts starts l xs → slice_get xs i ≡ Some x → y.last ≡ x.last → AreLasts starts l (set xs i y)
look_lasts starts l xs i x y lasts there own = lasts_set starts l l xs i y lasts (ap (λ o. unwrap_or o (last_of starts i)) own ∙ lasts i x there) (λ s other. refl)

-- before any asks
pub fresh_lasts : (starts : List ℕ) (n : ℕ) → AreLasts starts [] (replicate n fresh_session)
fresh_lasts starts n s x at = ap (λ o. unwrap_or o (last_of starts s)) (know_first n s x at).1
