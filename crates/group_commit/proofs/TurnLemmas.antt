-- Requests in turn, and last tickets that stay behind others.
use Rattle.std.proofs.Common.{arith, refl, ap, sym, ◌∙◌, ◌≡◌, ◌≤◌, ◌<◌, ◌+◌, ℕ, zero, suc, List, [], ◌∷◌, ◌++◌, length, take, get_or, set, subst}
use Rattle.std.proofs.lemmas.List.{take_more}
use Rattle.requests.specs.declared.request.Request.{Request}
use Rattle.requests.specs.Tickets.{sessions, last_of, raise, tickets_after}
use Rattle.requests.specs.Requests.{asked_by}
use Rattle.requests.proofs.TicketLemmas.{raised, other_at, after_wide}
use Rattle.layout_2.specs.State.{asked, IsNext, AreInTurn}
use Rattle.group_commit.specs.Turns.{AreBehind}

-- last tickets are behind themselves
pub behind_itself : (ts : List ℕ) → AreBehind ts ts
behind_itself [] = tt
behind_itself (t ∷ ts) = (omega arith, behind_itself ts)

-- no session's last ticket is above the one ahead
pub behind_at : (ts us : List ℕ) (s : ℕ) → AreBehind ts us → last_of ts s ≤ last_of us s
behind_at [] [] s h = omega arith
behind_at [] (u ∷ us) s h = absurd h
behind_at (t ∷ ts) [] s h = absurd h
behind_at (t ∷ ts) (u ∷ us) zero h = h.0
behind_at (t ∷ ts) (u ∷ us) (suc s) h = behind_at ts us s h.1

-- both get the same ticket
pub behind_both : (ts us : List ℕ) (i v : ℕ) → AreBehind ts us → AreBehind (set ts i v) (set us i v)
behind_both [] [] i v h = tt
behind_both [] (u ∷ us) i v h = absurd h
behind_both (t ∷ ts) [] i v h = absurd h
behind_both (t ∷ ts) (u ∷ us) zero v h = (omega arith, h.1)
behind_both (t ∷ ts) (u ∷ us) (suc i) v h = (h.0, behind_both ts us i v h.1)

-- the one ahead gets a later ticket
pub behind_ahead : (ts us : List ℕ) (i v : ℕ) → AreBehind ts us → last_of us i < v → AreBehind ts (set us i v)
behind_ahead [] [] i v h lt = tt
behind_ahead [] (u ∷ us) i v h lt = absurd h
behind_ahead (t ∷ ts) [] i v h lt = absurd h
behind_ahead (t ∷ ts) (u ∷ us) zero v h lt = (let le = h.0 in omega (arith, le, lt), h.1)
behind_ahead (t ∷ ts) (u ∷ us) (suc i) v h lt = (h.0, behind_ahead ts us i v h.1 lt)

-- requests in turn are in turn from last tickets that are behind
pub turn_behind : (ts us : List ℕ) (rs : List Request) → AreBehind ts us → AreInTurn us rs → AreInTurn ts rs
turn_behind ts us [] behind turn = (tt, tt)
turn_behind ts us (r ∷ rs) behind turn =
    let rest = turn_behind (raise ts (asked_by r)) (raise us (asked_by r)) rs (behind_both ts us r.session r.ticket behind) (turn.0.2, turn.1.1) in
    let at = behind_at ts us r.session behind in
    let above = turn.0.1 in
    ((turn.0.0, omega (arith, at, above), rest.0), (turn.1.0, rest.1))

-- one request more
pub turn_push : (ts : List ℕ) (rs : List Request) (r : Request) → AreInTurn ts rs → IsNext (tickets_after ts (asked rs)) r → AreInTurn ts (rs ++ r ∷ [])
turn_push ts [] r turn next = ((next.0, next.1, tt), (next.2, tt))
turn_push ts (x ∷ rs) r turn next =
    let rest = turn_push (raise ts (asked_by x)) rs r (turn.0.2, turn.1.1) next in
    ((turn.0.0, turn.0.1, rest.0), (turn.1.0, rest.1))

-- the last tickets after one request more
pub tickets_push : (ts : List ℕ) (rs : List Request) (r : Request) → tickets_after ts (asked (rs ++ r ∷ [])) ≡ raise (tickets_after ts (asked rs)) (asked_by r)
tickets_push ts [] r = refl
tickets_push ts (x ∷ rs) r = tickets_push (raise ts (asked_by x)) rs r

-- a session's last ticket after a request of its own
pub last_own : (ts : List ℕ) (rs : List Request) (r : Request) (s : ℕ) → length ts ≡ sessions → r.session < sessions → r.session ≡ s → last_of (tickets_after ts (asked (rs ++ r ∷ []))) s ≡ r.ticket
last_own ts rs r s wide here same = ap (λ (us : List ℕ). last_of us s) (tickets_push ts rs r) ∙ raised (tickets_after ts (asked rs)) (asked_by r) s (after_wide ts (asked rs) wide) here same

-- .. and after one of another session
pub last_other : (ts : List ℕ) (rs : List Request) (r : Request) (s : ℕ) → (r.session ≡ s → ⊥) → last_of (tickets_after ts (asked (rs ++ r ∷ []))) s ≡ last_of (tickets_after ts (asked rs)) s
last_other ts rs r s other = ap (λ (us : List ℕ). last_of us s) (tickets_push ts rs r) ∙ other_at (tickets_after ts (asked rs)) r.session s r.ticket (λ e. other (sym e))

-- each of requests in turn is of a session that is there
pub turn_there : (ts : List ℕ) (rs : List Request) (k : ℕ) (d : Request) → AreInTurn ts rs → k < length rs → (get_or rs k d).session < sessions
turn_there ts [] k d turn lt = absurd (omega (arith, lt))
turn_there ts (x ∷ rs) zero d turn lt = turn.0.0
turn_there ts (x ∷ rs) (suc k) d turn lt = turn_there (raise ts (asked_by x)) rs k d (turn.0.2, turn.1.1) (omega (arith, lt))

-- one more of the requests
next_is : (rs : List Request) (i : ℕ) (r : Request) → i < length rs → r ≡ get_or rs i r → take (i + 1) rs ≡ take i rs ++ r ∷ []
next_is rs i r lt is = take_more rs i r lt ∙ ap (λ (q : Request). take i rs ++ q ∷ []) (sym is)

-- one more of the requests in turn, of this session
pub step_own : (ts : List ℕ) (rs : List Request) (i : ℕ) (r : Request) (s last : ℕ) → length ts ≡ sessions → AreInTurn ts rs → i < length rs → r ≡ get_or rs i r → r.session ≡ s → last ≡ r.ticket
    → last ≡ last_of (tickets_after ts (asked (take (i + 1) rs))) s
step_own ts rs i r s last wide turn lt is same so =
    let here : r.session < sessions = subst (λ (q : Request). q.session < sessions) (sym is) (turn_there ts rs i r turn lt) in
    so ∙ sym (ap (λ (qs : List Request). last_of (tickets_after ts (asked qs)) s) (next_is rs i r lt is) ∙ last_own ts (take i rs) r s wide here same)

-- .. or of another
pub step_other : (ts : List ℕ) (rs : List Request) (i : ℕ) (r : Request) (s last : ℕ) → i < length rs → r ≡ get_or rs i r → (r.session ≡ s → ⊥) → last ≡ last_of (tickets_after ts (asked (take i rs))) s
    → last ≡ last_of (tickets_after ts (asked (take (i + 1) rs))) s
step_other ts rs i r s last lt is other so = so ∙ sym (ap (λ (qs : List Request). last_of (tickets_after ts (asked qs)) s) (next_is rs i r lt is) ∙ last_other ts (take i rs) r s other)
