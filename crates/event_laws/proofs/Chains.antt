-- What follows for the joined list of lives that follow one another.
use Rattle.std.proofs.Common.{◌≡◌, ⊎_elim, ◌<◌, ◌≤◌, ◌+◌, ◌-◌, ℕ, zero, suc, List, [], ◌∷◌, ◌++◌, length, take, drop, Contains, refl, sym, ap, ◌∙◌, subst, arith}
use Rattle.std.proofs.Math.Seq.{take-append_seam}
use Rattle.std.proofs.lemmas.List.{take-append-drop}
use Rattle.std.proofs.lemmas.List.Elements.{Contains-append_left}
use Rattle.std.specs.Prelude.{Some, option_and_then}
use mathlib.Core.List.{IsPrefix}
use Rattle.requests.specs.Tickets.{sessions, last_of, tickets_after, times, Rises, IsLast}
use Rattle.requests.specs.declared.request.Request.{Request}
use Rattle.requests.proofs.TicketLemmas.{at_most, last_is, none_below}
use Rattle.layout_2.specs.State.{State, after, asked, AreInTurn}
use Rattle.layout_2.proofs.Folds.{after-append, after-nil}
use Rattle.generations.specs.declared.posting.Mark.{Mark}
use Rattle.generations.specs.declared.posting.Verdict.TheVariants.{Accepted}
use Rattle.generations.specs.Notices.{marks_in}
use Rattle.generations.proofs.Prefixes.{prefix_shorter}
use Rattle.group_commit.specs.Settling.{Settled, settle}
use Rattle.group_commit.proofs.SettlingLemmas.{settle-append, accepted_lead, settled_count, settled_tickets, accepted_in_turn}
use Rattle.event_laws.specs.LaterLives.{LifeLists, let_in, settled_at, answered, IsLife, Follows, AreChained, last_life, kept, in_before, joined, HasTold, IsAcknowledged}
use Rattle.event_laws.proofs.Settled.{in_turn_first, times_in_append, after_in_append, rises_in_both, accepted_in}

-- ---- from one state to another

-- these changes rise from a state's last tickets, and lead to another one with its own
pub record Leads (s : State) (changes : List Request) (t : State) : Type 0 where
  pub rises : Rises s.tickets (asked changes)
  pub tickets : t.tickets ≡ tickets_after s.tickets (asked changes)
  pub leads : after s changes ≡ Some t

leads_both : (s t u : State) (xs ys : List Request) → Leads s xs t → Leads t ys u → Leads s (xs ++ ys) u
leads_both s t u xs ys a b = record {
  rises = rises_in_both s.tickets xs ys a.rises (subst (λ (ts : List ℕ). Rises ts (asked ys)) a.tickets b.rises);
  tickets = b.tickets ∙ (ap (λ (ts : List ℕ). tickets_after ts (asked ys)) a.tickets ∙ sym (after_in_append s.tickets xs ys));
  leads = after-append s xs ys ∙ (ap (option_and_then (λ v. after v ys)) a.leads ∙ b.leads);
}

pub last_led : (s t : State) (changes : List Request) → length s.tickets ≡ sessions → Leads s changes t → (n : ℕ) → IsLast s.tickets (asked changes) n (last_of t.tickets n)
last_led s t changes wide led n = subst (λ (ts : List ℕ). IsLast s.tickets (asked changes) n (last_of ts n)) (sym led.tickets) (last_is s.tickets (asked changes) n wide led.rises)

-- ---- one life

-- the accepted changes of the first n requests
abbrev acc : LifeLists → ℕ → List Request
acc life n = (settled_at life n).accepted

acc_leads : (life : LifeLists) → IsLife life → (n : ℕ) → Leads life.opened (acc life n) (settled_at life n).state
acc_leads life is n =
    let ts = life.opened.tickets in
    let taken : AreInTurn ts life.taken = in_turn_first ts life.taken life.waiting is.in_turn in
    let first : AreInTurn ts (take n life.taken) = in_turn_first ts (take n life.taken) (drop n life.taken) (subst (AreInTurn ts) (sym (take-append-drop n life.taken)) taken) in
    record { rises = (accepted_in_turn life.opened (take n life.taken) first).0; tickets = settled_tickets life.opened (take n life.taken); leads = accepted_lead life.opened (take n life.taken) }

-- they are the first of all that are accepted
acc_first : (life : LifeLists) (n : ℕ) → IsPrefix (acc life n) (settle life.opened life.taken).accepted
acc_first life n = (
  (settle (settled_at life n).state (drop n life.taken)).accepted,
  sym (ap (λ (x : Settled). x.accepted) (settle-append life.opened (take n life.taken) (drop n life.taken))) ∙ ap (λ (l : List Request). (settle life.opened l).accepted) (take-append-drop n life.taken),
)

-- ---- what the next life opened to

next_count : (life next : LifeLists) → (is : Follows life next) → next.opened.count ≡ life.opened.count + length (acc life is.at)
next_count life next is = ap (λ (s : State). s.count) is.state ∙ settled_count life.opened (take is.at life.taken)

-- by the counts alone
kept_is : (life next : LifeLists) → (is : Follows life next) → kept life next ≡ acc life is.at
kept_is life next is =
    let first = acc_first life is.at in
    let n = next_count life next is in
    let k : next.opened.count - life.opened.count ≡ length (acc life is.at) = omega (arith, n) in
    ap (λ (i : ℕ). take i (settle life.opened life.taken).accepted) k ∙ ap (take (length (acc life is.at))) (sym first.1) ∙ take-append_seam (acc life is.at) first.0

kept_leads : (life next : LifeLists) → IsLife life → Follows life next → Leads life.opened (kept life next) next.opened
kept_leads life next is follows = subst (λ (x : List Request × State). Leads life.opened x.0 x.1) (λ i. (sym (kept_is life next follows) i, sym follows.state i)) (acc_leads life is follows.at)

-- ---- chains

pub first_life : (life : LifeLists) (rest : List LifeLists) → AreChained life rest → IsLife life
first_life life [] h = h
first_life life (next ∷ rest) h = h.0

pub last_is_life : (life : LifeLists) (rest : List LifeLists) → AreChained life rest → IsLife (last_life life rest)
last_is_life life [] h = h
last_is_life life (next ∷ rest) h = last_is_life next rest h.2

-- a beginning of a chain is one
pub chain_first : (life : LifeLists) (rest : List LifeLists) (n : ℕ) → AreChained life rest → AreChained life (take n rest)
chain_first life [] zero h = h
chain_first life [] (suc n) h = h
chain_first life (next ∷ rest) zero h = h.0
chain_first life (next ∷ rest) (suc n) h = (h.0, h.1, chain_first next rest n h.2)

-- the last life opened to what was in by then, and its store has the joined list
pub before_leads : (life : LifeLists) (rest : List LifeLists) → AreChained life rest → Leads life.opened (in_before life rest) (last_life life rest).opened
before_leads life [] h = record { rises = tt; tickets = refl; leads = after-nil life.opened }
before_leads life (next ∷ rest) h = leads_both life.opened next.opened (last_life next rest).opened (kept life next) (in_before next rest) (kept_leads life next h.0 h.1) (before_leads next rest h.2)

pub joined_leads : (life : LifeLists) (rest : List LifeLists) → AreChained life rest → Leads life.opened (joined life rest) (answered (last_life life rest)).state
joined_leads life rest h =
    let p = last_life life rest in
    leads_both life.opened p.opened (answered p).state (in_before life rest) (answered p).accepted (before_leads life rest h) (acc_leads p (last_is_life life rest h) p.done)

pub resumes : (life : LifeLists) (rest : List LifeLists) → AreChained life rest → (s : ℕ) → IsLast life.opened.tickets (asked (in_before life rest)) s (last_of (last_life life rest).opened.tickets s)
resumes life rest h = last_led life.opened (last_life life rest).opened (in_before life rest) (first_life life rest h).wide (before_leads life rest h)

-- what was in when the last life opened isn't let in again
pub let_in_new : (life : LifeLists) (rest : List LifeLists) → AreChained life rest → (s t : ℕ) → 0 < times s t (asked (in_before life rest)) → times s t (asked (let_in (last_life life rest))) ≡ 0
let_in_new life rest h s t some =
    let p = last_life life rest in
    let is = last_is_life life rest h in
    none_below p.opened.tickets (asked (let_in p)) s t is.wide is.in_turn.0 ((resumes life rest h s).greatest t some)

-- ---- acknowledged

-- what a commit answered Ok for is in what the next life opened to
answered_kept : (life next : LifeLists) → Follows life next → (s t : ℕ) → times s t (asked (acc life life.done)) ≤ times s t (asked (kept life next))
answered_kept life next is s t =
    let n = next_count life next is in
    let d = settled_count life.opened (take life.done life.taken) in
    let held = is.holds in
    let first = prefix_shorter (acc life life.done) (acc life is.at) (settle life.opened life.taken).accepted (acc_first life life.done) (acc_first life is.at) (omega (arith, n, d, held)) in
    let k = ap (λ (l : List Request). times s t (asked l)) (kept_is life next is ∙ sym first.1) ∙ times_in_append s t (acc life life.done) first.0 in
    omega (arith, k)

-- a life's own Accepted mark is of a change that its commit answered Ok for
own_ack : (life : LifeLists) → IsLife life → (s t : ℕ) → HasTold s t life → 0 < times s t (asked (acc life life.done))
own_ack life is s t a =
    let m : Mark = record { session = s; ticket = t; verdict = Accepted a.0 } in
    accepted_in m a.0 life.opened (take life.done life.taken) refl (subst (λ (ms : List Mark). Contains ms m) is.told.1 (Contains-append_left (marks_in life.posted) is.told.0 m a.1))

acked : (s t : ℕ) (life : LifeLists) (rest : List LifeLists) → AreChained life rest → IsAcknowledged s t life rest → 0 < times s t (asked (joined life rest))
acked s t life [] h a = own_ack life h s t a
acked s t life (next ∷ rest) h a =
    let p = last_life next rest in
    let front = times_in_append s t (kept life next ++ in_before next rest) (answered p).accepted in
    let parts = times_in_append s t (kept life next) (in_before next rest) in
    let tail = times_in_append s t (in_before next rest) (answered p).accepted in
    ⊎_elim
    (λ x. (let e = own_ack life h.0 s t x in let k = answered_kept life next h.1 s t in omega (arith, e, k, front, parts)))
    (λ x. (let e = acked s t next rest h.2 x in omega (arith, e, front, parts, tail)))
    a

pub acknowledged : (life : LifeLists) (rest : List LifeLists) → AreChained life rest → (s t : ℕ) → IsAcknowledged s t life rest → times s t (asked (joined life rest)) ≡ 1
acknowledged life rest h s t a =
    let x = acked s t life rest h a in
    let y = at_most life.opened.tickets (asked (joined life rest)) s t (first_life life rest h).wide (joined_leads life rest h).rises in
    omega (arith, x, y)
