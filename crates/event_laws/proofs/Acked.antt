-- What is acknowledged is in every state that has as many changes as the store.
use Rattle.std.proofs.Common.{◌≡◌, ⊎_elim, ◌≤◌, ◌<◌, ◌+◌, ℕ, List, ◌++◌, length, take, drop, option_to_list, Contains, sym, ap, ◌∙◌, subst, arith, length-append}
use Rattle.std.proofs.lemmas.List.{take-take, take-append-le, length-take-le, length-map}
use Rattle.std.proofs.lemmas.List.Elements.{Contains-append_left, Contains-append_cases}
use Rattle.requests.specs.Requests.{asked_by}
use Rattle.requests.specs.declared.request.Request.{Request}
use Rattle.requests.proofs.TicketLemmas.{either_way, times_none}
use Rattle.layout_2.specs.State.{State, asked}
use Rattle.generations.specs.declared.posting.Mark.{Mark}
use Rattle.generations.specs.declared.posting.Verdict.TheVariants.{Accepted}
use Rattle.generations.specs.Notices.{marks_in}
use Rattle.generations.proofs.Lawfulness.{marks_append}
use Rattle.group_commit.specs.Settling.{Settled, settle}
use Rattle.group_commit.proofs.SettlingLemmas.{settled_count}
use Rattle.request_lists.proofs.Steps.{settled_on}
use Rattle.event_model.specs.Machines.{Machine}
use Rattle.event_laws.specs.Listed.{IsListed}
use Rattle.event_laws.specs.Queues.{all_let_in, all_taken}
use Rattle.event_laws.specs.Acknowledged.{AreAcknowledged}
use Rattle.event_laws.specs.QueueLaws.{AcknowledgedAreIn, PrefixHoldsAcknowledged, AcknowledgedStay}
use Rattle.event_laws.proofs.Listing.{run_on}
use Rattle.event_laws.proofs.QueueLemmas.{asked_in_order, taken_in_order}
use Rattle.event_laws.proofs.Settled.{accepted_in}

-- requests that leave the count have no Accepted mark
none_late : (s : State) (requests : List Request) (mark : Mark) (count : ℕ) → (settle s requests).state.count ≤ s.count → mark.verdict ≡ Accepted count → Contains (settle s requests).marks mark → ⊥
none_late s requests mark count le v has =
    let some = accepted_in mark count s requests v has in
    let many = settled_count s requests in
    let none = times_none mark.session mark.ticket (asked (settle s requests).accepted) (length-map (settle s requests).accepted asked_by ∙ (omega (arith, many, le))) in
    omega (arith, some, none)

-- an Accepted mark of some requests is one of those after which the count is no less
stays_in : (first : State) (requests : List Request) (done at : ℕ) → (settle first (take done requests)).state.count ≤ (settle first (take at requests)).state.count
    → (mark : Mark) (count : ℕ) → mark.verdict ≡ Accepted count → Contains (settle first (take done requests)).marks mark → Contains (settle first (take at requests)).marks mark
stays_in first requests done at holds mark count v has =
    let settled : ℕ → Settled = λ n. settle first (take n requests) in
    ⊎_elim
    (λ (le : done ≤ at).
    let rest : Settled = settle (settled done).state (drop done (take at requests)) in
    subst (λ (t : Settled). Contains t.marks mark) (sym (settled_on first requests done at le)) (Contains-append_left (settled done).marks rest.marks mark has))
    (λ (lt : at < done).
    let behind : List Request = drop at (take done requests) in
    let whole = settled_on first requests at done (omega (arith, lt)) in
    let count_is : (settled done).state.count ≡ (settle (settled at).state behind).state.count = ap (λ (t : Settled). t.state.count) whole in
    ⊎_elim (λ early. early) (λ late. absurd (none_late (settled at).state behind mark count (omega (arith, count_is, holds)) v late))
    (Contains-append_cases (settled at).marks (settle (settled at).state behind).marks mark (subst (λ (t : Settled). Contains t.marks mark) whole has)))
    (either_way done at)

-- what is acknowledged is in every state after some requests, of which the settled ones are the first, whose count is at least the store's
is_in : (first : State) (m : Machine) (requests : List Request) (at : ℕ) → IsListed first m → take m.done requests ≡ take m.done m.asked → m.state.count ≤ (settle first (take at requests)).state.count
    → AreAcknowledged first requests at m.postings
is_in first m requests at is same holds mark count v posted =
    let state : m.state ≡ (settle first (take m.done requests)).state = is.lists.state_is ∙ ap (λ (l : List Request). (settle first l).state) (sym same) in
    let marks : marks_in m.postings ++ marks_in (option_to_list m.due) ≡ (settle first (take m.done requests)).marks =
    sym (marks_append m.postings (option_to_list m.due)) ∙ (is.lists.marks ∙ ap (λ (l : List Request). (settle first l).marks) (sym same)) in
    stays_in first requests m.done at (subst (λ (s : State). s.count ≤ (settle first (take at requests)).state.count) state holds) mark count v
    (subst (λ (l : List Mark). Contains l mark) marks (Contains-append_left (marks_in m.postings) (marks_in (option_to_list m.due)) mark posted))

-- so is it where they are those that were taken
pub acknowledged : AcknowledgedAreIn
acknowledged first m at is holds = is_in first m (take m.taken m.asked) at is (take-take m.done m.taken m.asked is.lists.started) holds

-- and so in each prefix state that holds as many
pub prefix_holds : PrefixHoldsAcknowledged
prefix_holds first m image is prefix = acknowledged first m prefix.at is prefix.holds

-- ---- over a run

-- as many were taken as sessions and tickets of what was taken
many_taken : (first : State) (m : Machine) → IsListed first m → length (asked (take m.taken m.asked)) ≡ m.taken
many_taken first m is = length-map (take m.taken m.asked) asked_by ∙ length-take-le m.taken m.asked is.lists.within

-- what was acknowledged at an earlier moment of a run is in every state that holds as many as the store did then: what was settled
-- then is the first of what is taken later
pub acknowledged_stay : AcknowledgedStay
acknowledged_stay first m events replies n at is run holds =
    let before = many_taken first m is in
    let now = many_taken first n (run_on first m events replies n is run) in
    let grown = ap length (taken_in_order first m events replies n is run) ∙ length-append (asked (take m.taken m.asked)) (all_taken replies) in
    let started = is.lists.started in
    let within = is.lists.within in
    is_in first m (take n.taken n.asked) at is
    (take-take m.done n.taken n.asked (omega (arith, started, before, now, grown))
    ∙ (ap (take m.done) (asked_in_order m events replies n run) ∙ take-append-le m.done m.asked (all_let_in events replies) (omega (arith, started, within))))
    holds
