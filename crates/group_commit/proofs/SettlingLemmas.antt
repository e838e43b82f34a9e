-- Settling of one list after another, and what the accepted requests lead to.
use Rattle.std.proofs.Common.{arith, refl, ap, sym, ◌∙◌, ◌≡◌, ◌≤◌, ◌+◌, ℕ, List, [], ◌∷◌, ◌++◌, length, Some, Result, Ok, Err, subst, append-nil, map, take}
use Rattle.std.proofs.lemmas.List.{take_all}
use Rattle.std.specs.Prelude.{IsSome}
use Rattle.std.specs.List.{range_with_len}
use Rattle.graph_edits.specs.declared.edits.Code.{Code}
use Rattle.graph_edits.specs.Edges.{Network}
use Rattle.graph_edits.specs.Changes.{after as graph_after, fold, fold_within}
use Rattle.requests.specs.declared.request.Request.{Request}
use Rattle.requests.specs.Requests.{asked_by}
use Rattle.requests.specs.Tickets.{raise, tickets_after}
use Rattle.layout_2.specs.State.{State, state_with, after, asked, changes_of, AreInTurn}
use Rattle.generations.specs.declared.posting.Mark.{Mark}
use Rattle.generations.specs.declared.posting.Verdict.TheVariants.{Accepted, Refused}
use Rattle.generations.specs.Notices.{told_to, counts_of}
use Rattle.group_commit.specs.Settling.{Settled, settle, accept, refuse, one_more}
use Rattle.group_commit.specs.Turns.{AreBehind}
use Rattle.group_commit.specs.Laws.{both, marked_accepted}
use Rattle.group_commit.proofs.TurnLemmas.{behind_itself, behind_both, behind_ahead, turn_behind, tickets_push}

-- settling by what the graph says of the first request
abbrev pub settle_by : State → Request → List Request → Result Network (ℕ × Code) → Settled
settle_by s r rs (Ok graph) = accept r (s.count + 1) (settle (one_more s r graph) rs)
settle_by s r rs (Err at) = refuse r at (settle s rs)

pub settle_step : (s : State) (r : Request) (rs : List Request) → settle s (r ∷ rs) ≡ settle_by s r rs (graph_after s.graph r.change)
settle_step s r rs = elim (graph_after s.graph r.change) as (λ o. elim o as (λ _. Settled) [ Ok graph ↦ accept r (s.count + 1) (settle (one_more s r graph) rs) | Err at ↦ refuse r at (settle s rs) ] ≡ settle_by s r rs o) [
  | Ok graph ↦ refl
  | Err at ↦ refl
]

pub settle-append : (s : State) (xs ys : List Request) → settle s (xs ++ ys) ≡ both (settle s xs) (settle (settle s xs).state ys)
settle-append s [] ys = refl
settle-append s (r ∷ xs) ys =
    let by : (o : Result Network (ℕ × Code)) → settle_by s r (xs ++ ys) o ≡ both (settle_by s r xs o) (settle (settle_by s r xs o).state ys) = λ o. elim o as (λ o. settle_by s r (xs ++ ys) o ≡ both (settle_by s r xs o) (settle (settle_by s r xs o).state ys)) [
      | Ok graph ↦ ap (accept r (s.count + 1)) (settle-append (one_more s r graph) xs ys)
      | Err at ↦ ap (refuse r at) (settle-append s xs ys)
    ] in
    rw (settle_step s r (xs ++ ys), settle_step s r xs) (by (graph_after s.graph r.change))

-- the accepted requests lead to the graph
pub graphs_lead : (s : State) (rs : List Request) → fold s.graph (changes_of (settle s rs).accepted) ≡ Some (settle s rs).state.graph
graphs_lead s [] = refl
graphs_lead s (r ∷ rs) =
    let by : (o : Result Network (ℕ × Code)) → graph_after s.graph r.change ≡ o → fold s.graph (changes_of (settle_by s r rs o).accepted) ≡ Some (settle_by s r rs o).state.graph = λ o. elim o as (λ o. graph_after s.graph r.change ≡ o → fold s.graph (changes_of (settle_by s r rs o).accepted) ≡ Some (settle_by s r rs o).state.graph) [
      | Ok graph ↦ λ e. rw (e, fold_within) (graphs_lead (one_more s r graph) rs)
      | Err at ↦ λ e. graphs_lead s rs
    ] in
    rw (settle_step s r rs) (by (graph_after s.graph r.change) refl)

-- the count rises by one with each request that is accepted
pub settled_count : (s : State) (rs : List Request) → (settle s rs).state.count ≡ s.count + length (settle s rs).accepted
settled_count s [] = omega arith
settled_count s (r ∷ rs) =
    let by : (o : Result Network (ℕ × Code)) → (settle_by s r rs o).state.count ≡ s.count + length (settle_by s r rs o).accepted = λ o. elim o as (λ o. (settle_by s r rs o).state.count ≡ s.count + length (settle_by s r rs o).accepted) [
      | Ok graph ↦ let rest = settled_count (one_more s r graph) rs in omega arith
      | Err at ↦ settled_count s rs
    ] in
    rw (settle_step s r rs) (by (graph_after s.graph r.change))

-- the last tickets go on by the accepted requests
pub settled_tickets : (s : State) (rs : List Request) → (settle s rs).state.tickets ≡ tickets_after s.tickets (asked (settle s rs).accepted)
settled_tickets s [] = refl
settled_tickets s (r ∷ rs) =
    let by : (o : Result Network (ℕ × Code)) → (settle_by s r rs o).state.tickets ≡ tickets_after s.tickets (asked (settle_by s r rs o).accepted) = λ o. elim o as (λ o. (settle_by s r rs o).state.tickets ≡ tickets_after s.tickets (asked (settle_by s r rs o).accepted)) [
      | Ok graph ↦ settled_tickets (one_more s r graph) rs
      | Err at ↦ settled_tickets s rs
    ] in
    rw (settle_step s r rs) (by (graph_after s.graph r.change))

-- there are no more accepted requests than requests
pub accepted_few : (s : State) (rs : List Request) → length (settle s rs).accepted ≤ length rs
accepted_few s [] = omega arith
accepted_few s (r ∷ rs) =
    let by : (o : Result Network (ℕ × Code)) → length (settle_by s r rs o).accepted ≤ length (r ∷ rs) = λ o. elim o as (λ o. length (settle_by s r rs o).accepted ≤ length (r ∷ rs)) [
      | Ok graph ↦ let rest = accepted_few (one_more s r graph) rs in omega arith
      | Err at ↦ let rest = accepted_few s rs in omega arith
    ] in
    rw (settle_step s r rs) (by (graph_after s.graph r.change))

-- the accepted requests lead to the state
pub accepted_lead : (s : State) (rs : List Request) → after s (settle s rs).accepted ≡ Some (settle s rs).state
accepted_lead s rs =
    rw (graphs_lead s rs) (λ i. Some (state_with (sym (settled_count s rs) i) (settle s rs).state.graph (sym (settled_tickets s rs) i)))

-- the accepted requests are in turn from last tickets behind those from which all are, and the last tickets stay behind
pub turn_of_accepted : (s : State) (us : List ℕ) (rs : List Request) → AreBehind s.tickets us → AreInTurn us rs
    → AreInTurn s.tickets (settle s rs).accepted × AreBehind (settle s rs).state.tickets (tickets_after us (asked rs))
turn_of_accepted s us [] behind turn = ((tt, tt), behind)
turn_of_accepted s us (r ∷ rs) behind turn =
    let own : AreInTurn s.tickets (r ∷ rs) = turn_behind s.tickets us (r ∷ rs) behind turn in
    let by : (o : Result Network (ℕ × Code)) → AreInTurn s.tickets (settle_by s r rs o).accepted × AreBehind (settle_by s r rs o).state.tickets (tickets_after us (asked (r ∷ rs))) = λ o. elim o as (λ o. AreInTurn s.tickets (settle_by s r rs o).accepted × AreBehind (settle_by s r rs o).state.tickets (tickets_after us (asked (r ∷ rs)))) [
      | Ok graph ↦
          let rest = turn_of_accepted (one_more s r graph) (raise us (asked_by r)) rs (behind_both s.tickets us r.session r.ticket behind) (turn.0.2, turn.1.1) in
          (((own.0.0, own.0.1, rest.0.0), (own.1.0, rest.0.1)), rest.1)
      | Err at ↦ turn_of_accepted s (raise us (asked_by r)) rs (behind_ahead s.tickets us r.session r.ticket behind turn.0.1) (turn.0.2, turn.1.1)
    ] in
    rw (settle_step s r rs) (by (graph_after s.graph r.change))

-- of requests in turn the accepted ones are
pub accepted_in_turn : (s : State) (rs : List Request) → AreInTurn s.tickets rs → AreInTurn s.tickets (settle s rs).accepted
accepted_in_turn s rs turn = (turn_of_accepted s s.tickets rs (behind_itself s.tickets) turn).0

-- requests in turn from last tickets ahead are in turn here, and the last tickets stay behind
pub stay_behind : (s : State) (us : List ℕ) (rs : List Request) → AreBehind s.tickets us → AreInTurn us rs
    → AreInTurn s.tickets rs × AreBehind (settle s rs).state.tickets (tickets_after us (asked rs))
stay_behind s us rs behind turn = (turn_behind s.tickets us rs behind turn, (turn_of_accepted s us rs behind turn).1)

-- settlings that say the same are one
pub same_settled : (t u : Settled) → t.marks ≡ u.marks → t.accepted ≡ u.accepted → t.state.count ≡ u.state.count → t.state.graph ≡ u.state.graph → t.state.tickets ≡ u.state.tickets → t ≡ u
same_settled t u marks accepted count graph tickets = λ i. record { marks = marks i; accepted = accepted i; state = state_with (count i) (graph i) (tickets i) }

-- a request more at the end, which the graph takes
pub accepts_last : (s : State) (rs : List Request) (r : Request) (t u : Settled) (mark : Mark) (copy : Request) → settle s rs ≡ t → graph_after t.state.graph r.change ≡ Ok u.state.graph
    → mark ≡ record { session = r.session; ticket = r.ticket; verdict = Accepted (t.state.count + 1) } → copy ≡ r
    → u.marks ≡ t.marks ++ mark ∷ [] → u.accepted ≡ t.accepted ++ copy ∷ [] → u.state.count ≡ t.state.count + 1
    → t.state.tickets ≡ tickets_after s.tickets (asked t.accepted) → u.state.tickets ≡ tickets_after s.tickets (asked u.accepted)
    → settle s (rs ++ r ∷ []) ≡ u
accepts_last s rs r t u mark copy is takes mark_is copy_is marks accepted count before then =
    let next : Settled = accept r (t.state.count + 1) (settle (one_more t.state r u.state.graph) []) in
    let last : settle t.state (r ∷ []) ≡ next = rw (settle_step t.state r [], takes) refl in
    let whole : settle s (rs ++ r ∷ []) ≡ both t next = settle-append s rs (r ∷ []) ∙ rw (is, last) refl in
    let marks_are : t.marks ++ record { session = r.session; ticket = r.ticket; verdict = Accepted (t.state.count + 1) } ∷ [] ≡ u.marks = ap (λ m. t.marks ++ m ∷ []) (sym mark_is) ∙ sym marks in
    let accepted_are : t.accepted ++ r ∷ [] ≡ u.accepted = ap (λ c. t.accepted ++ c ∷ []) (sym copy_is) ∙ sym accepted in
    let tickets_are : raise t.state.tickets (asked_by r) ≡ u.state.tickets =
    ap (λ (ts : List ℕ). raise ts (asked_by r)) before ∙ (sym (tickets_push s.tickets t.accepted r) ∙ (ap (λ (rs : List Request). tickets_after s.tickets (asked rs)) accepted_are ∙ sym then)) in
    whole ∙ same_settled (both t next) u marks_are accepted_are (sym count) refl tickets_are

-- a request more at the end, which the graph refuses
pub refuses_last : (s : State) (rs : List Request) (r : Request) (t u : Settled) (at : ℕ × Code) (mark : Mark) → settle s rs ≡ t → graph_after t.state.graph r.change ≡ Err at
    → mark ≡ record { session = r.session; ticket = r.ticket; verdict = Refused at.0 at.1 }
    → u.marks ≡ t.marks ++ mark ∷ [] → u.accepted ≡ t.accepted → u.state ≡ t.state
    → settle s (rs ++ r ∷ []) ≡ u
refuses_last s rs r t u at mark is takes mark_is marks accepted state =
    let next : Settled = refuse r at (settle t.state []) in
    let last : settle t.state (r ∷ []) ≡ next = rw (settle_step t.state r [], takes) refl in
    let whole : settle s (rs ++ r ∷ []) ≡ both t next = settle-append s rs (r ∷ []) ∙ rw (is, last) refl in
    let marks_are : t.marks ++ record { session = r.session; ticket = r.ticket; verdict = Refused at.0 at.1 } ∷ [] ≡ u.marks = ap (λ m. t.marks ++ m ∷ []) (sym mark_is) ∙ sym marks in
    let accepted_are : t.accepted ++ [] ≡ u.accepted = append-nil t.accepted ∙ sym accepted in
    whole ∙ same_settled (both t next) u marks_are accepted_are (ap (λ (w : State). w.count) (sym state)) (ap (λ (w : State). w.graph) (sym state)) (ap (λ (w : State). w.tickets) (sym state))

-- the graph takes the accepted requests
pub takes_accepted : (s : State) (rs : List Request) → IsSome (fold s.graph (changes_of (settle s rs).accepted))
takes_accepted s rs = subst IsSome (sym (graphs_lead s rs)) refl

-- each request has one mark, in their order
pub one_mark_each : (s : State) (rs : List Request) → map told_to (settle s rs).marks ≡ map asked_by rs
one_mark_each s [] = refl
one_mark_each s (r ∷ rs) =
    let by : (o : Result Network (ℕ × Code)) → map told_to (settle_by s r rs o).marks ≡ map asked_by (r ∷ rs) = λ o. elim o as (λ o. map told_to (settle_by s r rs o).marks ≡ map asked_by (r ∷ rs)) [
      | Ok graph ↦ ap (λ rest. asked_by r ∷ rest) (one_mark_each (one_more s r graph) rs)
      | Err at ↦ ap (λ rest. asked_by r ∷ rest) (one_mark_each s rs)
    ] in
    rw (settle_step s r rs) (by (graph_after s.graph r.change))

-- the accepted requests are those whose marks say so
pub accepted_as_marked : (s : State) (rs : List Request) → (settle s rs).accepted ≡ marked_accepted rs (settle s rs).marks
accepted_as_marked s [] = refl
accepted_as_marked s (r ∷ rs) =
    let by : (o : Result Network (ℕ × Code)) → (settle_by s r rs o).accepted ≡ marked_accepted (r ∷ rs) (settle_by s r rs o).marks = λ o. elim o as (λ o. (settle_by s r rs o).accepted ≡ marked_accepted (r ∷ rs) (settle_by s r rs o).marks) [
      | Ok graph ↦ ap (λ (rest : List Request). r ∷ rest) (accepted_as_marked (one_more s r graph) rs)
      | Err at ↦ accepted_as_marked s rs
    ] in
    rw (settle_step s r rs) (by (graph_after s.graph r.change))

-- the counts go on from the state's
pub counts_go_on : (s : State) (rs : List Request) → counts_of (settle s rs).marks ≡ range_with_len (s.count + 1) (length (settle s rs).accepted)
counts_go_on s [] = refl
counts_go_on s (r ∷ rs) =
    let by : (o : Result Network (ℕ × Code)) → counts_of (settle_by s r rs o).marks ≡ range_with_len (s.count + 1) (length (settle_by s r rs o).accepted) = λ o. elim o as (λ o. counts_of (settle_by s r rs o).marks ≡ range_with_len (s.count + 1) (length (settle_by s r rs o).accepted)) [
      | Ok graph ↦ ap (λ rest. (s.count + 1) ∷ rest) (counts_go_on (one_more s r graph) rs)
      | Err at ↦ counts_go_on s rs
    ] in
    rw (settle_step s r rs) (by (graph_after s.graph r.change))

-- what is settled of the first requests is settled of all, where there are no more
pub all_settled : (s : State) (rs : List Request) (n : ℕ) (t : Settled) → settle s (take n rs) ≡ t → length rs ≤ n → settle s rs ≡ t
all_settled s rs n t is all = ap (settle s) (sym (take_all n rs all)) ∙ is
