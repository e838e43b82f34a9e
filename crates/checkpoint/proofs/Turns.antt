-- Requests in turn, and the last tickets that they leave.
use Rattle.std.proofs.Common.{◌≡◌, ℕ, zero, suc, ◌+◌, ◌≤◌, List, [], ◌∷◌, ◌++◌, length, set, Option, Some, None, sym, ap, ◌∙◌, subst}
use Rattle.std.specs.List.{AllByRecursion}
use Rattle.std.specs.Option.{option_map}
use Rattle.std.proofs.lemmas.List.{append-nil, map-append}
use Rattle.std.proofs.lemmas.List.Concat.{flat_map-append, flat_map-cons}
use Rattle.graph_edits.specs.Edges.{Network}
use Rattle.graph_edits.specs.Changes.{fold}
use Rattle.requests.specs.Tickets.{Rises, tickets_after, raise}
use Rattle.requests.specs.Requests.{asked_by}
use Rattle.requests.proofs.TicketLemmas.{rises_both, stays_wide}
use Rattle.layout_2.specs.Layout.{worn_limit}
use Rattle.layout_2.specs.Records.{Entry, entries_of}
use Rattle.layout_2.specs.State.{State, state_with, changes_of, asked, after, AreInTurn, AreTickets}
use Rattle.layout_reader.proofs.Results.{some_is}

-- ---- the last tickets after requests

pub after_tickets : (s t : State) (requests : List Entry) → after s requests ≡ Some t → t.tickets ≡ tickets_after s.tickets (asked requests)
after_tickets s t requests is = by (fold s.graph (changes_of requests)) is
  where
    made : Network → State
    made graph = state_with (s.count + length requests) graph (tickets_after s.tickets (asked requests))

    by : (o : Option Network) → option_map made o ≡ Some t → t.tickets ≡ tickets_after s.tickets (asked requests)
    by None e = absurd cc
    by (Some g) e = ap (λ (u : State). u.tickets) (sym (some_is (made g) t e))

abbrev Fit : List ℕ → Type 0
Fit tickets = AllByRecursion (λ ticket. ticket ≤ worn_limit) tickets

set_fits : (ts : List ℕ) (i v : ℕ) → Fit ts → v ≤ worn_limit → Fit (set ts i v)
set_fits [] i v fit le = tt
set_fits (t ∷ ts) zero v fit le = (le, fit.1)
set_fits (t ∷ ts) (suc i) v fit le = (fit.0, set_fits ts i v fit.1 le)

after_fits : (ts : List ℕ) (requests : List Entry) → Fit ts → AllByRecursion (λ r. r.ticket ≤ worn_limit) requests → Fit (tickets_after ts (asked requests))
after_fits ts [] fit low = fit
after_fits ts (r ∷ rs) fit low = after_fits (raise ts (asked_by r)) rs (set_fits ts r.session r.ticket fit low.0) low.1

-- the last tickets of a state that comes after a sound one by requests in turn
pub sound_after : (base state : State) (requests : List Entry) → after base requests ≡ Some state → AreInTurn base.tickets requests → AreTickets base.tickets → AreTickets state.tickets
sound_after base state requests is in_turn sound = subst AreTickets (sym (after_tickets base state requests is)) (record {
  wide = stays_wide base.tickets (asked requests) ∙ sound.wide;
  fit = after_fits base.tickets requests sound.fit in_turn.1;
})

-- ---- requests in parts

all_append : (P : Entry → Type 0) (xs ys : List Entry) → AllByRecursion P xs → AllByRecursion P ys → AllByRecursion P (xs ++ ys)
all_append P [] ys a b = b
all_append P (x ∷ xs) ys a b = (a.0, all_append P xs ys a.1 b)

in_turn_append : (ts : List ℕ) (xs ys : List Entry) → AreInTurn ts xs → AreInTurn (tickets_after ts (asked xs)) ys → AreInTurn ts (xs ++ ys)
in_turn_append ts xs ys a b = (
  subst (Rises ts) (sym (map-append asked_by xs ys)) (rises_both ts (asked xs) (asked ys) a.0 b.0),
  all_append (λ r. r.ticket ≤ worn_limit) xs ys a.1 b.1,
)

-- one group more
pub in_turn_push : (s t : State) (groups : List (List Entry)) (group : List Entry) → after s (entries_of groups) ≡ Some t → AreInTurn s.tickets (entries_of groups) → AreInTurn t.tickets group → AreInTurn s.tickets (entries_of (groups ++ group ∷ []))
in_turn_push s t groups group is first then =
    let all : entries_of (groups ++ group ∷ []) ≡ entries_of groups ++ group = flat_map-append (λ (g : List Entry). g) groups (group ∷ []) ∙ ap (λ (l : List Entry). entries_of groups ++ l) (flat_map-cons (λ (g : List Entry). g) group [] ∙ append-nil group) in
    subst (AreInTurn s.tickets) (sym all) (in_turn_append s.tickets (entries_of groups) group first (subst (λ (ts : List ℕ). AreInTurn ts group) (after_tickets s t (entries_of groups) is) then))
