-- Requests in turn, and last tickets that stay behind others.
use Rattle.std.specs.Prelude.{◌≤◌, ℕ, List, [], ◌∷◌}
use Rattle.std.specs.List.{AllByRecursion}
use Rattle.std.specs.Coded.{×_prop, Unit-prop, le_prop}
use Rattle.requests.specs.declared.request.Request.{Request}
use Rattle.requests.specs.Tickets.{worn_limit}
use Rattle.requests.proofs.TicketLemmas.{rises_prop}
use Rattle.layout_2.specs.State.{asked, AreInTurn}

-- no last ticket is above the one that stands in its place in the second list
abbrev pub AreBehind : List ℕ → List ℕ → Type 0
AreBehind [] [] = Unit {0}
AreBehind (t ∷ ts) (u ∷ us) = (t ≤ u) × AreBehind ts us
AreBehind ts us = ⊥

-- that no ticket is past the limit is one fact
pub within_prop : (requests : List Request) → IsProp (AllByRecursion (λ r. r.ticket ≤ worn_limit) requests)
within_prop [] = Unit-prop
within_prop (r ∷ rs) =
    let fits : IsProp (r.ticket ≤ worn_limit) = le_prop in
    ×_prop fits (within_prop rs)

-- .. and so is that requests are in turn
pub in_turn_prop : (tickets : List ℕ) (requests : List Request) → IsProp (AreInTurn tickets requests)
in_turn_prop tickets requests = ×_prop (rises_prop tickets (asked requests)) (within_prop requests)
