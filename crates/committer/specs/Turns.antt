-- How the tickets of a store go with those of the requests that were taken.
use Rattle.std.specs.Prelude.{ℕ, List}
use Rattle.requests.specs.Tickets.{tickets_after}
use Rattle.requests.specs.declared.request.Request.{Request}
use Rattle.layout_2.specs.State.{asked}
use Rattle.group_commit.specs.Turns.{AreBehind}

-- with the tickets that are held, those of a store are no later than those of all that was taken
abbrev pub HoldsNoLater : List ℕ → List Request → List ℕ → List Request → Type 0
HoldsNoLater tickets held starts got = AreBehind (tickets_after tickets (asked held)) (tickets_after starts (asked got))
