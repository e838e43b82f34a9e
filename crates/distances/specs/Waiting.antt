-- The entries that wait in a search.
use Rattle.std.specs.Prelude.{◌≡◌, ◌⊎◌, ℕ, ◌+◌, ◌*◌, ◌<◌, ◌≤◌, Bool, true, false, List, [], ◌∷◌, length, Option, Some, None, IsPermutation}
use Rattle.std.specs.Ordering.{nat_cmp}
use Rattle.std.specs.declared.cmp.Ordering.{Ordering}
use Rattle.std.specs.declared.cmp.Reverse.{Reverse}
use Rattle.std.specs.List.{All, Contains}
use Rattle.std.specs.BinaryHeap.{heap_items}
use Rattle.distances.specs.declared.search.Search.{Search}
use Rattle.distances.specs.declared.search.Settled.{Settled}
use Rattle.distances.specs.Search.{HasNode, number_at, flag_at}

-- a node that waits at a distance
abbrev pub Entry : Type 0
Entry = Reverse Settled

-- the number that a node at a distance waits by: of two, the nearer has the smaller, and where two are as near the smaller node
abbrev pub waiting_key : Settled → ℕ
waiting_key s = s.distance * 65536 + s.node

-- the nearest entry is the greatest, the smaller node where two are as near
abbrev pub nearest_first : Entry → Entry → Ordering
nearest_first p q = nat_cmp (waiting_key q.0) (waiting_key p.0)

-- each entry is of a node with a number that is no greater, and each open node with a number waits at that number
pub record IsQueue (n : ℕ) (number : ℕ → Option ℕ) (done : ℕ → Bool) (waiting : List Entry) : Type 0 where
  pub entries : All (λ q. (q.0.node < n) × ((e : ℕ) × ((number q.0.node ≡ Some e) × (e ≤ q.0.distance)))) waiting
  pub waits : (y e : ℕ) → done y ≡ false → number y ≡ Some e → (q : Entry) × (Contains waiting q × (q.0.node ≡ y) × (q.0.distance ≡ e))

-- s joined the entries, or nothing did
abbrev pub IsJoined : Bool → Settled → List Entry → List Entry → Type 0
IsJoined true s before after = (q : Entry) × ((q.0 ≡ s) × IsPermutation (q ∷ before) after)
IsJoined false s before after = after ≡ before

-- an entry of the node waits
abbrev pub Waits : ℕ → List Entry → Type 0
Waits y waiting = (q : Entry) × (Contains waiting q × (q.0.node ≡ y))

-- whatever a search has touched stands in the order or waits: each node with a number, and each whose flag stands
pub record IsTracked (n : ℕ) (number : ℕ → Option ℕ) (done : ℕ → Bool) (order : List Settled) (waiting : List Entry) : Type 0 where
  pub numbered : (y e : ℕ) → number y ≡ Some e → HasNode y order ⊎ Waits y waiting
  pub flagged : (y : ℕ) → done y ≡ true → HasNode y order
  pub listed : All (λ s. s.node < n) order
  pub entries : All (λ q. q.0.node < n) waiting

-- a search in a graph of n nodes: each of its lists has a place for each node
pub record HasNodes (n : ℕ) (search : Search) : Type 0 where
  pub tentative : length search.tentative.items ≡ n
  pub settled : length search.settled.items ≡ n
  pub arrivals : length search.arrivals.items ≡ n

-- a search that has left nothing: no number, no flag, no node in the order and none that waits
pub record IsClean (search : Search) : Type 0 where
  pub places : HasNodes (length search.tentative.items) search
  pub none_numbered : (y : ℕ) → number_at search.tentative.items y ≡ None
  pub none_flagged : (y : ℕ) → flag_at search.settled.items y ≡ false
  pub none_listed : search.order.items ≡ []
  pub none_waits : heap_items search.waiting ≡ []
