-- The trail of a packet: the nodes that it visits, the ports by which it goes, and how long its way is.
use Rattle.std.specs.Prelude.{◌≡◌, ℕ, ◌+◌, ◌-◌, ◌^◌, ◌⊎◌, ◌<◌, min, Result, MatchResult, Some, Ok, Err, List, [], ◌∷◌}
use Rattle.graph_edits.specs.Edges.{Network, IsSound, weight_in}
use Rattle.graph_edits.specs.Walks.{IsWalk, walk_length}
use Rattle.schemes.specs.declared.packet.Address.{Address}
use Rattle.schemes.specs.declared.packet.Packet.{Packet}
use Rattle.schemes.specs.declared.packet.Move.TheVariants.{Delivered, Forward}
use Rattle.schemes.specs.declared.packet.Refused.{Refused}
use Rattle.schemes.specs.declared.packet.Refused.TheVariants.{NoNode, Unreachable, Stray, Spent}
use Rattle.schemes.specs.declared.trail.Trail.{Trail}
use Rattle.schemes.specs.declared.trail.CarryRefused.{CarryRefused}
use Rattle.schemes.specs.declared.trail.CarryRefused.TheVariants.{NoNode as CarryNoNode, Unreachable as CarryUnreachable, Stray as CarryStray, Spent as CarrySpent, Memory as CarryMemory}
use Rattle.schemes.specs.declared.parts.Parts.{Parts}
use Rattle.schemes.specs.Tables.{Tables, tables}
use Rattle.schemes.specs.Checks.{distance_of, IsChecked}
use Rattle.schemes.specs.Service.{address, decide, node_step, one_less, IsGoodTrip, LeadAlong}

-- how much the distances of x and y from the root r differ
abbrev pub gap : Tables → ℕ → ℕ → ℕ → ℕ
gap t r x y = (distance_of (t.entry x r) - distance_of (t.entry y r)) + (distance_of (t.entry y r) - distance_of (t.entry x r))

-- each hop from x over the nodes of the list is an edge as long as the distances of its ends differ
abbrev pub AreMeasured : Network → Tables → ℕ → ℕ → List ℕ → Type 0
AreMeasured m t r x [] = Unit {0}
AreMeasured m t r x (y ∷ rest) = (weight_in m x y ≡ Some (gap t r x y)) × AreMeasured m t r y rest

-- the sum of these differences
abbrev pub length_along : Tables → ℕ → ℕ → List ℕ → ℕ
length_along t r x [] = 0
length_along t r x (y ∷ rest) = gap t r x y + length_along t r y rest

-- From x the packet goes over the nodes of the first list by the ports of the second, as the node steps say, and comes to
-- stand at a node as what is left of it.
abbrev pub Goes : Tables → ℕ → List ℕ → List ℕ → Packet → ℕ → Packet → Type 0
Goes t x [] [] k at left = (x ≡ at) × (k ≡ left)
Goes t x [] (q ∷ qs) k at left = ⊥
Goes t x (y ∷ ys) [] k at left = ⊥
Goes t x (y ∷ ys) (q ∷ qs) k at left = (node_step t x k ≡ Ok (Forward q y (one_less k))) × Goes t y ys qs (one_less k) at left

-- The packet that u sends to an address has gone along a trail, and stands at a node. A length past a u64 stays at its greatest.
pub record IsUnderWay (t : Tables) (u : ℕ) (a : Address) (nodes ports : List ℕ) (length at : ℕ) (left : Packet) : Type 0 where
  pub sent : Packet
  pub decided : decide t u a ≡ Ok sent
  pub rest : List ℕ
  pub starts : nodes ≡ u ∷ rest
  pub goes : Goes t u rest ports sent at left
  pub same_root : left.root ≡ sent.root
  pub long : length ≡ min (length_along t sent.root u rest) (2 ^ 64 - 1)

-- the trail of the packet that u sends to an address, to where it is delivered
pub record IsTrailOf (t : Tables) (u : ℕ) (a : Address) (trail : Trail) : Type 0 where
  pub at : ℕ
  pub left : Packet
  pub under_way : IsUnderWay t u a trail.nodes.items trail.ports.items trail.length at left
  pub delivered : node_step t at left ≡ Ok Delivered

-- u refuses to send, or a node on the way refuses to carry on
abbrev pub IsRefusedOnWay : Tables → ℕ → Address → Refused → Type 0
IsRefusedOnWay t u a e =
    (decide t u a ≡ Err e)
    ⊎ ((nodes : List ℕ) × ((ports : List ℕ) × ((length : ℕ) × ((at : ℕ) × ((left : Packet) × (IsUnderWay t u a nodes ports length at left × (node_step t at left ≡ Err e)))))))

-- a refusal of a scheme, as `carry` answers it
abbrev pub as_carried : Refused → CarryRefused
as_carried NoNode = CarryNoNode
as_carried Unreachable = CarryUnreachable
as_carried Stray = CarryStray
as_carried Spent = CarrySpent

-- there was no memory, or u or a node on the way refuses as a scheme does
abbrev pub IsCarryRefusal : Tables → ℕ → Address → CarryRefused → Type 0
IsCarryRefusal t u a e = (e ≡ CarryMemory) ⊎ ((r : Refused) × ((e ≡ as_carried r) × IsRefusedOnWay t u a r))

-- the trail is a good trip from u to v with its ports and its length
pub record IsGoodTrail (m : Network) (u v : ℕ) (trail : Trail) : Type 0 where
  pub trip : List ℕ
  pub nodes : trail.nodes.items ≡ u ∷ trip
  pub good : IsGoodTrip m u v trip
  pub ports : LeadAlong m u trip trail.ports.items
  pub length : trail.length ≡ walk_length m.edges u trip

-- On the scheme's own address of a node that u is connected with: the good trail, or no memory for it.
abbrev pub IsCarriedWhereConnected : Parts → ℕ → Address → Result Trail CarryRefused → Type 0
IsCarriedWhereConnected p u a result = (m : Network) (v : ℕ) (xs : List ℕ) → IsSound m → IsChecked m p → u < m.nodes → v < m.nodes → a ≡ address (tables p) v
    → IsWalk m.edges u xs v → MatchResult result (λ trail. IsGoodTrail m u v trail) (λ e. e ≡ CarryMemory)

-- On the scheme's own address of a node that u isn't connected with: it's refused as not to be reached.
abbrev pub IsUnreachableWhereApart : Parts → ℕ → Address → Result Trail CarryRefused → Type 0
IsUnreachableWhereApart p u a result = (m : Network) (v : ℕ) → IsSound m → IsChecked m p → u < m.nodes → v < m.nodes → a ≡ address (tables p) v
    → ((xs : List ℕ) → IsWalk m.edges u xs v → ⊥) → result ≡ Err CarryUnreachable
