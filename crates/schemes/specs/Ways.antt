-- Packets on their way: what is left of a trip, and that every way ends.
use Rattle.std.specs.Prelude.{◌≡◌, ◌≢◌, ◌⊎◌, ℕ, ◌+◌, ◌<◌, ◌≤◌, max, Ok, Err, List, [], ◌∷◌, ◌++◌, length}
use Rattle.graph_edits.specs.Edges.{Network}
use Rattle.schemes.specs.declared.packet.Packet.{Packet}
use Rattle.schemes.specs.declared.packet.Move.TheVariants.{Delivered, Forward}
use Rattle.schemes.specs.declared.packet.Refused.{Refused}
use Rattle.schemes.specs.Tables.{Tables}
use Rattle.schemes.specs.Service.{node_step, address, decide, Carries, LeadAlong, Arrives, Serves}

-- From x the packet went over the nodes of the list, each by the step of the node before it, and stands at a node as what
-- is left of it.
abbrev pub Went : Tables → ℕ → List ℕ → Packet → ℕ → Packet → Type 0
Went t x [] k at left = (x ≡ at) × (k ≡ left)
Went t x (y ∷ ys) k at left = (q : ℕ) × (next : Packet) × (node_step t x k ≡ Ok (Forward q y next)) × Went t y ys next at left

-- A packet from u to v's own address went over the nodes of a list: they are a beginning of the one trip on which it
-- arrives, the rest of that trip carries it on, by ports that lead along it in the network, and its next step is no refusal.
pub record IsOnCourse (m : Network) (t : Tables) (u v : ℕ) (visited : List ℕ) (at : ℕ) (left : Packet) : Type 0 where
  pub arrives : Arrives m t u v
  pub only : (other : Arrives m t u v) → other.trip ≡ arrives.trip
  pub more : List ℕ
  pub ports : List ℕ
  pub beginning : arrives.trip ≡ visited ++ more
  pub carried : Carries t at more ports left
  pub lead : LeadAlong m at more ports
  pub unrefused : (refused : Refused) → node_step t at left ≢ Err refused

-- From x the packet goes over fewer edges than there are nodes, and then a step says that it is delivered, or refuses it:
-- at most as many steps as there are nodes, and one where there is none.
pub record ComesToAnEnd (t : Tables) (x : ℕ) (k : Packet) : Type 0 where
  pub visited : List ℕ
  pub at : ℕ
  pub left : Packet
  pub went : Went t x visited k at left
  pub few : length visited + 1 ≤ max 1 t.nodes
  pub last : (node_step t at left ≡ Ok Delivered) ⊎ ((refused : Refused) × (node_step t at left ≡ Err refused))

-- where a scheme serves a network, a packet that was sent to a node's own address stays on its course
abbrev pub ServedStayOnCourse : Type 0
ServedStayOnCourse = (m : Network) (t : Tables) → Serves m t → (u v : ℕ) (sent : Packet) (visited : List ℕ) (at : ℕ) (left : Packet) → u < m.nodes → v < m.nodes
    → decide t u (address t v) ≡ Ok sent → Went t u visited sent at left → IsOnCourse m t u v visited at left

-- every packet comes to an end, whatever it holds, over any tables
abbrev pub AllComeToAnEnd : Type 0
AllComeToAnEnd = (t : Tables) (x : ℕ) (k : Packet) → ComesToAnEnd t x k
