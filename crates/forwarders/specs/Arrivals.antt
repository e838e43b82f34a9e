-- Packets that are sent arrive, whatever the board publishes between their hops.
use Rattle.std.specs.Prelude.{◌≡◌, ◌⊎◌, ℕ, ◌<◌, List, [], ◌∷◌, Result, Ok, Err}
use Rattle.std.specs.List.{Contains}
use Rattle.graph_edits.specs.Edges.{Network}
use Rattle.schemes.specs.declared.parts.Parts.{Parts}
use Rattle.schemes.specs.declared.packet.Packet.{Packet}
use Rattle.schemes.specs.declared.packet.Move.{Move}
use Rattle.schemes.specs.declared.packet.Move.TheVariants.{Delivered, Forward}
use Rattle.schemes.specs.Tables.{tables}
use Rattle.schemes.specs.Service.{address, node_step, one_less, IsGoodTrip, LeadAlong, Serves}
use Rattle.generations.specs.Notices.{generations_in}
use Rattle.generations.specs.Beginnings.{Beginning, GoesOn, board_after}
use Rattle.generations.specs.Lawful.{IsLawful}
use Rattle.forwarders.specs.declared.refused.Refused.{Refused}
use Rattle.forwarders.specs.declared.refused.Refused.TheVariants.{BoardShut, GenerationGone}
use Rattle.forwarders.specs.Answers.{Shelf, IsAnswer, by_name, launch_at}

-- the list is lawful
abbrev pub IsLawfulList : Beginning → Type 0
IsLawfulList all = IsLawful all.opening.starts all.opening.count all.log

-- a shelf that a call may look at: that of the board after some beginning of the list
abbrev pub IsShelfOf : Beginning → Shelf → Type 0
IsShelfOf all shelf = (seen : Beginning) × (GoesOn seen all × (shelf ≡ (board_after seen).shelf))

-- the list has a generation of this number with this scheme
abbrev pub IsPublished : Beginning → ℕ → Parts → Type 0
IsPublished all number p = Contains (generations_in all.log) (number, p)

-- an answer that the board gave no look, that the packet's generation is gone, or what the scheme of that generation answers
abbrev pub IsPacketAnswer : Parts → ℕ → Packet → Result Move Refused → Type 0
IsPacketAnswer p x k answer = (answer ≡ Err BoardShut) ⊎ ((answer ≡ Err GenerationGone) ⊎ (answer ≡ by_name (node_step (tables p) x k)))

-- whatever a forwarder sees of one lawful list, it answers a packet by the one scheme of the packet's own generation
abbrev pub AnswersAreOfOneScheme : Type 0
AnswersAreOfOneScheme = (all : Beginning) (shelf : Shelf) (p : Parts) (x : ℕ) (k : Packet) (answer : Result Move Refused)
    → IsLawfulList all → IsPublished all k.generation p → IsShelfOf all shelf → IsAnswer shelf x k answer → IsPacketAnswer p x k answer

-- the board gave no look, or the packet's generation is gone: the packet comes back as it was
abbrev pub IsPutOff : Result Move Refused → Type 0
IsPutOff answer = (answer ≡ Err BoardShut) ⊎ (answer ≡ Err GenerationGone)

-- whichever shelf a call looks at, x puts the packet off or answers with this move
abbrev pub MovesOnly : Beginning → ℕ → Packet → Move → Type 0
MovesOnly all x k move = (shelf : Shelf) (answer : Result Move Refused) → IsShelfOf all shelf → IsAnswer shelf x k answer → IsPutOff answer ⊎ (answer ≡ Ok move)

-- Each call may look at another shelf: x and the nodes of the first list pass the packet on, each to the next by a port of the
-- second, and the last one says that it is delivered, unless they put it off.
abbrev pub IsCarried : Beginning → ℕ → List ℕ → List ℕ → Packet → Type 0
IsCarried all x [] [] k = MovesOnly all x k Delivered
IsCarried all x [] (q ∷ qs) k = ⊥
IsCarried all x (y ∷ ys) [] k = ⊥
IsCarried all x (y ∷ ys) (q ∷ qs) k = MovesOnly all x k (Forward q y (one_less k)) × IsCarried all y ys qs (one_less k)

-- the packet is carried from u to v, by ports that lead along a good trip: with as many calls as that has nodes, those aside that put it off
pub record IsBrought (all : Beginning) (m : Network) (u v : ℕ) (sent : Packet) : Type 0 where
  pub trip : List ℕ
  pub ports : List ℕ
  pub carried : IsCarried all u trip ports sent
  pub lead : LeadAlong m u trip ports
  pub good : IsGoodTrip m u v trip

-- a packet that a forwarder launched to a node's address, in a generation whose scheme serves a network, is brought there, whatever is published meanwhile
abbrev pub SentPacketsArrive : Type 0
SentPacketsArrive = (all : Beginning) (shelf : Shelf) (m : Network) (p : Parts) (u v : ℕ) (sent : Packet)
    → IsLawfulList all → IsPublished all p.generation p → Serves m (tables p) → u < m.nodes → v < m.nodes
    → IsShelfOf all shelf → launch_at u (address (tables p) v) shelf ≡ Ok sent → IsBrought all m u v sent
