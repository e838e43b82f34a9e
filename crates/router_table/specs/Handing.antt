-- Packets that are handed from table to table.
use Rattle.std.specs.Prelude.{◌≡◌, ℕ, ◌<◌, Ok, List, [], ◌∷◌}
use Rattle.graph_edits.specs.Edges.{Network}
use Rattle.schemes.specs.declared.packet.Address.{Address}
use Rattle.schemes.specs.declared.packet.Packet.{Packet}
use Rattle.schemes.specs.declared.packet.Move.{Move}
use Rattle.schemes.specs.declared.packet.Move.TheVariants.{Delivered, Forward}
use Rattle.schemes.specs.declared.packet.Refused.{Refused}
use Rattle.schemes.specs.Service.{IsGoodTrip, LeadAlong, address, decide, node_step, one_less}
use Rattle.schemes.specs.Tables.{Tables}
use Rattle.router_table.specs.Table.{IsTableOf, Table, shown}
use Rattle.std.specs.Prelude.{Result}

-- the packet that a router sends to an address, by its table alone
abbrev pub launched : Table → Address → Result Packet Refused
launched a to = decide (shown a) a.head.node to

-- what a router does with a packet, by its table alone
abbrev pub hopped : Table → Packet → Result Move Refused
hopped a k = node_step (shown a) a.head.node k

-- every node has its table
abbrev pub AreTablesOf : Tables → (ℕ → Table) → Type 0
AreTablesOf t router = (x : ℕ) → x < t.nodes → IsTableOf t x (router x)

-- x and the nodes of the first list hand a packet on, each by its own table and a port of the second list, and the last one says
-- that it is delivered
abbrev pub Hands : (ℕ → Table) → ℕ → List ℕ → List ℕ → Packet → Type 0
Hands router x [] [] k = hopped (router x) k ≡ Ok Delivered
Hands router x [] (q ∷ qs) k = ⊥
Hands router x (y ∷ ys) [] k = ⊥
Hands router x (y ∷ ys) (q ∷ qs) k = (hopped (router x) k ≡ Ok (Forward q y (one_less k))) × Hands router y ys qs (one_less k)

-- the packet that the router of u launches to v's address is handed from table to table, by ports that lead along a good trip in the network
pub record IsHandedOver (m : Network) (t : Tables) (router : ℕ → Table) (u v : ℕ) : Type 0 where
  pub sent : Packet
  pub trip : List ℕ
  pub ports : List ℕ
  pub is_sent : launched (router u) (address t v) ≡ Ok sent
  pub handed : Hands router u trip ports sent
  pub lead : LeadAlong m u trip ports
  pub good : IsGoodTrip m u v trip

-- Whatever tables are asked, one after the other: each hands on what it got, and the packet is left.
abbrev pub WasHanded : List Table → Packet → Packet → Type 0
WasHanded [] k left = k ≡ left
WasHanded (a ∷ others) k left = (port : ℕ) × (next : ℕ) × (given : Packet) × (hopped a k ≡ Ok (Forward port next given)) × WasHanded others given left
