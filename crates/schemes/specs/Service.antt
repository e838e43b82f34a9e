-- What a scheme answers, and good service.
use Rattle.std.specs.Prelude.{◌≡◌, ℕ, ◌-◌, ◌*◌, ◌≤◌, ◌<◌, ◌==◌, nat_lt, cond, ◌&&◌, is_some, Option, Some, None, Result, Ok, Err, List, [], ◌∷◌, length}
use Rattle.graph_edits.specs.Edges.{Network, over_port}
use Rattle.graph_edits.specs.Walks.{IsWalk, walk_length}
use Rattle.heavy_labels.specs.Label.{Label}
use Rattle.heavy_labels.specs.Numbering.{Step, arrived, port, no_parent, no_light, step}
use Rattle.heavy_labels.specs.Stepped.{record_of}
use Rattle.landmarks.specs.declared.near.Near.{Near}
use Rattle.schemes.specs.Entry.{Entry}
use Rattle.schemes.specs.declared.packet.Address.{Address}
use Rattle.schemes.specs.declared.packet.Home.{Home}
use Rattle.schemes.specs.declared.packet.Packet.{Packet}
use Rattle.schemes.specs.declared.packet.Move.{Move}
use Rattle.schemes.specs.declared.packet.Move.TheVariants.{Delivered, Forward}
use Rattle.schemes.specs.declared.packet.Refused.{Refused}
use Rattle.schemes.specs.declared.packet.Refused.TheVariants.{NoNode, Unreachable, Stray, Spent}
use Rattle.schemes.specs.Tables.{Tables}

-- the nearest landmark of v and v's label in its tree, where both are there
abbrev pub home_of : Option Near → Option Label → Option Home
home_of None l = None
home_of (Some p) None = None
home_of (Some p) (Some l) = Some (record { landmark = p.landmark; label = l })

-- a scheme's own address of v
abbrev pub address : Tables → ℕ → Address
address t v = record { generation = t.generation; node = v; home = home_of (t.nearest v) (t.home v) }

-- the address of v where v is a node
abbrev pub address_given : Tables → ℕ → Result Address Refused
address_given t v = cond (nat_lt v t.nodes) (Ok (address t v)) (Err NoNode)

-- a new packet for v, to go in the tree of a root
abbrev pub packet_by : Tables → ℕ → ℕ → Label → Packet
packet_by t v root l = record { generation = t.generation; destination = v; root = root; label = l; hops_left = t.nodes - 1 }

-- in the tree of the landmark that the address names, if u has an entry for it
abbrev pub through_home : Tables → ℕ → Address → Option Home → Result Packet Refused
through_home t u a None = Err Unreachable
through_home t u a (Some h) = cond (is_some (t.entry u h.landmark)) (Ok (packet_by t a.node h.landmark h.label)) (Err Unreachable)

-- in u's own tree, if its directory lists the node
abbrev pub by_directory : Tables → ℕ → Address → Option Label → Result Packet Refused
by_directory t u a None = through_home t u a a.home
by_directory t u a (Some l) = Ok (packet_by t a.node u l)

-- the packet that u sends to an address
abbrev pub decide : Tables → ℕ → Address → Result Packet Refused
decide t u a = cond (nat_lt u t.nodes && nat_lt a.node t.nodes) (by_directory t u a (t.listed u a.node)) (Err NoNode)

-- the packet with one hop less
abbrev pub one_less : Packet → Packet
one_less k = record k { hops_left = k.hops_left - 1 }

-- by the port q, behind which y stands if the node has that port
abbrev pub forward_over : Packet → ℕ → Option ℕ → Result Move Refused
forward_over k q None = Err Stray
forward_over k q (Some y) = cond (k.hops_left == 0) (Err Spent) (Ok (Forward q y (one_less k)))

-- what x does after the step that its record gives
abbrev pub move_by : Tables → ℕ → Packet → Step → Result Move Refused
move_by t x k arrived = cond (x == k.destination) (Ok Delivered) (Err Stray)
move_by t x k (port q) = forward_over k q (t.over x q)
move_by t x k no_parent = Err Stray
move_by t x k no_light = Err Stray

-- what x does by its entry for the packet's root
abbrev pub move_at : Tables → ℕ → Packet → Option Entry → Result Move Refused
move_at t x k None = Err Stray
move_at t x k (Some e) = move_by t x k (step (record_of e.tree_record) k.label)

-- what the node x does with a packet
abbrev pub node_step : Tables → ℕ → Packet → Result Move Refused
node_step t x k = cond (nat_lt x t.nodes) (cond (nat_lt k.hops_left t.nodes) (move_at t x k (t.entry x k.root)) (Err Stray)) (Err NoNode)

-- a packet that goes on is of this generation
abbrev pub IsOfGeneration : ℕ → Move → Type 0
IsOfGeneration generation Delivered = Unit {0}
IsOfGeneration generation (Forward q y k) = k.generation ≡ generation

-- x and the nodes of the first list pass a packet on, each to the next by a port of the second, and the last one says that it is delivered
abbrev pub Carries : Tables → ℕ → List ℕ → List ℕ → Packet → Type 0
Carries t x [] [] k = node_step t x k ≡ Ok Delivered
Carries t x [] (q ∷ qs) k = ⊥
Carries t x (y ∷ ys) [] k = ⊥
Carries t x (y ∷ ys) (q ∷ qs) k = (node_step t x k ≡ Ok (Forward q y (one_less k))) × Carries t y ys qs (one_less k)

-- behind each port the next node of the list stands in the network
abbrev pub LeadAlong : Network → ℕ → List ℕ → List ℕ → Type 0
LeadAlong m x [] [] = Unit {0}
LeadAlong m x [] (q ∷ qs) = ⊥
LeadAlong m x (y ∷ ys) [] = ⊥
LeadAlong m x (y ∷ ys) (q ∷ qs) = (over_port m x q ≡ Some y) × LeadAlong m y ys qs

-- A good trip from u over the nodes of the list to v: a walk, at most three times as long as any from u to v, and with no
-- more edges than there are other nodes.
pub record IsGoodTrip (m : Network) (u v : ℕ) (trip : List ℕ) : Type 0 where
  pub walk : IsWalk m.edges u trip v
  pub short : (xs : List ℕ) → IsWalk m.edges u xs v → walk_length m.edges u trip ≤ 3 * walk_length m.edges u xs
  pub few : length trip < m.nodes

-- a packet from u to the scheme's own address of v is carried there over a good trip, by ports that lead along it in the network
pub record Arrives (m : Network) (t : Tables) (u v : ℕ) : Type 0 where
  pub sent : Packet
  pub trip : List ℕ
  pub ports : List ℕ
  pub decided : decide t u (address t v) ≡ Ok sent
  pub carried : Carries t u trip ports sent
  pub lead : LeadAlong m u trip ports
  pub good : IsGoodTrip m u v trip

-- Good service: the scheme's nodes are the network's; a packet arrives wherever a walk leads, and where none does its
-- destination is refused as not to be reached; and each packet that is sent arrives.
pub record Serves (m : Network) (t : Tables) : Type 0 where
  pub nodes : t.nodes ≡ m.nodes
  pub connected : (u v : ℕ) (xs : List ℕ) → u < m.nodes → v < m.nodes → IsWalk m.edges u xs v → Arrives m t u v
  pub apart : (u v : ℕ) → u < m.nodes → v < m.nodes → ((xs : List ℕ) → IsWalk m.edges u xs v → ⊥) → decide t u (address t v) ≡ Err Unreachable
  pub sent : (u v : ℕ) (k : Packet) → u < m.nodes → v < m.nodes → decide t u (address t v) ≡ Ok k → Arrives m t u v
