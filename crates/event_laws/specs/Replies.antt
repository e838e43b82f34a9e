-- What the replies to launches and hops say.
use Rattle.std.specs.Prelude.{◌≡◌, ◌⊎◌, ℕ, ◌<◌, ◌≤◌, List, [], ◌∷◌, ◌++◌, length, take, true, false, Some, None, slice_get}
use Rattle.graph_edits.specs.Edges.{Network, over_port}
use Rattle.graph_edits.specs.Walks.{IsWalk}
use Rattle.layout_2.specs.State.{State}
use Rattle.schemes.specs.declared.parts.Parts.{Parts}
use Rattle.schemes.specs.declared.packet.Packet.{Packet}
use Rattle.schemes.specs.Service.{one_less}
use Rattle.generations.specs.declared.posting.Notice.{Notice}
use Rattle.generations.specs.Notices.{generations_in}
use Rattle.generations.specs.Boards.{latest_of, scheme_of}
use Rattle.forwarders.specs.declared.refused.Refused.{Refused}
use Rattle.forwarders.specs.declared.refused.Refused.TheVariants.{GenerationGone, NoNode, Unreachable, Stray, Spent, BoardShut}
use Rattle.forwarders.specs.Answers.{Shelf}
use Rattle.event_model.specs.declared.event.Event.{Event}
use Rattle.event_model.specs.declared.event.Event.TheVariants.{Launch, Hop}
use Rattle.event_model.specs.declared.reply.Reply.{Reply}
use Rattle.event_model.specs.declared.reply.Reply.TheVariants.{Launched, NotRouted, Forwarded, Delivered, NoActor}
use Rattle.event_model.specs.Trips.{Trip, sent}
use Rattle.event_model.specs.Machines.{Machine, board_at}
use Rattle.event_model.specs.Answers.{Answers, sees}
use Rattle.event_laws.specs.Ways.{IsPosted}
use Rattle.event_laws.specs.Courses.{IsKnown, graph_of, IsRoutedWell}

-- the shelf that the forwarder sees
abbrev pub shelf_seen : Machine → ℕ → Shelf
shelf_seen m at = (board_at m (sees m at)).shelf

-- ---- a launch

-- the newest generation that the forwarder sees
pub record IsNewest (first : State) (m : Machine) (at : ℕ) : Type 0 where
  pub number : ℕ
  pub scheme : Parts
  pub is : latest_of (shelf_seen m at) ≡ Some number
  pub known : IsKnown first m.asked m.postings number scheme

-- no walk leads from u to v
abbrev pub NoWalk : Network → ℕ → ℕ → Type 0
NoWalk graph u v = (xs : List ℕ) → IsWalk graph.edges u xs v → ⊥

-- why a packet isn't sent: no generation is seen; or in the newest one's graph one of the two isn't a node, or no walk leads there
abbrev pub LaunchRefused : State → Machine → ℕ → ℕ → ℕ → Refused → Type 0
LaunchRefused first m u v at GenerationGone = latest_of (shelf_seen m at) ≡ None
LaunchRefused first m u v at NoNode = (newest : IsNewest first m at) × (u < (graph_of newest.known).nodes → v < (graph_of newest.known).nodes → ⊥)
LaunchRefused first m u v at Unreachable =
    (newest : IsNewest first m at) × ((u < (graph_of newest.known).nodes) × ((v < (graph_of newest.known).nodes) × NoWalk (graph_of newest.known) u v))
LaunchRefused first m u v at Stray = ⊥
LaunchRefused first m u v at Spent = ⊥
LaunchRefused first m u v at BoardShut = ⊥

-- the packet of this number was sent by u to v, in the newest generation seen, and is routed well
pub record IsLaunched (first : State) (m : Machine) (u v at i : ℕ) (n : Machine) : Type 0 where
  pub packet : Packet
  pub newest : latest_of (shelf_seen m at) ≡ Some packet.generation
  pub filed : slice_get n.ways i ≡ Some (sent u v packet)
  pub routed_well : IsRoutedWell first n.asked n.postings (sent u v packet)

-- ---- a hop

-- the packet was there, and went over the port to the next node, which stands behind it in the graph of the packet's generation
pub record IsForwarded (first : State) (m : Machine) (i port next : ℕ) (n : Machine) : Type 0 where
  pub way : Trip
  pub was : slice_get m.ways i ≡ Some way
  pub there : way.there ≡ true
  pub is : slice_get n.ways i ≡ Some (record way { visited = way.visited ++ next ∷ []; at = next; packet = one_less way.packet })
  pub routed_well : IsRoutedWell first m.asked m.postings way
  pub leads : over_port (graph_of routed_well.known) way.at port ≡ Some next

-- the packet was there, stands at its destination, and is gone
pub record IsDelivered (first : State) (m : Machine) (i : ℕ) (n : Machine) : Type 0 where
  pub way : Trip
  pub was : slice_get m.ways i ≡ Some way
  pub there : way.there ≡ true
  pub is : slice_get n.ways i ≡ Some (record way { there = false })
  pub routed_well : IsRoutedWell first m.asked m.postings way
  pub at_end : way.at ≡ way.to

-- four generations were posted behind the one of this number: as many as the shelf has room for
pub record IsLeftBehind (log : List Notice) (number : ℕ) : Type 0 where
  pub scheme : Parts
  pub posted : IsPosted log number scheme
  pub later : 4 ≤ length (generations_in posted.after)

-- the packet was there, and its generation has left the shelf that the forwarder sees, behind four later ones
pub record HopRefused (m : Machine) (i at : ℕ) (refused : Refused) : Type 0 where
  pub way : Trip
  pub was : slice_get m.ways i ≡ Some way
  pub there : way.there ≡ true
  pub only : refused ≡ GenerationGone
  pub left : scheme_of way.packet.generation (shelf_seen m at) ≡ None
  pub behind : IsLeftBehind (take (sees m at) m.postings) way.packet.generation

-- there is no such packet, or it isn't there any more
abbrev pub IsNotThere : Machine → ℕ → Type 0
IsNotThere m i = (slice_get m.ways i ≡ None) ⊎ ((way : Trip) × ((slice_get m.ways i ≡ Some way) × (way.there ≡ false)))

-- ---- all replies

-- what a reply says of the packets
abbrev pub Tells : State → Event → Machine → Reply → Machine → Type 0
Tells first (Launch u v at) m (Launched i) n = IsLaunched first m u v at i n
Tells first (Launch u v at) m (NotRouted refused) n = LaunchRefused first m u v at refused
Tells first (Hop i at) m (Forwarded port next) n = IsForwarded first m i port next n
Tells first (Hop i at) m Delivered n = IsDelivered first m i n
Tells first (Hop i at) m (NotRouted refused) n = HopRefused m i at refused
Tells first (Hop i at) m NoActor n = IsNotThere m i
Tells first event m reply n = Unit {0}

-- the answers of a run, and what each of them says of the packets
abbrev pub RunRoutes : State → Machine → List Event → List Reply → Machine → Type 0
RunRoutes first m [] [] n = n ≡ m
RunRoutes first m (event ∷ events) (reply ∷ replies) n =
    (next : Machine) × (Answers event m reply next × (Tells first event m reply next × RunRoutes first next events replies n))
RunRoutes first m events replies n = ⊥
