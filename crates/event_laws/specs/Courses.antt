-- Over which trip a packet goes, in the graph of its own generation.
use Rattle.std.specs.Prelude.{◌≡◌, ℕ, List, [], ◌∷◌, take, false}
use Rattle.std.specs.List.{AllByRecursion}
use Rattle.graph_edits.specs.Edges.{Network}
use Rattle.requests.specs.declared.request.Request.{Request}
use Rattle.layout_2.specs.State.{State}
use Rattle.schemes.specs.declared.parts.Parts.{Parts}
use Rattle.schemes.specs.Tables.{Tables, tables}
use Rattle.schemes.specs.Ways as served
use Rattle.generations.specs.declared.posting.Notice.{Notice}
use Rattle.group_commit.specs.Settling.{settle}
use Rattle.event_model.specs.Trips.{Trip}
use Rattle.event_model.specs.Machines.{Machine}
use Rattle.request_lists.specs.declared.builds.Builds.TheVariants.{InTurn}
use Rattle.request_lists.specs.Durable.{IsDurable}
use Rattle.event_laws.specs.Ways.{IsPosted}

-- What the packet visited is a beginning of the one trip on which it arrives, at most three times as long as any other; the
-- rest of that trip carries it on, by ports that lead along it in the network; and it is gone only at the end.
pub record IsOnCourse (m : Network) (t : Tables) (w : Trip) : Type 0 where
  pub rest : List ℕ
  pub starts : w.visited ≡ w.from ∷ rest
  pub course : served.IsOnCourse m t w.from w.to rest w.at w.packet
  pub gone : w.there ≡ false → (course.more ≡ []) × (w.at ≡ w.to)

-- the generation was posted, and it is durable
pub record IsKnown (first : State) (asked : List Request) (log : List Notice) (number : ℕ) (scheme : Parts) : Type 0 where
  pub posted : IsPosted log number scheme
  pub durable : IsDurable InTurn first asked posted.before number scheme

-- the graph that it was built of
abbrev pub graph_of : {first : State} {asked : List Request} {log : List Notice} {number : ℕ} {scheme : Parts} → IsKnown first asked log number scheme → Network
graph_of {first} {asked} known = (settle first (take known.durable.at asked)).state.graph

-- the packet goes over the one trip of its own generation's scheme, in the graph of that generation
pub record IsRoutedWell (first : State) (asked : List Request) (log : List Notice) (w : Trip) : Type 0 where
  pub scheme : Parts
  pub known : IsKnown first asked log w.packet.generation scheme
  pub course : IsOnCourse (graph_of known) (tables scheme) w

-- so does each packet
abbrev pub AreRoutedWell : State → Machine → Type 0
AreRoutedWell first m = AllByRecursion (IsRoutedWell first m.asked m.postings) m.ways
