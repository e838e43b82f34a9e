-- What a board's one list of postings says of a packet.
use Rattle.std.specs.Prelude.{◌≡◌, ◌<◌, ℕ, List, Ok, Err}
use Rattle.schemes.specs.declared.parts.Parts.{Parts}
use Rattle.schemes.specs.declared.packet.Packet.{Packet}
use Rattle.schemes.specs.declared.packet.Move.TheVariants.{Delivered}
use Rattle.schemes.specs.declared.packet.Refused.TheVariants as by_scheme
use Rattle.schemes.specs.Tables.{Tables, tables}
use Rattle.schemes.specs.Service.{address, decide, node_step}
use Rattle.schemes.specs.Trails as trail
use Rattle.generations.specs.Beginnings.{Beginning, GoesOn}
use Rattle.forwarders.specs.Arrivals.{IsLawfulList, IsPublished}
use Rattle.packet_ways.specs.declared.carried.Carried.{Carried}
use Rattle.packet_ways.specs.declared.carried.Carried.TheVariants.{Along, Unreachable, NoNode}
use Rattle.packet_ways.specs.declared.carried.Trip.{Trip}

-- ---- one packet by one scheme

-- The packet that u sends to the tables' own address of v went over these nodes, as the node steps say, and stands at the last one as
-- what is left of it.
abbrev pub IsUnderWay : Tables → ℕ → ℕ → List ℕ → ℕ → Packet → Type 0
IsUnderWay t u v nodes at left = (ports : List ℕ) × (length : ℕ) × trail.IsUnderWay t u (address t v) nodes ports length at left

-- it went over these nodes, and the last one says that it is delivered
abbrev pub IsWay : Tables → ℕ → ℕ → List ℕ → Type 0
IsWay t u v nodes = (at : ℕ) × (left : Packet) × IsUnderWay t u v nodes at left × (node_step t at left ≡ Ok Delivered)

-- ---- by a list of notices

-- each scheme of the list is of the generation under whose number it was posted
abbrev pub AreNamed : Beginning → Type 0
AreNamed all = (number : ℕ) (p : Parts) → IsPublished all number p → p.generation ≡ number

-- what a list answers of a packet: by the one scheme that it has for the generation that is told
abbrev pub IsAnswerBy : Beginning → Trip → Carried → Type 0
IsAnswerBy all trip (Along generation nodes length) = (p : Parts) × IsPublished all generation p × IsWay (tables p) trip.from trip.to nodes.items
IsAnswerBy all trip (Unreachable generation) = (p : Parts) × IsPublished all generation p × (decide (tables p) trip.from (address (tables p) trip.to) ≡ Err by_scheme.Unreachable)
IsAnswerBy all trip NoNode = (generation : ℕ) × (p : Parts) × IsPublished all generation p × (trip.from < p.nodes → trip.to < p.nodes → ⊥)

-- it holds of every lawful list that goes on from here and has each scheme under the number of its generation
abbrev pub HoldsOf : Beginning → (Beginning → Type 0) → Type 0
HoldsOf known P = (all : Beginning) → IsLawfulList all → AreNamed all → GoesOn known all → P all

-- what is answered of a packet by who knows so much
abbrev pub IsCarried : Beginning → Trip → Carried → Type 0
IsCarried known trip carried = HoldsOf known (λ all. IsAnswerBy all trip carried)
