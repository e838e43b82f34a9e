-- What a forwarder's thread answers of packets.
use Rattle.std.specs.Prelude.{◌≡◌, ℕ, List, Ok}
use Rattle.schemes.specs.declared.parts.Parts.{Parts}
use Rattle.schemes.specs.declared.packet.Packet.{Packet}
use Rattle.schemes.specs.Tables.{tables}
use Rattle.schemes.specs.Service.{address, decide}
use Rattle.generations.specs.Beginnings.{Beginning, GoesOn}
use Rattle.forwarders.specs.declared.refused.Refused as forwarder
use Rattle.forwarders.specs.declared.refused.Refused.TheVariants as refused
use Rattle.forwarders.specs.Arrivals.{IsPublished}
use Rattle.packet_ways.specs.declared.carried.Carried.{Carried}
use Rattle.packet_ways.specs.declared.carried.Carried.TheVariants.{Along, Unreachable, NoNode}
use Rattle.packet_ways.specs.declared.carried.Trip.{Trip}
use Rattle.packet_ways.specs.Carried.{HoldsOf, IsCarried, IsUnderWay}
use Rattle.packet_ways.specs.Standing.{IsNewest}
use Rattle.service_actors.specs.declared.stop_cause.StopCause.TheVariants.{Internal}
use Rattle.service_actors.specs.declared.forwarding.Launched.{Launched}
use Rattle.service_actors.specs.declared.forwarding.Launched.TheVariants.{Answered, Again, Halted}

-- the one scheme of its generation sent the packet
abbrev pub IsSent : Beginning → ℕ → ℕ → Packet → Type 0
IsSent known u v packet = HoldsOf known (λ all. (p : Parts) × IsPublished all packet.generation p × (decide (tables p) u (address (tables p) v) ≡ Ok packet))

-- it went over these nodes by that scheme
abbrev pub IsOnWay : Beginning → ℕ → ℕ → ℕ → List ℕ → ℕ → Packet → Type 0
IsOnWay known u v generation nodes at packet =
    HoldsOf known (λ all. (p : Parts) × IsPublished all generation p × (packet.generation ≡ generation) × IsUnderWay (tables p) u v nodes at packet)

-- A look between these two saw this generation as the newest of the list.
pub record WasNewest (old new : Beginning) (generation : ℕ) : Type 0 where
  pub seen : Beginning
  -- it knew all that was known before
  pub since : GoesOn old seen
  pub newest : IsNewest seen generation
  pub on : GoesOn seen new

-- the generation that is told of a packet was the newest, by a look between these two
abbrev pub IsByNewest : Beginning → Beginning → Carried → Type 0
IsByNewest old new (Along generation nodes length) = WasNewest old new generation
IsByNewest old new (Unreachable generation) = WasNewest old new generation
IsByNewest old new NoNode = Unit {0}

-- so it is of a launch that has an answer
abbrev pub IsLaunchedByNewest : Beginning → Beginning → Launched → Type 0
IsLaunchedByNewest old new (Answered carried) = IsByNewest old new carried
IsLaunchedByNewest old new other = Unit {0}

-- a packet that arrived went along in this generation
abbrev pub IsAlongIn : ℕ → Launched → Type 0
IsAlongIn generation (Answered (Along told nodes length)) = told ≡ generation
IsAlongIn generation (Answered other) = ⊥
IsAlongIn generation other = Unit {0}

-- what becomes of a launch: nothing is said of one that is to be made again, or where all are to stop
abbrev pub IsLaunched : Beginning → Trip → Launched → Type 0
IsLaunched known trip (Answered carried) = IsCarried known trip carried
IsLaunched known trip Again = Unit {0}
IsLaunched known trip (Halted cause) = Unit {0}

-- what becomes of a packet that isn't launched in a generation
abbrev pub launched_at : ℕ → forwarder.Refused → Launched
launched_at generation refused.NoNode = Answered NoNode
launched_at generation refused.Unreachable = Answered (Unreachable generation)
launched_at generation refused.BoardShut = Again
launched_at generation refused.GenerationGone = Again
launched_at generation refused.Stray = Halted Internal
launched_at generation refused.Spent = Halted Internal
