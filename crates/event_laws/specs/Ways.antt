-- Packets on their way, by the schemes that were posted.
use Rattle.std.specs.Prelude.{◌≡◌, ℕ, List, ◌∷◌, ◌++◌, take, false, Ok}
use Rattle.std.specs.List.{AllByRecursion}
use Rattle.schemes.specs.declared.parts.Parts.{Parts}
use Rattle.schemes.specs.declared.packet.Packet.{Packet}
use Rattle.schemes.specs.declared.packet.Move.TheVariants.{Delivered}
use Rattle.schemes.specs.Tables.{tables}
use Rattle.schemes.specs.Service.{address, decide, node_step}
use Rattle.schemes.specs.Ways.{Went}
use Rattle.generations.specs.declared.posting.Notice.{Notice}
use Rattle.generations.specs.declared.posting.Notice.TheVariants.{Built}
use Rattle.event_model.specs.Trips.{Trip}
use Rattle.event_model.specs.Machines.{Machine}

-- the generation was posted, behind some notices and before others
pub record IsPosted (log : List Notice) (number : ℕ) (scheme : Parts) : Type 0 where
  pub before : List Notice
  pub after : List Notice
  pub there : log ≡ before ++ Built number scheme ∷ after

-- The packet was sent to the address that the scheme gave which was posted under its number, in this log; each hop was the step
-- of that scheme; and it is gone only where that scheme says that it is delivered.
pub record IsOnWay (log : List Notice) (w : Trip) : Type 0 where
  pub scheme : Parts
  pub posted : IsPosted log w.packet.generation scheme
  pub sent : Packet
  pub decided : decide (tables scheme) w.from (address (tables scheme) w.to) ≡ Ok sent
  pub rest : List ℕ
  pub starts : w.visited ≡ w.from ∷ rest
  pub went : Went (tables scheme) w.from rest sent w.at w.packet
  pub delivered : w.there ≡ false → node_step (tables scheme) w.at w.packet ≡ Ok Delivered

-- the postings that the forwarder has seen
abbrev pub seen_by : Machine → List Notice
seen_by m = take m.seen m.postings

-- each packet is on its way, by the postings that the forwarder has seen
abbrev pub AreOnWay : Machine → Type 0
AreOnWay m = AllByRecursion (IsOnWay (seen_by m)) m.ways
