-- A packet's way, and how it goes on.
use Rattle.std.specs.Prelude.{ℕ, List, [], ◌∷◌, ◌++◌, Bool, true, false, Option, Some, None, Result, Ok, Err}
use Rattle.schemes.specs.declared.packet.Address.{Address}
use Rattle.schemes.specs.declared.packet.Packet.{Packet}
use Rattle.schemes.specs.declared.packet.Move.{Move}
use Rattle.schemes.specs.declared.packet.Move.TheVariants as packets
use Rattle.generations.specs.Boards.{latest_of}
use Rattle.forwarders.specs.declared.refused.Refused.{Refused}
use Rattle.forwarders.specs.declared.refused.Refused.TheVariants.{GenerationGone}
use Rattle.forwarders.specs.Answers.{Shelf, address_at, launch_at}
use Rattle.event_model.specs.declared.reply.Reply.{Reply}
use Rattle.event_model.specs.declared.reply.Reply.TheVariants.{NotRouted, Forwarded, Delivered}

-- where a packet was sent from and to, the nodes that it has visited, where it stands, what is left of it, and whether it is still there
pub record Trip : Type 0 where
  pub from : ℕ
  pub to : ℕ
  pub visited : List ℕ
  pub at : ℕ
  pub packet : Packet
  pub there : Bool

-- the way of a packet that u has just sent to v
abbrev pub sent : ℕ → ℕ → Packet → Trip
sent u v packet = record { from = u; to = v; visited = u ∷ []; at = u; packet = packet; there = true }

-- the packet that u sends to an address, if there is one
abbrev pub launch_to : Shelf → ℕ → Result Address Refused → Result Packet Refused
launch_to shelf u (Ok address) = launch_at u address shelf
launch_to shelf u (Err e) = Err e

-- the packet that u sends to v's address in a generation, if there is one
abbrev pub launch_in : Shelf → ℕ → ℕ → Option ℕ → Result Packet Refused
launch_in shelf u v None = Err GenerationGone
launch_in shelf u v (Some generation) = launch_to shelf u (address_at generation v shelf)

-- the packet that u sends to v's address, by the newest generation of a shelf
abbrev pub launch_by : Shelf → ℕ → ℕ → Result Packet Refused
launch_by shelf u v = launch_in shelf u v (latest_of shelf)

-- what is answered to a hop
abbrev pub hop_reply : Result Move Refused → Reply
hop_reply (Ok packets.Delivered) = Delivered
hop_reply (Ok (packets.Forward port next packet)) = Forwarded port next
hop_reply (Err e) = NotRouted e

-- the way after it: delivery takes the packet away, and a refusal leaves it where it was
abbrev pub hop_way : Trip → Result Move Refused → Trip
hop_way way (Ok packets.Delivered) = record way { there = false }
hop_way way (Ok (packets.Forward port next packet)) = record way { visited = way.visited ++ next ∷ []; at = next; packet = packet }
hop_way way (Err e) = way
