-- Laws of forwarding: every way ends, whichever shelf each call looks at, and when a generation is gone.
use Rattle.std.specs.Prelude.{◌≡◌, ◌↔◌, ℕ, zero, suc, List, Option, Some, None, Result, Ok, Err, max}
use Rattle.schemes.specs.declared.parts.Parts.{Parts}
use Rattle.schemes.specs.declared.packet.Address.{Address}
use Rattle.schemes.specs.declared.packet.Packet.{Packet}
use Rattle.schemes.specs.declared.packet.Move.{Move}
use Rattle.schemes.specs.declared.packet.Move.TheVariants as packets
use Rattle.packet_bytes.specs.declared.wire.WireRefused.{WireRefused}
use Rattle.packet_bytes.specs.Refusals.{packet_refusal}
use Rattle.packet_bytes.specs.Spelling.{SpellsPacket}
use Rattle.generations.specs.Boards.{scheme_of}
use Rattle.forwarders.specs.declared.refused.Refused.{Refused}
use Rattle.forwarders.specs.declared.refused.Refused.TheVariants.{GenerationGone}
use Rattle.forwarders.specs.declared.refused.BytesRefused.{BytesRefused}
use Rattle.forwarders.specs.declared.in_bytes.ByteMove.{ByteMove}
use Rattle.forwarders.specs.declared.in_bytes.ByteMove.TheVariants.{Delivered, Forward}
use Rattle.forwarders.specs.Answers.{Shelf, IsOnShelf, IsAnswer, address_at, launch_at, hop_at}
use Rattle.forwarders.specs.ByteAnswers.{IsByteAnswer}

-- the number of nodes of a generation's scheme, and at least 1
abbrev pub nodes_of : Option Parts → ℕ
nodes_of None = 1
nodes_of (Some p) = max 1 p.nodes

-- an answer ends the packet's way, unless the packet goes on to a node where this holds
abbrev pub EndsUnless : (ℕ → Packet → Type 0) → Result Move Refused → Type 0
EndsUnless Next (Err e) = Unit {0}
EndsUnless Next (Ok packets.Delivered) = Unit {0}
EndsUnless Next (Ok (packets.Forward port y k)) = Next y k

-- the shelves that the calls after the first one look at, each call at the next
abbrev pub later : (ℕ → Shelf) → ℕ → Shelf
later shelves = λ call. shelves (suc call)

-- passed from node to node, each call looking at the next shelf, the packet is delivered or refused by one of the next n calls
abbrev pub EndsWithin : ℕ → (ℕ → Shelf) → ℕ → Packet → Type 0
EndsWithin zero shelves x k = ⊥
EndsWithin (suc n) shelves x k = (answer : Result Move Refused) → IsAnswer (shelves 0) x k answer → EndsUnless (EndsWithin n (later shelves)) answer

-- the same of bytes
abbrev pub BytesEndUnless : (ℕ → List ℕ → Type 0) → Result ByteMove BytesRefused → Type 0
BytesEndUnless Next (Err e) = Unit {0}
BytesEndUnless Next (Ok Delivered) = Unit {0}
BytesEndUnless Next (Ok (Forward port y bytes)) = Next y bytes

-- the same of bytes: passed from node to node, they are delivered or refused by one of the next n calls
abbrev pub BytesEndWithin : ℕ → (ℕ → Shelf) → ℕ → List ℕ → Type 0
BytesEndWithin zero shelves x bytes = ⊥
BytesEndWithin (suc n) shelves x bytes = (result : Result ByteMove BytesRefused) → IsByteAnswer (shelves 0) x bytes result → BytesEndUnless (BytesEndWithin n (later shelves)) result

-- every packet comes to an end within as many calls as its generation has nodes on the first shelf, whatever it and the shelves hold
abbrev pub EveryPacketEnds : Type 0
EveryPacketEnds = (shelves : ℕ → Shelf) (x : ℕ) (k : Packet) → EndsWithin (nodes_of (scheme_of k.generation (shelves 0))) shelves x k

-- bytes that are no packet are refused by the first call
abbrev pub UnreadBytesEnd : Type 0
UnreadBytesEnd = (shelves : ℕ → Shelf) (x : ℕ) (bytes : List ℕ) (refused : WireRefused) → packet_refusal bytes ≡ Some refused → BytesEndWithin 1 shelves x bytes

-- a packet's bytes come to an end within as many calls as its generation has nodes on the first shelf
abbrev pub PacketBytesEnd : Type 0
PacketBytesEnd = (shelves : ℕ → Shelf) (x : ℕ) (bytes : List ℕ) (k : Packet) → SpellsPacket bytes k → BytesEndWithin (nodes_of (scheme_of k.generation (shelves 0))) shelves x bytes

-- a generation is gone exactly where no place of the shelf has its number
abbrev pub HopGone : Type 0
HopGone = (shelf : Shelf) (x : ℕ) (k : Packet) → (hop_at x k shelf ≡ Err GenerationGone) ↔ (¬ (IsOnShelf k.generation shelf))

-- so it is at a launch
abbrev pub LaunchGone : Type 0
LaunchGone = (shelf : Shelf) (u : ℕ) (a : Address) → (launch_at u a shelf ≡ Err GenerationGone) ↔ (¬ (IsOnShelf a.generation shelf))

-- and where an address is asked for
abbrev pub AddressGone : Type 0
AddressGone = (shelf : Shelf) (generation v : ℕ) → (address_at generation v shelf ≡ Err GenerationGone) ↔ (¬ (IsOnShelf generation shelf))
