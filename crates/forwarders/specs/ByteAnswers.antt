-- What a forwarder answers to bytes.
use Rattle.std.specs.Prelude.{◌≡◌, ◌⊎◌, ℕ, List, Option, Some, None, Result, Ok, Err}
use Rattle.schemes.specs.declared.packet.Packet.{Packet}
use Rattle.schemes.specs.declared.packet.Move.{Move}
use Rattle.schemes.specs.declared.packet.Move.TheVariants as packets
use Rattle.packet_bytes.specs.declared.wire.WireRefused.{WireRefused}
use Rattle.packet_bytes.specs.declared.wire.WireRefused.TheVariants as wire
use Rattle.packet_bytes.specs.Refusals.{packet_refusal}
use Rattle.packet_bytes.specs.Spelling.{packet_text, SpellsPacket}
use Rattle.forwarders.specs.declared.refused.Refused.{Refused}
use Rattle.forwarders.specs.declared.refused.Refused.TheVariants as forwarder
use Rattle.forwarders.specs.declared.refused.BytesRefused.{BytesRefused}
use Rattle.forwarders.specs.declared.refused.BytesRefused.TheVariants.{BadLength, BadCount, BadPadding, BoardShut, GenerationGone, NoNode, Unreachable, Stray, Spent}
use Rattle.forwarders.specs.declared.in_bytes.ByteMove.{ByteMove}
use Rattle.forwarders.specs.declared.in_bytes.ByteMove.TheVariants.{Delivered, Forward}
use Rattle.forwarders.specs.Answers.{Shelf, hop_at}

-- bytes that are refused for this are no packet, and answered so; no packet has a flag
abbrev pub IsUnread : WireRefused → BytesRefused → Type 0
IsUnread wire.BadLength e = e ≡ BadLength
IsUnread wire.BadFlag e = ⊥
IsUnread wire.BadCount e = e ≡ BadCount
IsUnread wire.BadPadding e = e ≡ BadPadding

-- a refusal of a packet, in its turn behind those of bytes
abbrev pub in_turn : Refused → BytesRefused
in_turn forwarder.BoardShut = BoardShut
in_turn forwarder.GenerationGone = GenerationGone
in_turn forwarder.NoNode = NoNode
in_turn forwarder.Unreachable = Unreachable
in_turn forwarder.Stray = Stray
in_turn forwarder.Spent = Spent

-- a move in bytes: a packet that goes on is spelled
abbrev pub move_in_bytes : Move → ByteMove
move_in_bytes packets.Delivered = Delivered
move_in_bytes (packets.Forward port next k) = Forward port next (packet_text k)

-- an answer in bytes
abbrev pub in_bytes : Result Move Refused → Result ByteMove BytesRefused
in_bytes (Ok move) = Ok (move_in_bytes move)
in_bytes (Err e) = Err (in_turn e)

-- an answer in bytes, without a packet that came back
abbrev pub without_packet : Result Move (Refused × Packet) → Result ByteMove BytesRefused
without_packet (Ok move) = Ok (move_in_bytes move)
without_packet (Err e) = Err (in_turn e.0)

-- the bytes spell a packet, and its answer is this in bytes
pub record IsHopOf (shelf : Shelf) (x : ℕ) (bytes : List ℕ) (result : Result ByteMove BytesRefused) : Type 0 where
  pub packet : Packet
  pub spelled : SpellsPacket bytes packet
  pub answer : result ≡ in_bytes (hop_at x packet shelf)

-- bytes that are no packet are answered by why they are none
abbrev pub IsUnreadAnswer : WireRefused → Result ByteMove BytesRefused → Type 0
IsUnreadAnswer refused (Ok move) = ⊥
IsUnreadAnswer refused (Err e) = IsUnread refused e

-- the answer to bytes, by why they are no packet: where they are one, that of the packet
abbrev pub AnswersBytes : Option WireRefused → Result ByteMove BytesRefused → Type 0 → Type 0
AnswersBytes None result OfPacket = OfPacket
AnswersBytes (Some refused) result OfPacket = IsUnreadAnswer refused result

-- what a forwarder that looks at this shelf, if the board gives a look, answers to bytes at x
abbrev pub IsByteAnswer : Shelf → ℕ → List ℕ → Result ByteMove BytesRefused → Type 0
IsByteAnswer shelf x bytes result = AnswersBytes (packet_refusal bytes) result ((result ≡ Err BoardShut) ⊎ IsHopOf shelf x bytes result)
