-- The bytes of packets that are sent arrive as the packets do.
use Rattle.std.specs.Prelude.{◌≡◌, ◌⊎◌, ℕ, List, [], ◌∷◌, Result, Ok, Err}
use Rattle.schemes.specs.declared.packet.Packet.{Packet}
use Rattle.schemes.specs.declared.packet.Move.{Move}
use Rattle.schemes.specs.declared.packet.Move.TheVariants.{Delivered, Forward}
use Rattle.schemes.specs.Service.{one_less}
use Rattle.packet_bytes.specs.Spelling.{packet_text, IsPacket}
use Rattle.generations.specs.Beginnings.{Beginning}
use Rattle.forwarders.specs.declared.refused.BytesRefused.{BytesRefused}
use Rattle.forwarders.specs.declared.refused.BytesRefused.TheVariants.{BoardShut, GenerationGone}
use Rattle.forwarders.specs.declared.in_bytes.ByteMove.{ByteMove}
use Rattle.forwarders.specs.Answers.{Shelf}
use Rattle.forwarders.specs.ByteAnswers.{IsByteAnswer, move_in_bytes}
use Rattle.forwarders.specs.Arrivals.{IsShelfOf, IsCarried}

-- the board gave no look, or the generation of the bytes' packet is gone
abbrev pub AreBytesPutOff : Result ByteMove BytesRefused → Type 0
AreBytesPutOff result = (result ≡ Err BoardShut) ⊎ (result ≡ Err GenerationGone)

-- whichever shelf a call looks at, x puts the packet's bytes off or answers with this move in bytes
abbrev pub BytesMoveOnly : Beginning → ℕ → Packet → Move → Type 0
BytesMoveOnly all x k move = (shelf : Shelf) (result : Result ByteMove BytesRefused) → IsShelfOf all shelf → IsByteAnswer shelf x (packet_text k) result
    → AreBytesPutOff result ⊎ (result ≡ Ok (move_in_bytes move))

-- x and the nodes of the first list pass the packet's bytes on by the ports of the second, and the last one says that they are delivered, unless they put them off
abbrev pub AreBytesCarried : Beginning → ℕ → List ℕ → List ℕ → Packet → Type 0
AreBytesCarried all x [] [] k = BytesMoveOnly all x k Delivered
AreBytesCarried all x [] (q ∷ qs) k = ⊥
AreBytesCarried all x (y ∷ ys) [] k = ⊥
AreBytesCarried all x (y ∷ ys) (q ∷ qs) k = BytesMoveOnly all x k (Forward q y (one_less k)) × AreBytesCarried all y ys qs (one_less k)

-- the bytes of a packet are carried where the packet is
abbrev pub SentBytesArrive : Type 0
SentBytesArrive = (all : Beginning) (x : ℕ) (nodes ports : List ℕ) (k : Packet) → IsPacket k → IsCarried all x nodes ports k → AreBytesCarried all x nodes ports k
