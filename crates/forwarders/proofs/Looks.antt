-- The board that a forwarder looked at.
use Rattle.std.proofs.Common.{◌≡◌, ◌⊎◌, inl, inr, ℕ, List, None, Option, Result, Ok, Err, refl, subst, sym, ap, ◌∙◌}
use Rattle.schemes.specs.declared.packet.Packet.{Packet}
use Rattle.schemes.specs.declared.packet.Move.{Move}
use Rattle.packet_bytes.specs.declared.wire.WireRefused.{WireRefused}
use Rattle.packet_bytes.specs.Refusals.{packet_refusal}
use Rattle.packet_bytes.specs.Spelling.{SpellsPacket}
use Rattle.forwarders.specs.declared.refused.Refused.{Refused}
use Rattle.forwarders.specs.declared.refused.Refused.TheVariants.{BoardShut}
use Rattle.forwarders.specs.declared.refused.BytesRefused.TheVariants as spelled
use Rattle.forwarders.specs.Answers.{Shelf, handed_back, hop_at}
use Rattle.forwarders.specs.ByteAnswers.{AnswersBytes, IsByteAnswer, IsHopOf, in_bytes, without_packet}
use Rattle.generations.specs.Boards.{BoardState}
use Rattle.generations.specs.Beginnings.{Beginning, board_after}
use Rattle.generations.specs.Knowledges.{Knowledge, all_seen}

-- what was looked at is what is known then
pub looked_at : (look known : Beginning) (reader : Knowledge) (board : BoardState) → board ≡ board_after look → reader ≡ all_seen look → known ≡ reader.all → board ≡ board_after known
looked_at look known reader board shown left all = shown ∙ ap board_after (sym (all ∙ ap (λ (r : Knowledge). r.all) left))

back_in_bytes : (k : Packet) (r : Result Move Refused) → without_packet (handed_back k r) ≡ in_bytes r
back_in_bytes k (Ok move) = refl
back_in_bytes k (Err e) = refl

-- the answer to the packet of the bytes is the answer to them
pub answered : (shelf : Shelf) (x : ℕ) (bytes : List ℕ) (k : Packet) (back : Result Move (Refused × Packet)) → packet_refusal bytes ≡ None → SpellsPacket bytes k
    → (back ≡ Err (BoardShut, k)) ⊎ (back ≡ handed_back k (hop_at x k shelf)) → IsByteAnswer shelf x bytes (without_packet back)
answered shelf x bytes k back read spells answer =
    subst (λ (o : Option WireRefused). AnswersBytes o (without_packet back) ((without_packet back ≡ Err spelled.BoardShut) ⊎ IsHopOf shelf x bytes (without_packet back))) (sym read)
    (elim answer [
      | inl shut ↦ inl (ap without_packet shut)
      | inr hop ↦ inr (record { packet = k; spelled = spells; answer = ap without_packet hop ∙ back_in_bytes k (hop_at x k shelf) })
    ])
