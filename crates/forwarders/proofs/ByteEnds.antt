-- Every list of bytes comes to an end.
use Rattle.std.proofs.Common.{◌≡◌, ℕ, zero, suc, Option, Result, Ok, Err, List, refl, sym, subst, ap, ◌∙◌, ◌⊎◌, inl, inr, arith}
use Rattle.schemes.specs.declared.packet.Packet.{Packet}
use Rattle.schemes.specs.declared.packet.Move.{Move}
use Rattle.schemes.specs.declared.packet.Move.TheVariants.{Delivered, Forward}
use Rattle.schemes.specs.Service.{one_less}
use Rattle.packet_bytes.specs.declared.wire.WireRefused.{WireRefused}
use Rattle.packet_bytes.specs.Laws.{PacketsAreRead, OnePacket}
use Rattle.packet_bytes.specs.Spelling.{packet_text, SpellsPacket}
use Rattle.generations.specs.Boards.{scheme_of}
use Rattle.forwarders.specs.declared.refused.Refused.{Refused}
use Rattle.forwarders.specs.declared.refused.BytesRefused.{BytesRefused}
use Rattle.forwarders.specs.declared.refused.BytesRefused.TheVariants.{BoardShut}
use Rattle.forwarders.specs.declared.in_bytes.ByteMove.{ByteMove}
use Rattle.forwarders.specs.Answers.{Shelf, hop_at}
use Rattle.forwarders.specs.ByteAnswers.{AnswersBytes, IsUnreadAnswer, IsByteAnswer, IsHopOf, in_bytes}
use Rattle.forwarders.specs.Laws.{EndsUnless, EndsWithin, BytesEndUnless, BytesEndWithin, UnreadBytesEnd, PacketBytesEnd, later, nodes_of}
use Rattle.forwarders.proofs.Ends.{HasOneLess, hop_has_one_less, every_packet_ends}

pub one_less_spelled : (bytes : List ℕ) (k : Packet) → SpellsPacket bytes k → SpellsPacket (packet_text (one_less k)) (one_less k)
one_less_spelled bytes k spells =
    let f = spells.fits in
    record { fits = record { generation = f.generation; destination = f.destination; root = f.root; label = f.label; hops_left = omega (arith, f.hops_left) }; text = refl }

module _ (read : PacketsAreRead) (one : OnePacket) where
  pub answered : (shelf : Shelf) (x : ℕ) (bytes : List ℕ) (k : Packet) (result : Result ByteMove BytesRefused) → SpellsPacket bytes k → IsByteAnswer shelf x bytes result
      → (result ≡ Err BoardShut) ⊎ (result ≡ in_bytes (hop_at x k shelf))
  answered shelf x bytes k result spells h =
      elim (subst (λ (o : Option WireRefused). AnswersBytes o result ((result ≡ Err BoardShut) ⊎ IsHopOf shelf x bytes result)) (read bytes k spells) h) [
        | inl shut ↦ inl shut
        | inr hop ↦ inr (hop.answer ∙ ap (λ (j : Packet). in_bytes (hop_at x j shelf)) (one bytes hop.packet k hop.spelled spells))
      ]

  follows : (n : ℕ) (shelves : ℕ → Shelf) (m : ℕ) (k : Packet) (r : Result Move Refused) → ((y : ℕ) → EndsWithin n shelves y (one_less k) → BytesEndWithin n shelves y (packet_text (one_less k)))
      → HasOneLess m k r → EndsUnless (EndsWithin n shelves) r → BytesEndUnless (BytesEndWithin n shelves) (in_bytes r)
  follows n shelves m k (Err e) next h ends = tt
  follows n shelves m k (Ok Delivered) next h ends = tt
  follows n shelves m k (Ok (Forward q y j)) next h ends =
      subst (λ (i : Packet). BytesEndWithin n shelves y (packet_text i)) (sym h.0) (next y (subst (EndsWithin n shelves y) h.0 ends))

  bytes_end : (n : ℕ) (shelves : ℕ → Shelf) (x : ℕ) (bytes : List ℕ) (k : Packet) → SpellsPacket bytes k → EndsWithin n shelves x k → BytesEndWithin n shelves x bytes
  bytes_end zero shelves x bytes k spells ends = absurd ends
  bytes_end (suc n) shelves x bytes k spells ends = λ result h.
      elim (answered (shelves 0) x bytes k result spells h) [
        | inl shut ↦ subst (BytesEndUnless (BytesEndWithin n (later shelves))) (sym shut) tt
        | inr hop ↦
            subst (BytesEndUnless (BytesEndWithin n (later shelves))) (sym hop)
            (follows n (later shelves) (nodes_of (scheme_of k.generation (shelves 0))) k (hop_at x k (shelves 0))
            (λ y more. bytes_end n (later shelves) y (packet_text (one_less k)) (one_less k) (one_less_spelled bytes k spells) more)
            (hop_has_one_less (shelves 0) x k) (ends (hop_at x k (shelves 0)) (inr refl)))
      ]

  pub packet_bytes_end : PacketBytesEnd
  packet_bytes_end shelves x bytes k spells = bytes_end (nodes_of (scheme_of k.generation (shelves 0))) shelves x bytes k spells (every_packet_ends shelves x k)

unread : (shelves : ℕ → Shelf) (e : WireRefused) (result : Result ByteMove BytesRefused) → IsUnreadAnswer e result → BytesEndUnless (BytesEndWithin 0 shelves) result
unread shelves e (Err refused) h = tt
unread shelves e (Ok move) h = absurd h

pub unread_bytes_end : UnreadBytesEnd
unread_bytes_end shelves x bytes e refused = λ result h.
    unread (later shelves) e result (subst (λ (o : Option WireRefused). AnswersBytes o result ((result ≡ Err BoardShut) ⊎ IsHopOf (shelves 0) x bytes result)) refused h)
