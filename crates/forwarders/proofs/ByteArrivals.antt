-- The bytes of packets that are sent arrive as the packets do.
use Rattle.std.proofs.Common.{inl, inr, ℕ, List, [], ◌∷◌, refl, ap, ◌∙◌}
use Rattle.schemes.specs.declared.packet.Packet.{Packet}
use Rattle.schemes.specs.declared.packet.Move.{Move}
use Rattle.schemes.specs.declared.packet.Move.TheVariants.{Delivered, Forward}
use Rattle.schemes.specs.Service.{one_less}
use Rattle.packet_bytes.specs.Laws.{PacketsAreRead, OnePacket}
use Rattle.packet_bytes.specs.Spelling.{packet_text, IsPacket}
use Rattle.generations.specs.Beginnings.{Beginning}
use Rattle.forwarders.specs.Answers.{hop_at}
use Rattle.forwarders.specs.ByteAnswers.{in_bytes}
use Rattle.forwarders.specs.Arrivals.{MovesOnly, IsCarried}
use Rattle.forwarders.specs.ByteArrivals.{BytesMoveOnly, AreBytesCarried, SentBytesArrive}
use Rattle.forwarders.proofs.ByteEnds.{answered, one_less_spelled}

module _ (read : PacketsAreRead) (one : OnePacket) where
  moves_only : (all : Beginning) (x : ℕ) (k : Packet) (move : Move) → IsPacket k → MovesOnly all x k move → BytesMoveOnly all x k move
  moves_only all x k move fits only shelf result is h =
      elim (answered read one shelf x (packet_text k) k result (record { fits = fits; text = refl }) h) [
        | inl shut ↦ inl (inl shut)
        | inr own ↦ elim (only shelf (hop_at x k shelf) is (inr refl)) [
          | inl off ↦ elim off [
            | inl shut ↦ inl (inl (own ∙ ap in_bytes shut))
            | inr gone ↦ inl (inr (own ∙ ap in_bytes gone))
          ]
          | inr moved ↦ inr (own ∙ ap in_bytes moved)
        ]
      ]

  pub bytes_arrive : SentBytesArrive
  bytes_arrive all x ys qs k fits carried = over x ys qs k fits carried
    where
      over : (x : ℕ) (ys qs : List ℕ) (k : Packet) → IsPacket k → IsCarried all x ys qs k → AreBytesCarried all x ys qs k
      over x [] [] k fits c = moves_only all x k Delivered fits c
      over x [] (q ∷ qs) k fits c = absurd c
      over x (y ∷ ys) [] k fits c = absurd c
      over x (y ∷ ys) (q ∷ qs) k fits c =
          (moves_only all x k (Forward q y (one_less k)) fits c.0, over y ys qs (one_less k) (one_less_spelled (packet_text k) k (record { fits = fits; text = refl })).fits c.1)
