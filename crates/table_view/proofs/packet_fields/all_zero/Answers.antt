use Rattle.std.proofs.Common.{◌≡◌, ◌∙◌, ℕ, ◌==◌, Bool, List, [], ◌∷◌, length, replicate, refl, ap, arith}
use Rattle.std.specs.Prelude.{◌&&◌}
use Rattle.std.specs.Cmp.Lexicographic.{pointwise}
use Rattle.std.proofs.lemmas.List.{take-replicate}
use Rattle.packet_bytes.specs.Refusals.{are_zeros}
use Rattle.table_view.proofs.packet_fields.all_zero.Goals as goal

as_many_zeros : (bytes : List ℕ) → pointwise (λ (a b : ℕ). a == b) bytes (replicate (length bytes) 0) ≡ are_zeros bytes
as_many_zeros [] = refl
as_many_zeros (b ∷ bytes) = ap (λ (t : Bool). (b == 0) && t) (as_many_zeros bytes)

pub returns : goal.returns
returns c =
    c.eq.ensures ∙ ap (pointwise (λ (a b : ℕ). a == b) c.args.bytes.now) (take-replicate (length c.args.bytes.now) 26 0 (omega arith)) ∙ as_many_zeros c.args.bytes.now
