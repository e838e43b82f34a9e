-- Tests of what a look-up found.
use Rattle.std.proofs.Common.{◌≡◌, ◌⊎◌, inl, inr, Bool, true, false, refl, subst}
use Rattle.std.specs.Prelude.{◌↔◌, IsTrue, Option, Some, None}
use Rattle.std.proofs.lemmas.Bool.{false≢true}
use Rattle.schemes.proofs.Basics.Options.{same_value, not_none}

pub found : {X : Type 0} (o : Option X) (g : X) (P : X → Type 0) (b : Bool) → o ≡ Some g → IsTrue b ↔ P g → IsTrue b ↔ ((x : X) × ((o ≡ Some x) × P x))
found o g P b e h = (λ t. (g, (e, h.0 t)), λ k. h.1 (subst P (same_value k.1.0 e) k.1.1))

pub found_first : {X : Type 0} (o : Option X) (g : X) (P : X → Type 0) (Q : Type 0) (b : Bool) → o ≡ Some g → IsTrue b ↔ P g → IsTrue b ↔ (((x : X) × ((o ≡ Some x) × P x)) ⊎ ((o ≡ None) × Q))
found_first o g P Q b e h = (λ t. inl (g, (e, h.0 t)), λ k. elim k [ inl j ↦ h.1 (subst P (same_value j.1.0 e) j.1.1) | inr j ↦ absurd (not_none e j.0) ])

-- the second of two facts, the first of which holds
pub and_more : {P Q : Type 0} (b : Bool) → P → IsTrue b ↔ Q → IsTrue b ↔ (P × Q)
and_more b p h = (λ t. (p, h.0 t), λ k. h.1 k.1)

pub refused : {P : Type 0} → (P → ⊥) → IsTrue false ↔ P
refused n = (λ t. absurd (false≢true t), λ p. absurd (n p))

pub accepted : {P : Type 0} → P → IsTrue true ↔ P
accepted p = (λ _. p, λ _. refl)
