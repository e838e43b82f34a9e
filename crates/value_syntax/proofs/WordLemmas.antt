-- Words that are drawn, one after the other.
use Rattle.std.proofs.Common.{arith, ◌≡◌, refl, subst, ℕ, ◌+◌, ◌<◌, ◌≢◌, inl, inr, List, [], ◌∷◌, ◌++◌, slice_set, Contains, add-one}
use Rattle.std.proofs.lemmas.Grind.{common_steps}
use Rattle.std.proofs.lemmas.List.Elements.{Contains-push, Contains-push_cases, Contains-append_left}
use Rattle.rand_xoshiro.specs.Xoshiro256.{plus_plus}
use Rattle.value_syntax.specs.Words.{AreDrawn, AreZeroAt, state_after, word_after}

pub state_next : (state : List ℕ) (k : ℕ) → state_after state (k + 1) ≡ (plus_plus (state_after state k)).1
unfolding state_after
state_next state k = rw add-one refl

pub drawn_none : (state : List ℕ) → AreDrawn state 0 []
drawn_none state = record { count = refl; each = λ k below. absurd (omega arith) }

pub drawn_more : (state : List ℕ) (n : ℕ) (words : List ℕ) (word : ℕ) → AreDrawn state n words → word ≡ word_after state n → AreDrawn state (n + 1) (words ++ word ∷ [])
drawn_more state n words word drawn is = record {
  count = grind (arith, common_steps, drawn.count);
  each = λ k below. grind (arith, common_steps, drawn.count, drawn.each k, is);
}

pub zero_at_more : (listed words : List ℕ) (n at : ℕ) → at < n → AreZeroAt listed n words → AreZeroAt (listed ++ at ∷ []) n (slice_set words at 0)
zero_at_more listed words n at small old = record {
  count = grind (arith, common_steps, old.count);
  zeros = λ node below named. elim (Contains-push_cases listed at node named) [
    | inl before ↦ let was = old.zeros node below before in grind (arith, common_steps, old.count, was)
    | inr now ↦ grind (arith, common_steps, old.count, now)
  ];
  others = λ node below unlisted.
      let was = old.others node below (λ before. unlisted (Contains-append_left listed (at ∷ []) node before)) in
      let other : at ≢ node = λ same. unlisted (subst (λ x. Contains (listed ++ at ∷ []) x) same (Contains-push listed at)) in
      grind (arith, common_steps, old.count, was, other);
}
