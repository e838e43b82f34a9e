-- Where no length of a walk is the least, there is no walk.
use Rattle.std.proofs.Common.{◌≡◌, ℕ, zero, suc, ◌<◌, List, refl, ap, subst, arith, inl, inr}
use Rattle.std.proofs.lemmas.Bool.{cases_lt}
use Rattle.graph_edits.specs.Edges.{EdgeMap}
use Rattle.graph_edits.specs.Walks.{IsLeast, IsWalk, walk_length}

none_below : (m : EdgeMap) (u v : ℕ) → ((d : ℕ) → IsLeast m (λ s. s ≡ u) v d → ⊥) → (n : ℕ) (xs : List ℕ) → walk_length m u xs < n → IsWalk m u xs v → ⊥
none_below m u v none zero xs lt walk = absurd (omega (arith, lt))
none_below m u v none (suc n) xs lt walk = none (walk_length m u xs) (record {
  attained = (u, (refl, (xs, (walk, refl))));
  least = λ s ys e w.
      let same : walk_length m s ys ≡ walk_length m u ys = ap (λ z. walk_length m z ys) e in
      elim (cases_lt (walk_length m u ys) (walk_length m u xs)) [
        | inl less ↦ absurd (none_below m u v none n ys (omega (arith, less, lt)) (subst (λ z. IsWalk m z ys v) e w))
        | inr le ↦ omega (arith, le, same)
      ];
})

-- where no length is the least, no walk leads
pub none_least : (m : EdgeMap) (u v : ℕ) → ((d : ℕ) → IsLeast m (λ s. s ≡ u) v d → ⊥) → (xs : List ℕ) → IsWalk m u xs v → ⊥
none_least m u v none xs walk = none_below m u v none (suc (walk_length m u xs)) xs (omega arith) walk
