-- Walks over an edge map, and the least length of a walk.
use Rattle.std.specs.Prelude.{◌≡◌, ℕ, ◌+◌, ◌≤◌, List, [], ◌∷◌, Option, Some, None, IsSome}
use Rattle.std.specs.Option.{unwrap_or}
use Rattle.graph_edits.specs.Edges.{EdgeMap, weight_between}

-- from u over the nodes of the list, each next to the one before, to v
abbrev pub IsWalk : EdgeMap → ℕ → List ℕ → ℕ → Type 0
IsWalk m u [] v = u ≡ v
IsWalk m u (x ∷ xs) v = IsSome (weight_between m u x) × IsWalk m x xs v

-- the sum of the weights
abbrev pub walk_length : EdgeMap → ℕ → List ℕ → ℕ
walk_length m u [] = 0
walk_length m u (x ∷ xs) = unwrap_or (weight_between m u x) 0 + walk_length m x xs

-- some walk to v from a node that is a source
abbrev pub IsReached : EdgeMap → (ℕ → Type 0) → ℕ → Type 0
IsReached m Source v = (s : ℕ) × (Source s × ((xs : List ℕ) × IsWalk m s xs v))

-- d is the least length of all walks to v from a source
pub record IsLeast (m : EdgeMap) (Source : ℕ → Type 0) (v d : ℕ) : Type 0 where
  pub attained : (s : ℕ) × (Source s × ((xs : List ℕ) × (IsWalk m s xs v × (walk_length m s xs ≡ d))))
  pub least : (s : ℕ) (xs : List ℕ) → Source s → IsWalk m s xs v → d ≤ walk_length m s xs

-- the distance to v from the nearest source: none where there is no walk
abbrev pub IsDistanceFrom : EdgeMap → (ℕ → Type 0) → ℕ → Option ℕ → Type 0
IsDistanceFrom m Source v None = IsReached m Source v → ⊥
IsDistanceFrom m Source v (Some d) = IsLeast m Source v d

-- the distance from u to v
abbrev pub IsDistance : EdgeMap → ℕ → ℕ → Option ℕ → Type 0
IsDistance m u v d = IsDistanceFrom m (λ s. s ≡ u) v d
