-- Edges in ascending order.
use Rattle.std.specs.Prelude.{◌≡◌, ◌<◌, ◌⊎◌, ℕ, List, [], ◌∷◌, Option, Some, None}
use Rattle.std.specs.List.{AllByRecursion}
use Rattle.std.specs.declared.cmp.Ordering.{Ordering}
use Rattle.std.specs.declared.cmp.Ordering.TheVariants.{Less}

module _ {K X : Type 0} (R : K → K → Ordering) where
  -- each key is below k
  abbrev pub AllBelow : K → List (K × X) → Type 0
  AllBelow k es = AllByRecursion (λ e. R e.0 k ≡ Less) es

-- the last key
abbrev pub last_key : {K X : Type 0} → List (K × X) → Option K
last_key [] = None
last_key (e ∷ []) = Some e.0
last_key (e ∷ f ∷ es) = last_key (f ∷ es)

-- a pair of nodes comes before another
abbrev pub IsBefore : ℕ × ℕ → ℕ × ℕ → Type 0
IsBefore p q = (p.0 < q.0) ⊎ ((p.0 ≡ q.0) × (p.1 < q.1))

-- a pair comes after the last one, if there is one
abbrev pub IsAfterLast : Option (ℕ × ℕ) → ℕ × ℕ → Type 0
IsAfterLast None q = Unit {0}
IsAfterLast (Some p) q = IsBefore p q
