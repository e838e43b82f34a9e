-- Lists in which each item stands under a number of its own.
use Rattle.std.specs.Prelude.{◌==◌, ◌<◌, ℕ, cond, Option, Some, None, List, [], ◌∷◌, map}
use Rattle.std.specs.List.{All}
use Rattle.std.specs.List.Sorted.{IsStrictlyIncreasing}

-- the first item under a number
abbrev pub item_at : {X : Type 0} → (X → ℕ) → ℕ → List X → Option X
item_at key number [] = None
item_at key number (x ∷ xs) = cond (key x == number) (Some x) (item_at key number xs)

-- the numbers strictly ascend, and all are below a limit
pub record AreInOrder {X : Type 0} (key : X → ℕ) (limit : ℕ) (items : List X) : Type 0 where
  pub ascend : IsStrictlyIncreasing (map key items)
  pub below : All (λ x. key x < limit) items
