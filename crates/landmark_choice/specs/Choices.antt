-- Which lists of landmarks are a choice, and the limit where none is named.
use Rattle.std.specs.Prelude.{ℕ, ◌+◌, ◌*◌, ◌<◌, ◌≤◌, ⊤, List, [], ◌∷◌, length}
use Rattle.std.specs.List.{All}

-- numbers from a first one on that ascend, so each stands once
abbrev pub AscendFrom : ℕ → List ℕ → Type 0
AscendFrom first [] = ⊤
AscendFrom first (x ∷ xs) = (first ≤ x) × AscendFrom (x + 1) xs

-- some of so many nodes, at most so many, each once and in ascending order
pub record IsChoice (nodes most : ℕ) (chosen : List ℕ) : Type 0 where
  pub ascending : AscendFrom 0 chosen
  pub nodes_of : All (λ node. node < nodes) chosen
  pub few : length chosen ≤ most

-- four times the square root of so many nodes, rounded down: the greatest number whose square is at most 16 times as many
pub record IsFourRoots (nodes limit : ℕ) : Type 0 where
  pub within : limit * limit ≤ 16 * nodes
  pub greatest : 16 * nodes < (limit + 1) * (limit + 1)
