-- Nodes in decimal, one behind the others.
use Rattle.std.proofs.Common.{◌≡◌, ℕ, sym, ap, List, [], ◌∷◌, ◌++◌, append-nil, decimal, flat_map}
use Rattle.value_syntax.specs.WordsText.{nodes_text}

-- behind the first each has a comma before it
pub nodes_after : (x : ℕ) (xs : List ℕ) → nodes_text (x ∷ xs) ≡ decimal x ++ flat_map (λ node. 44 ∷ decimal node) xs
nodes_after x [] = sym (append-nil (decimal x))
nodes_after x (y ∷ ys) = ap (λ text. decimal x ++ 44 ∷ text) (nodes_after y ys)
