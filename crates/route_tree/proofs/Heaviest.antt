-- The heaviest of a list of trees, and where it stands.
use Rattle.std.proofs.Common.{◌≡◌, ℕ, suc, zero, ◌+◌, ◌<◌, ◌≤◌, List, [], ◌∷◌, length, take, drop, get_or, refl, arith, add-one}
use Rattle.std.specs.Prelude.{nat_le}
use Rattle.std.specs.List.{AllByRecursion}
use Rattle.std.proofs.lemmas.Bool.{cond_both, leb-true, leb-false}
use Rattle.route_tree.specs.Rose.{Tree, tree_size, of_list}
use Rattle.route_tree.specs.Order.{heaviest}
use Rattle.route_tree.specs.Front.{heavy_at}
use Rattle.route_tree.specs.Shape.{widest}

pub heaviest_all : (ts : List Tree) → AllByRecursion (λ t. tree_size t ≤ heaviest ts) ts
heaviest_all [] = tt
heaviest_all (t ∷ ts) = (omega arith, weaker ts (heaviest_all ts) (omega arith))
  where
    weaker : (us : List Tree) {a b : ℕ} → AllByRecursion (λ t. tree_size t ≤ a) us → a ≤ b → AllByRecursion (λ t. tree_size t ≤ b) us
    weaker [] h l = tt
    weaker (u ∷ us) h l = (let q = h.0 in omega (arith, q, l), weaker us h.1 l)

pub widest_bound : (s : ℕ) (ts : List Tree) → AllByRecursion (λ t. tree_size t ≤ s) ts → widest (of_list ts) ≤ s
widest_bound s [] h = omega arith
widest_bound s (t ∷ ts) h = let a = h.0 in let b = widest_bound s ts h.1 in omega (arith, a, b)

pub heavy_here : (t : Tree) (ts : List Tree) → heavy_at (t ∷ ts) < length (t ∷ ts)
heavy_here t [] = cond_both (nat_le 0 (tree_size t)) 0 (suc 0) (λ z. z < 1) (λ _. omega arith) (λ e. absurd (let l = leb-false 0 (tree_size t) e in omega (arith, l)))
heavy_here t (u ∷ us) = cond_both (nat_le (heaviest (u ∷ us)) (tree_size t)) 0 (suc (heavy_at (u ∷ us))) (λ z. z < length (t ∷ u ∷ us)) (λ _. omega arith) (λ _. omega (arith, heavy_here u us))

-- the heavy one's size is the greatest
pub heavy_size : (t : Tree) (ts : List Tree) (d : Tree) → tree_size (get_or (t ∷ ts) (heavy_at (t ∷ ts)) d) ≡ heaviest (t ∷ ts)
heavy_size t [] d = cond_both (nat_le 0 (tree_size t)) 0 (suc 0) (λ z. tree_size (get_or (t ∷ []) z d) ≡ heaviest (t ∷ [])) (λ _. omega arith) (λ e. absurd (let l = leb-false 0 (tree_size t) e in omega (arith, l)))
heavy_size t (u ∷ us) d = cond_both (nat_le (heaviest (u ∷ us)) (tree_size t)) 0 (suc (heavy_at (u ∷ us))) (λ z. tree_size (get_or (t ∷ u ∷ us) z d) ≡ heaviest (t ∷ u ∷ us))
    (λ e. (let l = leb-true (heaviest (u ∷ us)) (tree_size t) e in omega (arith, l)))
    (λ e. (let l = leb-false (heaviest (u ∷ us)) (tree_size t) e in let h = heavy_size u us d in omega (arith, l, h)))

-- the part up to i begins, from i on, with what stands at i
pub from_there : (ts : List Tree) (i : ℕ) (d : Tree) → i < length ts → drop i (take (suc i) ts) ≡ get_or ts i d ∷ []
from_there [] i d h = absurd (omega arith)
from_there (t ∷ ts) zero d h = refl
from_there (t ∷ ts) (suc i) d h = from_there ts i d (omega arith)

pub from_part : (ts : List Tree) (i : ℕ) (d : Tree) → i < length ts → drop i (take (i + 1) ts) ≡ get_or ts i d ∷ []
from_part ts i d h = rw add-one (from_there ts i d h)
