-- What contracts see of a route tree: a rose tree, and a forest that is the list of the trees beside one another.
use Rattle.std.specs.Prelude.{◌≡◌, ℕ, ◌+◌, ◌≤◌, Option, Some, None, List, [], ◌∷◌, ◌++◌, refl}
use Rattle.std.specs.Coded.{Coded, code_by, coded×, coded_ℕ, coded_list, coded_option}
use Rattle.std.proofs.Common.{arith, append_assoc, ap, ◌∙◌}
use denote.Param.Weighed.{most}

-- no tree, or a first tree and those that stand beside it: a member's node, the port at it to its parent, the parent's
-- port to it, what hangs below it, and what stands beside it
pub data Forest : Type 0 where
  no_trees : Forest
  twig : ℕ → Option ℕ → Option ℕ → Forest → Forest → Forest

-- a member, with what hangs below it
pub record Tree : Type 0 where
  pub node : ℕ
  pub up : Option ℕ
  pub down : Option ℕ
  pub below : Forest

-- a tree of its parts
abbrev pub tree : ℕ → Option ℕ → Option ℕ → Forest → Tree
tree n u d b = record { node = n; up = u; down = d; below = b }

-- the forest of a list of trees
abbrev pub of_list : List Tree → Forest
of_list [] = no_trees
of_list (t ∷ ts) = twig t.node t.up t.down t.below (of_list ts)

-- the list of a forest
abbrev pub to_list : Forest → List Tree
to_list no_trees = []
to_list (twig n u d below beside) = tree n u d below ∷ to_list beside

-- the list of the forest of a list is that list
abbrev pub to_list-of_list : (ts : List Tree) → to_list (of_list ts) ≡ ts
to_list-of_list [] = refl
to_list-of_list (t ∷ ts) = ap (λ us. t ∷ us) (to_list-of_list ts)

-- how many members a forest has
abbrev pub count : Forest → ℕ
count no_trees = 0
count (twig n u d below beside) = 1 + count below + count beside

-- how many members a tree has
abbrev pub tree_size : Tree → ℕ
tree_size t = 1 + count t.below

-- Its code: a word in Polish notation, read back from its end.
abbrev Word : Type 0
Word = List (Option (ℕ × (Option ℕ × Option ℕ)))

abbrev word : Forest → Word
word no_trees = None ∷ []
word (twig n u d below beside) = Some (n, (u, d)) ∷ (word below ++ word beside)

abbrev put : ℕ × (Option ℕ × Option ℕ) → List Forest → List Forest
put a [] = []
put a (f ∷ []) = []
put a (f ∷ g ∷ fs) = twig a.0 a.1.0 a.1.1 f g ∷ fs

abbrev read : Word → List Forest
read [] = []
read (None ∷ w) = no_trees ∷ read w
read (Some a ∷ w) = put a (read w)

read-word : (f : Forest) (w : Word) → read (word f ++ w) ≡ f ∷ read w
read-word no_trees w = refl
read-word (twig n u d below beside) w =
    ap (λ v. put (n, (u, d)) (read v)) (append_assoc (word below) (word beside) w)
    ∙ ap (put (n, (u, d))) (read-word below (word beside ++ w))
    ∙ ap (λ fs. put (n, (u, d)) (below ∷ fs)) (read-word beside w)

abbrev first_of : List Forest → Forest
first_of [] = no_trees
first_of (f ∷ fs) = f

pub read_back : (f : Forest) → first_of (read (word f ++ [])) ≡ f
read_back f = ap first_of (read-word f [])

-- a forest is stored as its word
abbrev pub coded_forest : Coded Forest
coded_forest =
    code_by Word (coded_list (coded_option (coded× coded_ℕ (coded× (coded_option coded_ℕ) (coded_option coded_ℕ)))))
    (λ f. word f ++ []) (λ w. first_of (read w)) read_back

-- a tree is stored as its parts
abbrev pub coded_tree : Coded Tree
coded_tree =
    code_by (ℕ × (Option ℕ × (Option ℕ × Forest)))
    (coded× coded_ℕ (coded× (coded_option coded_ℕ) (coded× (coded_option coded_ℕ) coded_forest)))
    (λ t. (t.node, (t.up, (t.down, t.below)))) (λ p. tree p.0 p.1.0 p.1.1.0 p.1.1.1) (λ _. refl)

-- no tree is greater than the forest
pub most_size : (ts : List Tree) → most (λ t. tree_size t + 1) ts ≤ 1 + count (of_list ts)
most_size [] = omega arith
most_size (t ∷ ts) = omega (arith, most_size ts)
