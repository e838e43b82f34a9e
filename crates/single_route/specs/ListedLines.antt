-- Lines of ancestors in a tree that is listed as members with their parents.
use Rattle.std.specs.Prelude.{◌≡◌, ◌⊎◌, ℕ, Option, Some, None, List, [], ◌∷◌, ◌++◌, reverse, IfSome}
use Rattle.std.specs.List.{Contains}
use Rattle.distances.specs.declared.reach.Reached.{Reached}

-- the node of one of the members
abbrev pub HasMember : ℕ → List Reached → Type 0
HasMember x [] = ⊥
HasMember x (k ∷ ks) = (k.node ≡ x) ⊎ HasMember x ks

-- the parent of every member is that of a member before it
abbrev pub AreParentsBefore : List Reached → Type 0
AreParentsBefore tree = (front back : List Reached) (k : Reached) → tree ≡ front ++ k ∷ back → IfSome k.parent (λ y. HasMember y front)

-- what is above a member: its parent, or nothing
abbrev pub IsAbove : List Reached → ℕ → Option ℕ → Type 0
IsAbove tree x o = (k : Reached) × (Contains tree k × (k.node ≡ x) × (k.parent ≡ o))

-- at most one member has nothing above it
abbrev pub HasOneRoot : List Reached → Type 0
HasOneRoot tree = (x y : ℕ) → IsAbove tree x None → IsAbove tree y None → x ≡ y

-- from what `first` names over the nodes of the list, each followed by what is above it, to what `next` names
abbrev pub IsLine : List Reached → Option ℕ → List ℕ → Option ℕ → Type 0
IsLine tree first [] next = first ≡ next
IsLine tree first (x ∷ xs) next = (first ≡ Some x) × ((o : Option ℕ) × (IsAbove tree x o × IsLine tree o xs next))

-- the last of two lists are not one, where both are there
abbrev pub LastsDiffer : List ℕ → List ℕ → Type 0
LastsDiffer up down = (x : ℕ) (xs ys : List ℕ) → up ≡ xs ++ x ∷ [] → down ≡ ys ++ x ∷ [] → ⊥

-- what two lists end with both, up to where they differ, and the first of that
pub record IsFork (up down up_left down_left : List ℕ) (first : Option ℕ) : Type 0 where
  pub common : List ℕ
  pub up_is : up ≡ up_left ++ common
  pub down_is : down ≡ down_left ++ common
  pub differ : LastsDiffer up_left down_left
  pub begins : first ≡ elim common [ [] ↦ None | x ∷ xs ↦ Some x ]

-- from u up to `at`, and down to v, each by the parents that are listed
pub record IsListedPath (tree : List Reached) (u v : ℕ) (nodes : List ℕ) : Type 0 where
  pub up : List ℕ
  pub at : ℕ
  pub down : List ℕ
  pub rises : IsLine tree (Some u) up (Some at)
  pub falls : IsLine tree (Some v) down (Some at)
  pub differ : LastsDiffer up down
  pub listed : nodes ≡ up ++ at ∷ reverse down
