-- A tree as a search lists it, and whose tree it is.
use Rattle.std.specs.Prelude.{◌≡◌, ◌==◌, ℕ, Bool, true, List, map}
use Rattle.std.specs.List.{All, Contains, list_any}
use Rattle.graph_edits.specs.Edges.{EdgeMap}
use Rattle.distances.specs.Search.{IsAscending}
use Rattle.distances.specs.Reach.{IsParent, settled_of}
use Rattle.distances.specs.Workspace.{reached_of}
use Rattle.distances.specs.declared.linked.Linked.{Linked}
use Rattle.distances.specs.declared.reach.Reached.{Reached}
use Rattle.single_route.specs.LandmarkTrees.{IsMemberAt}
use Rattle.single_route.specs.LandmarkTrails.{IsRootFor}
use Rattle.single_route.specs.ListedLines.{HasMember}

-- the list has just the members of the tree of r, each with its distance and its parent, by ascending distance
pub record IsTreeOf (m : EdgeMap) (flags : List Bool) (r : ℕ) (tree : List Reached) : Type 0 where
  pub ascending : IsAscending (map settled_of tree)
  pub exact : All (λ k. IsMemberAt m flags r k.node k.distance) tree
  pub complete : (x d : ℕ) → IsMemberAt m flags r x d → (k : Reached) × (Contains tree k × (k.node ≡ x))
  pub parents : All (λ k. IsParent m r tree k.node k.distance k.parent) tree

-- the list is the tree in which a packet goes from u to v, and has both
pub record IsTreeFor (m : EdgeMap) (flags : List Bool) (u v : ℕ) (tree : List Reached) : Type 0 where
  pub root : ℕ
  pub by_rule : IsRootFor m flags u v root
  pub tree_is : IsTreeOf m flags root tree
  pub from : HasMember u tree
  pub to : HasMember v tree

-- where one was found, the members are the tree in which a packet goes from u to v
abbrev pub IsFoundFor : EdgeMap → List Bool → ℕ → ℕ → List Linked → Bool → Type 0
IsFoundFor m flags u v members found = found ≡ true → IsTreeFor m flags u v (reached_of members)

-- whether one of the members has this node
abbrev pub has_node : List Linked → ℕ → Bool
has_node members x = list_any (λ k. k.reached.node == x) members
