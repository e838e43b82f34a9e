-- Members in the order of their nodes, and the children of one among them.
use Rattle.std.specs.Prelude.{◌≡◌, ℕ, ◌<◌, ◌↔◌, ◌⊎◌, cond, None, List, [], ◌∷◌, length, get_or}
use Rattle.route_tree.specs.Rose.{Tree, tree, no_trees}
use Rattle.route_tree.specs.Growth.{is_parent, subtrees}
use Rattle.route_tree.specs.declared.member.Member.{Member}
use Rattle.heavy_labels.specs.declared.by_node.Spot.{Spot}

-- what stands for a member past the end
abbrev pub nobody : Member
nobody = record { node = 0; parent = None; up = None; down = None }

-- and for its tree
abbrev pub no_tree : Tree
no_tree = tree 0 None None no_trees

-- the node of the member at a place
abbrev pub node_at : List Member → ℕ → ℕ
node_at ms i = (get_or ms i nobody).node

-- the tree of the member at a place
abbrev pub tree_of : List Member → ℕ → Tree
tree_of ms i = get_or (subtrees ms) i no_tree

-- of the members at these places, the trees of those whose parent is the node n
abbrev pub kids_of : List Member → ℕ → List ℕ → List Tree
kids_of ms n [] = []
kids_of ms n (i ∷ is) = cond (is_parent n (get_or ms i nobody).parent) (tree_of ms i ∷ kids_of ms n is) (kids_of ms n is)

-- the number is one of a list
abbrev pub IsAmong : ℕ → List ℕ → Type 0
IsAmong i [] = ⊥
IsAmong i (j ∷ js) = (i ≡ j) ⊎ IsAmong i js

-- the members at these places have nodes above x
abbrev pub AreAbove : List Member → ℕ → List ℕ → Type 0
AreAbove ms x [] = Unit {0}
AreAbove ms x (i ∷ is) = (x < node_at ms i) × AreAbove ms x is

-- the nodes of the members at these places ascend
abbrev pub AscendByNode : List Member → List ℕ → Type 0
AscendByNode ms [] = Unit {0}
AscendByNode ms (i ∷ is) = AreAbove ms (node_at ms i) is × AscendByNode ms is

-- all places, in the order of the nodes of their members
pub record AreByNode (ms : List Member) (is : List ℕ) : Type 0 where
  pub ascend : AscendByNode ms is
  pub all : (i : ℕ) → IsAmong i is ↔ (i < length ms)

-- the place is that of the member with the node x
abbrev pub IsPlaceOf : List Member → ℕ → ℕ → Type 0
IsPlaceOf ms p x = (p < length ms) × (node_at ms p ≡ x)

-- the places of the members whose nodes are below x, in the order of these
pub record AreByNodeTo (ms : List Member) (x : ℕ) (is : List ℕ) : Type 0 where
  pub ascend : AscendByNode ms is
  pub inside : (i : ℕ) → IsAmong i is → (i < length ms) × (node_at ms i < x)
  pub all : (i : ℕ) → i < length ms → node_at ms i < x → IsAmong i is

-- each member's node and place, in the order of the members
pub record AreSpots (ms : List Member) (n : ℕ) (ss : List Spot) : Type 0 where
  pub length_is : length ss ≡ n
  pub each : (k : ℕ) (d : Spot) → k < n → ((get_or ss k d).place ≡ k) × ((get_or ss k d).node ≡ node_at ms k)
