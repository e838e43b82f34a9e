-- What `number` answers: the members in preorder, each with its record and its label.
use Rattle.std.specs.Prelude.{◌≡◌, ℕ, ◌+◌, ◌*◌, ◌^◌, ◌<◌, ◌≤◌, Bool, true, false, ◌⊎◌, Option, None, List, [], ◌∷◌, ◌++◌, length, map, reverse, IsPermutation}
use Rattle.route_tree.specs.Rose.{Forest, no_trees, twig, count, Tree, tree_size}
use Rattle.heavy_labels.specs.Label.{Label}
use Rattle.heavy_labels.specs.Numbering.{Record, Place, Line, Way, Among, place, lights_at, tree_lines}
use Rattle.route_tree.specs.Members.{members_of}
use Rattle.route_tree.specs.Shape.{HasPorts, IsHeavyHead, IsHeavyFirst}
use Rattle.heavy_labels.specs.Stepped.{record_of}
use Rattle.heavy_labels.specs.declared.label.TheConstants.{MOST_LIGHTS}
use Rattle.heavy_labels.specs.declared.numbered_member.NumberedMember.{NumberedMember}

-- a node with its record and its label
abbrev pub Brief : Type 0
Brief = ℕ × (Record × Label)

-- a listed member
abbrev pub seen : NumberedMember → Brief
seen n = (n.node, (record_of n.tree_record, n.label))

-- the member with the number f and the light ports ls
abbrev pub brief : ℕ → Option ℕ → Option ℕ → Forest → ℕ → List ℕ → Brief
brief n u d below f ls = let p = place n u d below f ls [] in (n, (p.tree_record, p.label))

-- the members of a forest, as `lines` has them
abbrev pub briefs : Forest → Bool → ℕ → List ℕ → List Brief
briefs no_trees h f ls = []
briefs (twig n u d below beside) h f ls =
    brief n u d below f (lights_at h ls d) ∷ (briefs below true (f + 1) (lights_at h ls d) ++ briefs beside false (f + 1 + count below) ls)

-- those of a tree whose root has the number f and the light ports ls
abbrev pub tree_briefs : Tree → ℕ → List ℕ → List Brief
tree_briefs t f ls = brief t.node t.up t.down t.below f ls ∷ briefs t.below true (f + 1) ls

-- the member of a line, as it is listed
abbrev pub head_brief : Line → Brief
head_brief [] = brief 0 None None no_trees 0 []
head_brief (p ∷ ps) = (p.node, (p.tree_record, p.label))

-- a place, as it is listed
abbrev pub brief_of : Place → Brief
brief_of p = (p.node, (p.tree_record, p.label))

-- the numbers of the listed members, in order, are f, f + 1, and so on
abbrev pub IsNumberedFrom : ℕ → List Brief → Type 0
IsNumberedFrom f [] = Unit {0}
IsNumberedFrom f (b ∷ bs) = (b.1.0.first ≡ f) × IsNumberedFrom (f + 1) bs

-- a place is one of a list's
abbrev pub IsOn : Place → List Place → Type 0
IsOn p [] = ⊥
IsOn p (q ∷ qs) = (p ≡ q) ⊎ IsOn p qs

-- a member is listed
abbrev pub IsListed : Brief → List Brief → Type 0
IsListed b [] = ⊥
IsListed b (c ∷ cs) = (b ≡ c) ⊎ IsListed b cs

-- The members of a tree are listed with their numbers, in any order.
pub record AreNumbersOf (t : Tree) (all : List Brief) : Type 0 where
  -- each member stands there with its record and its label
  pub each : (b : Brief) → IsListed b (map head_brief (tree_lines t)) → IsListed b all
  -- each member's node stands there once, and no other
  pub once : IsPermutation (map (λ m. m.node) (members_of t)) (map (λ b. b.0) all)

-- From the member b of the tree t the steps by the label of c follow the tree path to c and end there: each member on it
-- is listed, none stands twice, and it has fewer edges than the tree has members.
pub record Trip (t : Tree) (all : List Brief) (b c : Brief) : Type 0 where
  pub start : Line
  pub goal : Line
  pub start_among : Among start (tree_lines t)
  pub goal_among : Among goal (tree_lines t)
  pub start_is : head_brief start ≡ b
  pub goal_is : head_brief goal ≡ c
  pub way : Way start goal c.1.1 (count t.below)
  pub listed : (p : Place) → IsOn p (way.up ++ way.at ∷ reverse way.down) → IsListed (brief_of p) all

-- there is such a trip between any two of the listed members
abbrev pub LeadsEverywhere : Tree → List Brief → Type 0
LeadsEverywhere t all = (b c : Brief) → IsListed b all → IsListed c all → Trip t all b c

-- no label of a list has more light ports than a label has room for
abbrev pub HasFewLights : List Brief → Type 0
HasFewLights all = (b : Brief) → IsListed b all → length b.1.1.lights ≤ MOST_LIGHTS

-- the numbers and the light ports of a tree have room, and all its members below the root have their ports
pub record HasRoom (t : Tree) (f : ℕ) (ls : List ℕ) : Type 0 where
  pub numbers : f + tree_size t ≤ 2 ^ 16
  pub ports : HasPorts t.below
  pub heavy : IsHeavyHead t.below
  pub heavy_below : IsHeavyFirst t.below
  pub lights : (tree_size t + 1) * 2 ^ length ls < 2 ^ (MOST_LIGHTS + 2)
