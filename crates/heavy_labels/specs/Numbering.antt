-- Records and labels of the members of a route tree, and one step by a label.
use Rattle.std.specs.Prelude.{◌≡◌, ◌≢◌, ℕ, ◌+◌, ◌≤◌, Bool, true, false, cond, nat_lt, ◌==◌, ◌⊎◌, Option, Some, None, List, [], ◌∷◌, ◌++◌, length, reverse, slice_get}
use Rattle.heavy_labels.specs.Label.{Label}
use Rattle.route_tree.specs.Rose.{Forest, no_trees, twig, count, Tree}

-- A member's number and the last below it, the last below its heavy child, the number of light edges above it, and the
-- ports to its parent and to its heavy child
pub record Record : Type 0 where
  pub first : ℕ
  pub last : ℕ
  pub heavy_last : ℕ
  pub light_depth : ℕ
  pub parent_port : Option ℕ
  pub heavy_port : Option ℕ

-- a member: its node and its parent, the ports between the two, its record and its label
pub record Place : Type 0 where
  pub node : ℕ
  pub parent : Option ℕ
  pub up : Option ℕ
  pub down : Option ℕ
  pub tree_record : Record
  pub label : Label

-- a member and its ancestors, the nearest first
abbrev pub Line : Type 0
Line = List Place

-- a port, or 0 for none
abbrev pub or_zero : Option ℕ → ℕ
or_zero None = 0
or_zero (Some p) = p

-- the heavy child stands first: the last number below it, or its parent's own number where there is none
abbrev pub heavy_last : ℕ → Forest → ℕ
heavy_last f no_trees = f
heavy_last f (twig n u d below beside) = f + 1 + count below

-- the port to the heavy child
abbrev pub heavy_port : Forest → Option ℕ
heavy_port no_trees = None
heavy_port (twig n u d below beside) = d

-- the node of a line's member
abbrev pub node_of : Line → Option ℕ
node_of [] = None
node_of (p ∷ ps) = Some p.node

-- the member with number f, whose light ports are ls
abbrev pub place : ℕ → Option ℕ → Option ℕ → Forest → ℕ → List ℕ → Line → Place
place n u d below f ls above = record {
  node = n;
  parent = node_of above;
  up = u;
  down = d;
  tree_record = record {
    first = f;
    last = f + count below;
    heavy_last = heavy_last f below;
    light_depth = length ls;
    parent_port = u;
    heavy_port = heavy_port below;
  };
  label = record { first = f; lights = ls };
}

-- the light ports at a child of a member with the light ports ls: an edge to any child but the first is light
abbrev pub lights_at : Bool → List ℕ → Option ℕ → List ℕ
lights_at true ls d = ls
lights_at false ls d = ls ++ or_zero d ∷ []

-- Each member of a forest with its ancestors, in preorder: the first tree of it is the heavy one where h says so, f is
-- the first number, and ls are the light ports of the parent, whose line is `above`.
abbrev pub lines : Forest → Bool → ℕ → List ℕ → Line → List Line
lines no_trees h f ls above = []
lines (twig n u d below beside) h f ls above =
    let here = place n u d below f (lights_at h ls d) above ∷ above in
    here ∷ (lines below true (f + 1) (lights_at h ls d) here ++ lines beside false (f + 1 + count below) ls above)

-- those of a whole tree
abbrev pub tree_lines : Tree → List Line
tree_lines t =
    let here = place t.node None None t.below 0 [] [] ∷ [] in
    here ∷ lines t.below true 1 [] here

-- what one step says
pub data Step : Type 0 where
  arrived : Step
  port : ℕ → Step
  no_parent : Step
  no_light : Step

-- the number of a refusal
abbrev pub refusal_number : Step → Option ℕ
refusal_number arrived = None
refusal_number (port p) = None
refusal_number no_parent = Some 1
refusal_number no_light = Some 2

-- the port, or the other answer where there is none
abbrev pub by_port : Step → Option ℕ → Step
by_port other None = other
by_port other (Some p) = port p

-- One step by a label: arrived where it is the member's own; to the parent where its number isn't below the member; to the
-- heavy child where it's there; and else by the label's port for this light depth
abbrev pub step : Record → Label → Step
step r l =
    cond (l.first == r.first) arrived
    (cond (nat_lt l.first r.first) (by_port no_parent r.parent_port)
    (cond (nat_lt r.last l.first) (by_port no_parent r.parent_port)
    (cond (nat_lt r.heavy_last l.first) (by_port no_light (slice_get l.lights r.light_depth))
    (by_port no_light r.heavy_port))))

-- the port q leads from one member to its parent, or to a child of it
abbrev pub Joins : Place → Place → ℕ → Type 0
Joins a b q = ((a.parent ≡ Some b.node) × (a.up ≡ Some q)) ⊎ ((b.parent ≡ Some a.node) × (b.down ≡ Some q))

-- the steps by a label go along a list of members, and say at its last one that they arrived
abbrev pub Follows : Label → List Place → Type 0
Follows l [] = ⊥
Follows l (a ∷ []) = step a.tree_record l ≡ arrived
Follows l (a ∷ b ∷ rest) = ((q : ℕ) × ((step a.tree_record l ≡ port q) × Joins a b q)) × Follows l (b ∷ rest)

-- a place is none of a list's
abbrev pub IsApart : Place → List Place → Type 0
IsApart p [] = Unit {0}
IsApart p (q ∷ qs) = (p ≢ q) × IsApart p qs

-- no place stands twice in a list
abbrev pub IsSimple : List Place → Type 0
IsSimple [] = Unit {0}
IsSimple (p ∷ ps) = IsApart p ps × IsSimple ps

-- The way in the tree between two members: up to an ancestor of both, and down again, over no more edges than m,
-- with no place twice
pub record Way (x v : Line) (l : Label) (m : ℕ) : Type 0 where
  pub up : List Place
  pub at : Place
  pub down : List Place
  pub above : Line
  pub from : x ≡ up ++ at ∷ above
  pub to : v ≡ down ++ at ∷ above
  pub follows : Follows l (up ++ at ∷ reverse down)
  pub simple : IsSimple (up ++ at ∷ reverse down)
  pub short : length up + length down ≤ m

-- a line is one of a list
abbrev pub Among : Line → List Line → Type 0
Among x [] = ⊥
Among x (y ∷ ys) = (x ≡ y) ⊎ Among x ys

-- the label of a line's member
abbrev pub label_of : Line → Label
label_of [] = record { first = 0; lights = [] }
label_of (p ∷ ps) = p.label
