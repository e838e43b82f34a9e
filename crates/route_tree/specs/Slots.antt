-- The children that wait for the members whose trees are not yet closed, a slot a member.
use Rattle.std.specs.Prelude.{◌≡◌, ◌≢◌, ℕ, ◌<◌, Option, Some, List, [], ◌∷◌, ◌++◌, length, drop, get_or, slice_get, reverse}
use Rattle.std.specs.declared.vec.Vec.{Vec}
use Rattle.route_tree.specs.Rose.{Tree}
use Rattle.route_tree.specs.Growth.{trees_on, subtrees}
use Rattle.route_tree.specs.declared.member.Member.{Member}

-- the trees of the members that hang on the node n, the last member's first
abbrev pub hanging : ℕ → List Member → List Tree
hanging n ms = reverse (trees_on n ms (subtrees ms))

-- n slots, and in each the trees of the members from n on that hang on its member
pub record Waits {A : Type 0} (ms : List Member) (n : ℕ) (slots : List (Vec Tree A)) : Type 0 where
  pub count : length slots ≡ n
  pub each : (k : ℕ) (s : Vec Tree A) (d : Member) → slice_get slots k ≡ Some s → s.items ≡ hanging (get_or ms k d).node (drop n ms)

-- t was put into the slot p
pub record IsHung {A : Type 0} (old : List (Vec Tree A)) (p : ℕ) (t : Tree) (new : List (Vec Tree A)) : Type 0 where
  pub count : length new ≡ length old
  pub other : (k : ℕ) (s : Vec Tree A) → k ≢ p → slice_get new k ≡ Some s → slice_get old k ≡ Some s
  pub here : (s : Vec Tree A) → slice_get new p ≡ Some s → (o : Vec Tree A) × ((slice_get old p ≡ Some o) × (s.items ≡ o.items ++ t ∷ []))

-- the parent stands at p, before n
pub record StandsAt (ms : List Member) (n : ℕ) (parent : Option ℕ) (p : ℕ) : Type 0 where
  pub before : p < n
  pub is : (d : Member) → parent ≡ Some (get_or ms p d).node
