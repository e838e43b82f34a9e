-- The members of a tree, as `grow` takes them.
use Rattle.std.specs.Prelude.{◌≡◌, ◌≢◌, ℕ, ◌<◌, ◌≤◌, Option, Some, None, List, [], ◌∷◌, ◌++◌, length, slice_index_or}
use Rattle.route_tree.specs.Rose.{Forest, no_trees, twig, Tree}
use Rattle.route_tree.specs.Growth.{IsEachOnce}
use Rattle.route_tree.specs.declared.member.TheConstants.{MOST_MEMBERS}
use Rattle.route_tree.specs.declared.member.Member.{Member}

-- a root has no parent and no ports
pub record IsRoot (m : Member) : Type 0 where
  pub parent : m.parent ≡ None
  pub up : m.up ≡ None
  pub down : m.down ≡ None

-- a member below the root has both ports
pub record HasBoth (m : Member) : Type 0 where
  pub up : (a : ℕ) × (m.up ≡ Some a)
  pub down : (b : ℕ) × (m.down ≡ Some b)

-- its parent is one of the first n members
abbrev pub HasParentBefore : List Member → ℕ → Member → Type 0
HasParentBefore ms n m = (k : ℕ) × ((k < n) × ((d : Member) → m.parent ≡ Some (slice_index_or ms k d).node))

-- members of one tree: the root first, and each other behind its parent
pub record AreMembers (ms : List Member) : Type 0 where
  pub some : 0 < length ms
  pub few : length ms ≤ MOST_MEMBERS
  pub once : IsEachOnce ms
  pub root : (d : Member) → IsRoot (slice_index_or ms 0 d)
  pub ports : (k : ℕ) (d : Member) → 0 < k → k < length ms → HasBoth (slice_index_or ms k d)
  pub parents : (k : ℕ) (d : Member) → 0 < k → k < length ms → HasParentBefore ms k (slice_index_or ms k d)

-- the members of trees that hang on p, each before those below it
abbrev pub listed : Option ℕ → Forest → List Member
listed p no_trees = []
listed p (twig n u d below beside) = record { node = n; parent = p; up = u; down = d } ∷ (listed (Some n) below ++ listed p beside)

-- the members that a tree has, with their parents and ports
abbrev pub members_of : Tree → List Member
members_of t = record { node = t.node; parent = None; up = t.up; down = t.down } ∷ listed (Some t.node) t.below

-- the member at k may follow those before it
pub record IsNext (ms : List Member) (k : ℕ) : Type 0 where
  pub fresh : (j : ℕ) (d e : Member) → j < k → (slice_index_or ms j d).node ≢ (slice_index_or ms k e).node
  pub root : k ≡ 0 → (d : Member) → IsRoot (slice_index_or ms k d)
  pub ports : 0 < k → (d : Member) → HasBoth (slice_index_or ms k d)
  pub parent : 0 < k → (d : Member) → HasParentBefore ms k (slice_index_or ms k d)
