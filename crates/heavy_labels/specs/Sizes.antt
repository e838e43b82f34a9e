-- Places of parents, and sizes of trees: a number for each member.
use Rattle.std.specs.Prelude.{◌≡◌, ℕ, ◌+◌, ◌<◌, ◌==◌, cond, max, List, length, drop, get_or, slice_index}
use Rattle.route_tree.specs.Rose.{of_list, count}
use Rattle.route_tree.specs.Slots.{hanging, StandsAt}
use Rattle.route_tree.specs.declared.member.Member.{Member}

-- the first n members' numbers are the places of their parents
pub record AreParentsTo (ms : List Member) (n : ℕ) (above : List ℕ) : Type 0 where
  pub length_is : length above ≡ n
  pub each : (k : ℕ) (d : Member) → 0 < k → k < n → StandsAt ms k (get_or ms k d).parent (slice_index above k)

-- each member's number is the place of its parent
abbrev pub AreParents : List Member → List ℕ → Type 0
AreParents ms above = AreParentsTo ms (length ms) above

-- how many members the trees on the node n have
abbrev pub load : ℕ → List Member → ℕ
load n ms = count (of_list (hanging n ms))

-- Each member's number: itself, and the trees that hang on it, where those of the members before `left` aren't counted yet
abbrev pub AreSizes : List Member → ℕ → List ℕ → Type 0
AreSizes ms left sizes = (k : ℕ) (d : Member) → k < length ms → slice_index sizes k ≡ 1 + load (get_or ms k d).node (drop (max left (k + 1)) ms)

-- the size of a heavy child's tree, where 0 stands for no child
abbrev pub size_or_none : List ℕ → ℕ → ℕ
size_or_none sizes h = cond (h == 0) 0 (slice_index sizes h)
