-- Heavy children, and how far each child's number is ahead of its parent's.
use Rattle.std.specs.Prelude.{◌≡◌, ℕ, ◌+◌, ◌<◌, ◌≤◌, ◌⊎◌, true, List, [], length, take, get_or, slice_index}
use Rattle.route_tree.specs.Rose.{Tree, of_list, count}
use Rattle.route_tree.specs.Order.{heaviest}
use Rattle.route_tree.specs.Front.{heavy_at}
use Rattle.route_tree.specs.Growth.{is_parent}
use Rattle.route_tree.specs.declared.member.Member.{Member}
use Rattle.heavy_labels.specs.ByNode.{nobody, node_at, kids_of}

-- h is the place of the heavy one among the children of the node n that were met
pub record IsHeavyKid (ms : List Member) (n : ℕ) (met : List ℕ) (h : ℕ) : Type 0 where
  pub at : ℕ
  pub there : at < length met
  pub is : slice_index met at ≡ h
  pub kid : is_parent n (get_or ms h nobody).parent ≡ true
  pub before : length (kids_of ms n (take at met)) ≡ heavy_at (kids_of ms n met)

-- the same, where 0 stands for no child: the root is nobody's
abbrev pub IsHeavyOf : List Member → ℕ → List ℕ → ℕ → Type 0
IsHeavyOf ms n met h = ((kids_of ms n met ≡ []) × (h ≡ 0)) ⊎ IsHeavyKid ms n met h

-- each member's number is the place of its heavy child among those that were met
pub record AreHeavy (ms : List Member) (met heavy : List ℕ) : Type 0 where
  pub length_is : length heavy ≡ length ms
  pub each : (k : ℕ) → k < length ms → IsHeavyOf ms (node_at ms k) met (slice_index heavy k)

-- Of all children of a member `met` come before one: so far its number is ahead of the member's. The heavy one is next to the
-- member, and the others follow as they come.
pub record IsAhead (all met : List Tree) (ahead : ℕ) : Type 0 where
  pub before : length met < heavy_at all → ahead ≡ 1 + heaviest all + count (of_list met)
  pub heavy : length met ≡ heavy_at all → ahead ≡ 1
  pub behind : heavy_at all < length met → ahead ≡ 1 + count (of_list met)

-- how many members the children that were met have, but for the heavy one's
pub record AreCounted (all met : List Tree) (counted : ℕ) : Type 0 where
  pub before : length met ≤ heavy_at all → counted ≡ count (of_list met)
  pub behind : heavy_at all < length met → counted + heaviest all ≡ count (of_list met)

-- the same for each member, where the first j places of the order were met
pub record AreBeside (ms : List Member) (is : List ℕ) (j : ℕ) (beside : List ℕ) : Type 0 where
  pub length_is : length beside ≡ length ms
  pub each : (k : ℕ) → k < length ms → AreCounted (kids_of ms (node_at ms k) is) (kids_of ms (node_at ms k) (take j is)) (slice_index beside k)

-- the numbers of those at the first j places say how far each is ahead of its parent
pub record AreAheadTo (ms : List Member) (is : List ℕ) (j : ℕ) (ahead : List ℕ) : Type 0 where
  pub length_is : length ahead ≡ length ms
  pub each : (i k : ℕ) → i < j → k < length ms → is_parent (node_at ms k) (get_or ms (slice_index is i) nobody).parent ≡ true
      → IsAhead (kids_of ms (node_at ms k) is) (kids_of ms (node_at ms k) (take i is)) (slice_index ahead (slice_index is i))
