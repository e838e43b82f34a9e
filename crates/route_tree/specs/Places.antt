-- The table from nodes to the places of members.
use Rattle.std.specs.Prelude.{◌≡◌, ℕ, ◌<◌, Option, Some, None, List, length, slice_index, slice_index_or}
use Rattle.route_tree.specs.declared.member.Member.{Member}

-- the place that a table has for a node
abbrev pub place_of : List (Option ℕ) → ℕ → Option ℕ
place_of table x = slice_index_or table x None

-- the table has room for each member's node, and the place of each of the first n there
pub record HasPlacesTo (ms : List Member) (n : ℕ) (table : List ℕ) : Type 0 where
  pub fits : (k : ℕ) (d : Member) → k < length ms → (slice_index_or ms k d).node < length table
  pub there : (k : ℕ) (d : Member) → k < n → slice_index table (slice_index_or ms k d).node ≡ k

-- the table has the place of each member at its node
abbrev pub HasPlaces : List Member → List ℕ → Type 0
HasPlaces ms table = HasPlacesTo ms (length ms) table

-- the table has the place of each of the first n members, and no other
pub record Finds (ms : List Member) (n : ℕ) (table : List (Option ℕ)) : Type 0 where
  pub fits : (k : ℕ) (d : Member) → k < length ms → (slice_index_or ms k d).node < length table
  pub there : (k : ℕ) (d : Member) → k < n → place_of table (slice_index_or ms k d).node ≡ Some k
  pub before : (x k : ℕ) → place_of table x ≡ Some k → k < n
  pub only : (x k : ℕ) (d : Member) → place_of table x ≡ Some k → (slice_index_or ms k d).node ≡ x
