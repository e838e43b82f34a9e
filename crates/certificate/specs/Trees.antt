-- What the swift pass finds right: entries, root by root.
use Rattle.std.specs.Prelude.{◌≡◌, ℕ, ◌<◌, ◌≤◌, List, get_or, length, slice_index, ◌+◌, ◌*◌, All}
use Rattle.certificate.specs.Words.{Parts, Entry, Network, FitsRoot, tables, directory_at, entries_at, roots_of}
use Rattle.certificate.specs.Climbs.{HoldsFirst, IsHomeRight, IsLinked}
use Rattle.certificate.specs.Entries.{HasOrderAt, IsListedBack, IsListedRight, IsNearestAt, IsStrictAt}
use Rattle.certificate.specs.Rows.{IsSwept}

-- all that the rules say of one entry of x
pub record IsEntryRight (m : Network) (p : Parts) (x : ℕ) (e : Entry) : Type 0 where
  pub swept : IsSwept m (tables p) x e
  pub strict : IsStrictAt (tables p) x e
  pub listed : IsListedBack (tables p) x e

-- all entries of nodes in front of their places are right, if they are for no root below the first
abbrev pub AreRightTo : Network → Parts → ℕ → List ℕ → Type 0
AreRightTo m p first places = (x j : ℕ) (d : Entry) → x < m.nodes → j < slice_index places x → j < length (entries_at p x)
    → first ≤ (get_or (entries_at p x) j d).root → IsEntryRight m p x (get_or (entries_at p x) j d)

-- places go on behind entries that are right alone
pub record GoOn (m : Network) (p : Parts) (old new : List ℕ) : Type 0 where
  pub room : length new ≡ length old
  pub right : (first : ℕ) → AreRightTo m p first old → AreRightTo m p first new

-- no entry at a place is for a root below r
abbrev pub ArePast : Parts → ℕ → ℕ → List ℕ → Type 0
ArePast p nodes r places = (x : ℕ) → x < nodes → slice_index places x < length (entries_at p x) → r ≤ slice_index (roots_of (entries_at p x)) (slice_index places x)

-- what the rules say of r alone
pub record IsRootRight (m : Network) (p : Parts) (r : ℕ) : Type 0 where
  pub root : FitsRoot (tables p) r
  pub nearest : IsNearestAt p r
  pub order : HasOrderAt p r
  pub listed : IsListedRight p r
  pub linked : All (IsLinked m (tables p) r) (directory_at p r)
  pub home : HoldsFirst m p → IsHomeRight m p r

-- that is right, and so are all entries for r
pub record IsTreeRight (m : Network) (p : Parts) (r : ℕ) : Type 0 where
  pub root : IsRootRight m p r
  pub entries : (x : ℕ) → x < m.nodes → All (λ e. e.root ≡ r → IsEntryRight m p x e) (entries_at p x)

-- ---- ranges of nodes, tested each by itself: each has so many nodes, but for the last ones, which end with the nodes

-- it is so of each node of a network and its parts
abbrev pub HoldOfAll : (Network → Parts → ℕ → Type 0) → Network → Parts → Type 0
HoldOfAll P m p = (x : ℕ) → x < m.nodes → P m p x

-- it is so of each node from the first to below the last
abbrev pub HoldBetween : (ℕ → Type 0) → ℕ → ℕ → Type 0
HoldBetween P first last = (x : ℕ) → first ≤ x → x < last → P x

-- it is so of each node of the range i
abbrev pub HoldInRange : (ℕ → Type 0) → ℕ → ℕ → ℕ → Type 0
HoldInRange P nodes size i = (x : ℕ) → i * size ≤ x → x < i * size + size → x < nodes → P x

-- it is so of each node of the range i of a network and its parts
abbrev pub HoldInPart : (Network → Parts → ℕ → Type 0) → Network → Parts → ℕ → ℕ → Type 0
HoldInPart P m p size i = HoldInRange (P m p) m.nodes size i
