-- What a look-up of an entry finds, and what is known ahead of it.
use Rattle.std.specs.Prelude.{◌≡◌, ℕ, ◌≤◌, false, Some, MatchOption, Option, ◌⊎◌, ◌<◌, None, List, get_or, length, slice_index}
use Rattle.certificate.specs.Words.{Bor, Near, Entry, parent_is, RefersTo, Tables, Parts, tables}
use Rattle.certificate.specs.declared.places.Ahead.{Ahead}

-- it is the entry of y for the root, or nothing where y has none
abbrev pub IsEntryOf : Tables → ℕ → ℕ → Option (Bor Entry) → Type 0
IsEntryOf t y root found = RefersTo (t.entry y root) found

-- it is the entry of y for the root, if y is a child of x there, or else nothing
abbrev pub IsChildOf : Tables → ℕ → ℕ → ℕ → Option (Bor Entry) → Type 0
IsChildOf t root x y found = MatchOption found (parent_is x (t.entry y root) ≡ false) (λ e. (t.entry y root ≡ Some e.now) × (e.now.parent ≡ Some x))

-- y has a nearest landmark, which is no farther than this
abbrev pub HasNearWithin : Tables → ℕ → ℕ → Type 0
HasNearWithin t y most = (q : Near) × ((t.nearest y ≡ Some q) × (q.distance ≤ most))

-- ---- what the swift pass knows of each node while it goes through the roots

-- no entry of a node is for a root from r on to below the one that is kept for the node
abbrev pub AreNext : Parts → ℕ → List ℕ → Type 0
AreNext p r nexts = (x q : ℕ) → r ≤ q → q < slice_index nexts x → (tables p).entry x q ≡ None

-- what is kept for a node is an entry of it, or for the root 65535
abbrev pub AreEntries : Parts → List Entry → Type 0
AreEntries p es = (x : ℕ) (d : Entry) → x < length es → ((get_or es x d).root ≡ 65535) ⊎ ((tables p).entry x (get_or es x d).root ≡ Some (get_or es x d))

-- both, at the root r
pub record IsAhead (p : Parts) (r : ℕ) (a : Ahead) : Type 0 where
  pub next : AreNext p r a.nexts.now
  pub entries : AreEntries p a.entries.now
