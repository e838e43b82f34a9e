-- What holds of every scheme that keeps the rules: statements that `scheme_laws` proves.
use Rattle.std.specs.Prelude.{◌≡◌, ◌↔◌, ◌⊎◌, ℕ, ◌≤◌, ◌<◌, Bool, true, Option, Some, None, IsSome, List, length}
use Rattle.std.specs.List.{Contains}
use Rattle.std.specs.List.Sorted.{IsStrictlyIncreasing}
use Rattle.graph_edits.specs.Edges.{Network, IsSound}
use Rattle.graph_edits.specs.Walks.{IsWalk, walk_length, IsLeast}
use Rattle.landmarks.specs.declared.near.Near.{Near}
use Rattle.schemes.specs.declared.parts.Parts.{Parts}
use Rattle.schemes.specs.Entry.{Entry}
use Rattle.schemes.specs.Tables.{tables}
use Rattle.schemes.specs.Checks.{IsChecked}
use Rattle.schemes.specs.Service.{Serves}

-- a walk from r to x is shorter than every walk from a landmark to x
abbrev pub IsNearer : Network → (ℕ → Bool) → ℕ → List ℕ → ℕ → Type 0
IsNearer m landmark r xs x = (a : ℕ) (ys : List ℕ) → a < m.nodes → landmark a ≡ true → IsWalk m.edges a ys x → walk_length m.edges r xs < walk_length m.edges a ys

-- x is in the tree of r: a landmark's tree has all that it reaches, another node's all that is nearer to it than to every landmark
abbrev pub IsInTree : Network → (ℕ → Bool) → ℕ → ℕ → Type 0
IsInTree m landmark r x = (r < m.nodes) × ((xs : List ℕ) × (IsWalk m.edges r xs x × ((landmark r ≡ true) ⊎ IsNearer m landmark r xs x)))

-- q is the nearest landmark of x with its distance, the smaller number where two are as near
pub record IsNearestLandmark (m : Network) (landmark : ℕ → Bool) (x : ℕ) (q : Near) : Type 0 where
  pub holds : landmark q.landmark ≡ true
  pub distance : IsLeast m.edges (λ s. s ≡ q.landmark) x q.distance
  pub nearest : (a y : ℕ) → a < m.nodes → landmark a ≡ true → IsLeast m.edges (λ s. s ≡ a) x y → (q.distance < y) ⊎ ((q.distance ≡ y) × (q.landmark ≤ a))

-- what x has is its nearest landmark, and it has none only where no landmark reaches it
abbrev pub NearestIsRight : Network → (ℕ → Bool) → ℕ → Option Near → Type 0
NearestIsRight m landmark x None = (a : ℕ) (ys : List ℕ) → a < m.nodes → landmark a ≡ true → IsWalk m.edges a ys x → ⊥
NearestIsRight m landmark x (Some q) = IsNearestLandmark m landmark x q

-- a node has an entry for a root exactly where it is in the root's tree
abbrev pub HasTrees : Network → Parts → Type 0
HasTrees m p = (x r : ℕ) → IsSome ((tables p).entry x r) ↔ IsInTree m (tables p).landmark r x

-- the nearest landmark of each node is right
abbrev pub HasNearest : Network → Parts → Type 0
HasNearest m p = (x : ℕ) → NearestIsRight m (tables p).landmark x ((tables p).nearest x)

-- a scheme that keeps the rules serves the network
abbrev pub CheckedServes : Type 0
CheckedServes = (m : Network) (p : Parts) → IsSound m → IsChecked m p → Serves m (tables p)

-- the distance of every entry is that of its node from its root
abbrev pub EntriesAreExact : Type 0
EntriesAreExact = (m : Network) (p : Parts) → IsSound m → IsChecked m p → (x r : ℕ) (e : Entry) → (tables p).entry x r ≡ Some e → IsLeast m.edges (λ s. s ≡ r) x e.distance

-- its entries are those of the trees
abbrev pub EntriesAreTrees : Type 0
EntriesAreTrees = (m : Network) (p : Parts) → IsSound m → IsChecked m p → HasTrees m p

-- its nearest landmarks are right
abbrev pub NearestAreRight : Type 0
NearestAreRight = (m : Network) (p : Parts) → IsSound m → IsChecked m p → HasNearest m p

-- Where the rules hold, so many are the roots in whose tree x is: an ascending list of that length has just these.
abbrev pub AreTreesOf : Parts → ℕ → ℕ → Type 0
AreTreesOf p x count = (m : Network) → IsSound m → IsChecked m p → (roots : List ℕ) × (IsStrictlyIncreasing roots × ((length roots ≡ count) × ((r : ℕ) → Contains roots r ↔ IsInTree m (tables p).landmark r x)))
