-- What each rule says of one entry of a node, and of one node.
use Rattle.std.specs.Prelude.{◌≡◌, ◌≢◌, ℕ, ◌+◌, ◌<◌, ◌≤◌, ◌⊎◌, ◌↔◌, true, false, Some, None, IsSome, MatchOption, List, [], length, slice_index, All}
use Rattle.certificate.specs.Words.{Parts, Entry, Near, Network, weight_in, neighbours_of, neighbours, Tables, tables, entries_at, directory_at, ports_at, roots_of, nodes_of, IsStrictlyIncreasing}

-- each entry of each node
abbrev pub EachEntry : Network → Parts → (ℕ → Entry → Type 0) → Type 0
EachEntry m p P = (x : ℕ) → x < m.nodes → All (P x) (entries_at p x)

-- every node's entries ascend by root
abbrev pub AllAscend : Parts → Type 0
AllAscend p = (x : ℕ) → IsStrictlyIncreasing (roots_of (entries_at p x))

-- the first n of a list's roots are below r
abbrev pub AreBelow : ℕ → ℕ → List Entry → Type 0
AreBelow r n es = (k : ℕ) → k < n → slice_index (roots_of es) k < r

-- ---- Shape

-- every list of nodes has a place for each
abbrev pub HasPlaces : ℕ → Parts → Type 0
HasPlaces n p =
    (p.nodes ≡ n) × ((length p.landmarks.items ≡ n) × ((length p.ports.items ≡ n) × ((length p.nearest.items ≡ n)
    × ((length p.entries.items ≡ n) × ((length p.directories.items ≡ n) × (length p.homes.items ≡ n))))))

-- the root is a node, and at any other node the parent is a neighbour with an entry for it
unfoldable pub HasParentAt : Network → Tables → ℕ → Entry → Type 0
HasParentAt m t x e = (y : ℕ) × ((e.parent ≡ Some y) × (IsSome (weight_in m x y) × IsSome (t.entry y e.root)))

-- the entry's parent is one where the node isn't the root itself
unfoldable pub IsEntryShaped : Network → Tables → ℕ → Entry → Type 0
IsEntryShaped m t x e = x ≢ e.root → HasParentAt m t x e

-- a node's entry for itself
unfoldable pub HasOwn : Tables → ℕ → Type 0
HasOwn t x = (e : Entry) × ((t.entry x x ≡ Some e) × ((e.distance ≡ 0) × (e.parent ≡ None)))

-- a node's ports are its neighbours, and its entries ascend by root, have one for itself, and are for nodes
unfoldable pub IsNodeFramed : Network → Parts → ℕ → Type 0
IsNodeFramed m p x = (ports_at p x ≡ neighbours m x) × (IsStrictlyIncreasing (roots_of (entries_at p x)) × (HasOwn (tables p) x × All (λ e. e.root < m.nodes) (entries_at p x)))

-- what Shape says but for the parents of entries
unfoldable pub IsFramed : Network → Parts → Type 0
IsFramed m p = HasPlaces m.nodes p × ((x : ℕ) → x < m.nodes → IsNodeFramed m p x)

-- ---- Edges

-- over an edge to f.0 of weight f.1
unfoldable pub IsClosedOver : Tables → Entry → ℕ × ℕ → Type 0
IsClosedOver t e f =
    ((g : Entry) × ((t.entry f.0 e.root ≡ Some g) × (g.distance ≤ e.distance + f.1)))
    ⊎ ((t.entry f.0 e.root ≡ None) × ((t.landmark e.root ≡ false) × ((q : Near) × ((t.nearest f.0 ≡ Some q) × (q.distance ≤ e.distance + f.1)))))

-- the same over each edge of x
unfoldable pub IsClosedAt : Network → Tables → ℕ → Entry → Type 0
IsClosedAt m t x e = All (IsClosedOver t e) (neighbours_of m x)

-- ---- Parents

-- where the neighbour f.0 is the entry's parent, it gives the distance over the edge; where it's before the parent, it doesn't
unfoldable pub IsTightOver : Tables → Entry → ℕ × ℕ → Type 0
IsTightOver t e f = (y : ℕ) (g : Entry) → e.parent ≡ Some y → t.entry f.0 e.root ≡ Some g
    → (f.0 ≡ y → e.distance ≡ g.distance + f.1) × (f.0 < y → e.distance ≢ g.distance + f.1)

-- the same over each edge of x
unfoldable pub IsTightAt : Network → Tables → ℕ → Entry → Type 0
IsTightAt m t x e = All (IsTightOver t e) (neighbours_of m x)

-- what Edges and Parents say of the entry over the edge to f.0 of weight f.1
unfoldable pub IsRightOver : Tables → Entry → ℕ × ℕ → Type 0
IsRightOver t e f = IsClosedOver t e f × IsTightOver t e f

-- ---- Strict

-- the entry's distance is below the nearest landmark's, if its root is no landmark
abbrev pub IsStrictAt : Tables → ℕ → Entry → Type 0
IsStrictAt t x e = (q : Near) → t.landmark e.root ≡ false → t.nearest x ≡ Some q → e.distance < q.distance

-- ---- Nearest

-- q is a landmark at its distance
unfoldable pub IsThere : Tables → ℕ → Near → Type 0
IsThere t x q = (t.landmark q.landmark ≡ true) × ((e : Entry) × ((t.entry x q.landmark ≡ Some e) × (e.distance ≡ q.distance)))

-- q is no farther than the entry's root, if that is a landmark
unfoldable pub IsNoNearer : Tables → Near → Entry → Type 0
IsNoNearer t q e = t.landmark e.root ≡ true → (q.distance < e.distance) ⊎ ((q.distance ≡ e.distance) × (q.landmark ≤ e.root))

-- what a node has as its nearest landmark is one by its entries; it has none only where no entry is for a landmark
unfoldable pub IsNearestAt : Parts → ℕ → Type 0
IsNearestAt p x = MatchOption ((tables p).nearest x) (All (λ e. (tables p).landmark e.root ≡ false) (entries_at p x)) (λ q. IsThere (tables p) x q × All (IsNoNearer (tables p) q) (entries_at p x))

-- ---- Directories

-- a root that is no landmark lists the entry's node
unfoldable pub IsListedBack : Tables → ℕ → Entry → Type 0
IsListedBack t x e = t.landmark e.root ≡ false → IsSome (t.listed e.root x)

-- no node is listed by a landmark, and none that has no entry
unfoldable pub IsListedRight : Parts → ℕ → Type 0
IsListedRight p u = ((tables p).landmark u ≡ true → directory_at p u ≡ []) × ((tables p).landmark u ≡ false → All (λ e. IsSome ((tables p).entry e.node u)) (directory_at p u))

-- a node's directory ascends, and the node has a home label exactly where it has a nearest landmark
unfoldable pub HasOrderAt : Parts → ℕ → Type 0
HasOrderAt p u = IsStrictlyIncreasing (nodes_of (directory_at p u)) × (IsSome ((tables p).home u) ↔ IsSome ((tables p).nearest u))

-- and it lists whom it should, as those do in whose trees the node is
unfoldable pub HasDirectoryAt : Parts → ℕ → Type 0
HasDirectoryAt p u = HasOrderAt p u × (IsListedRight p u × All (IsListedBack (tables p) u) (entries_at p u))
