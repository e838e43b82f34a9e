-- What is known of the tree of one root: its entries and labels, node by node, and the members that it was grown of.
use Rattle.std.specs.Prelude.{◌≡◌, ◌⊎◌, ◌↔◌, ℕ, ◌+◌, ◌<◌, ◌≤◌, true, cond, Option, Some, None, IsSome, List, [], ◌∷◌, length, false}
use Rattle.std.specs.Option.{option_map}
use Rattle.std.specs.List.Sorted.{IsStrictlyIncreasing}
use Rattle.graph_edits.specs.Edges.{Network, weight_in}
use Rattle.graph_edits.specs.Walks.{IsLeast}
use Rattle.distances.specs.Reach.{IsTree}
use Rattle.distances.specs.Search.{is_below}
use Rattle.distances.specs.Workspace.{reached_of}
use Rattle.route_tree.specs.Rose.{Tree}
use Rattle.route_tree.specs.Growth.{subtrees, first_or}
use Rattle.route_tree.specs.declared.member.Member.{Member}
use Rattle.heavy_labels.specs.Label.{Label}
use Rattle.heavy_labels.specs.Numbering.{Line, Place, tree_lines, Among}
use Rattle.heavy_labels.specs.Stepped.{record_of}
use Rattle.schemes.specs.Entry.{Entry}
use Rattle.schemes.specs.declared.parts.Parts.{Parts}
use Rattle.schemes.specs.declared.parts.Listed.{Listed}
use Rattle.landmarks.specs.declared.near.Near.{Near}
use Rattle.distances.specs.Nearest.{IsNearestOf}
use Rattle.distances.specs.declared.reach.Reached.{Reached}
use Rattle.distances.specs.declared.linked.Linked.{Linked}
use Rattle.schemes.specs.Ports.{neighbours, port_to}
use Rattle.schemes.specs.Tables.{tables, ports_at, entries_at, directory_at, first_entry, first_listed, roots_of, nodes_of}
use Rattle.schemes.specs.Checks.{up_port, down_port, IsListed}
use Rattle.node_table.specs.RowLists.{Row, entry_in, label_in}

-- the port at a node to its parent
abbrev pub up_by : Network → ℕ → Option ℕ → Option ℕ
up_by m x None = None
up_by m x (Some y) = port_to m x y

-- the parent's port to a node
abbrev pub down_by : Network → ℕ → Option ℕ → Option ℕ
down_by m x None = None
down_by m x (Some y) = port_to m y x

-- what is reached, as a member of the tree
abbrev pub member_of : Network → Reached → Member
member_of m k = record { node = k.node; parent = k.parent; up = up_by m k.node k.parent; down = down_by m k.node k.parent }

-- what is reached with its ports, as a member of the tree
abbrev pub linked_member : Linked → Member
linked_member k = record { node = k.reached.node; parent = k.reached.parent; up = k.up; down = k.down }

-- a node of the members
abbrev pub HasMember : ℕ → List Member → Type 0
HasMember x [] = ⊥
HasMember x (a ∷ ms) = (x ≡ a.node) ⊎ HasMember x ms

-- a node of none of the members
abbrev pub LacksMember : ℕ → List Member → Type 0
LacksMember x [] = Unit {0}
LacksMember x (a ∷ ms) = (x ≡ a.node → ⊥) × LacksMember x ms

-- no two members have one node
abbrev pub AreDistinct : List Member → Type 0
AreDistinct [] = Unit {0}
AreDistinct (a ∷ ms) = LacksMember a.node ms × AreDistinct ms

-- the first member has the node r
abbrev pub BeginsWith : ℕ → List Member → Type 0
BeginsWith r [] = ⊥
BeginsWith r (a ∷ ms) = a.node ≡ r

-- a member has the parent of its node's entry, and the ports between the two
pub record FitsEntry (m : Network) (f : ℕ → Option Entry) (a : Member) : Type 0 where
  pub entry : Entry
  pub is : f a.node ≡ Some entry
  pub parent : entry.parent ≡ a.parent
  pub up : a.up ≡ up_port m a.node (Some entry)
  pub down : a.down ≡ down_port m a.node (Some entry)

-- each member fits its entry, and all nodes whose parent it is stand behind it
abbrev pub IsLaid : Network → (ℕ → Option Entry) → List Member → Type 0
IsLaid m f [] = Unit {0}
IsLaid m f (a ∷ ms) = FitsEntry m f a × (((x : ℕ) (e : Entry) → f x ≡ Some e → e.parent ≡ Some a.node → HasMember x ms) × IsLaid m f ms)

-- from y, a node of the tree, the edge to x gives the distance d
abbrev pub IsTightFrom : Network → (ℕ → Option Entry) → ℕ → ℕ → ℕ → Type 0
IsTightFrom m f x d y = (e : Entry) × ((w : ℕ) × ((f y ≡ Some e) × ((weight_in m y x ≡ Some w) × (e.distance + w ≡ d))))

-- the smallest-numbered node from which x is reached at the distance d, and none at the root
abbrev pub IsParentIn : Network → (ℕ → Option Entry) → ℕ → ℕ → ℕ → Option ℕ → Type 0
IsParentIn m f r x d None = x ≡ r
IsParentIn m f r x d (Some y) = (x ≡ r → ⊥) × (IsTightFrom m f x d y × ((z : ℕ) → IsTightFrom m f x d z → y ≤ z))

-- the tree of r: f gives each of its nodes the entry, and g the label
pub record IsColumn (m : Network) (limit : ℕ → Option ℕ) (r : ℕ) (f : ℕ → Option Entry) (g : ℕ → Option Label) : Type 0 where
  pub exact : (x : ℕ) (e : Entry) → f x ≡ Some e → IsLeast m.edges (λ s. s ≡ r) x e.distance × (is_below e.distance (limit x) ≡ true)
  pub complete : (x d : ℕ) → IsLeast m.edges (λ s. s ≡ r) x d → is_below d (limit x) ≡ true → IsSome (f x)
  pub parents : (x : ℕ) (e : Entry) → f x ≡ Some e → IsParentIn m f r x e.distance e.parent
  pub labelled : (x : ℕ) → IsSome (f x) ↔ IsSome (g x)
  pub members : List Member
  pub distinct : AreDistinct members
  pub begins : BeginsWith r members
  pub laid : IsLaid m f members
  pub lines : (d : Tree) (p : Place) (above : Line) → Among (p ∷ above) (tree_lines (first_or d (subtrees members)))
      → (e : Entry) × ((f p.node ≡ Some e) × ((record_of e.tree_record ≡ p.tree_record) × (g p.node ≡ Some p.label)))

-- the rows are the tree of r: those of its nodes have the entries and the labels
abbrev pub AreRowsWithin : Network → (ℕ → Option ℕ) → ℕ → List Row → Type 0
AreRowsWithin m limit r ws = IsColumn m limit r (entry_in ws) (label_in ws)

-- what was reached is the tree of r under a limit that lets r in
abbrev pub IsTreeWithin : Network → (ℕ → Option ℕ) → ℕ → List Linked → Type 0
IsTreeWithin m limit r reached = IsTree m.edges r limit (reached_of reached) × (is_below 0 (limit r) ≡ true)

-- the distance at which the tree of r ends: at the nearest landmark's, but for a landmark's own tree
abbrev pub limit_in : Parts → ℕ → ℕ → Option ℕ
limit_in p r x = cond ((tables p).landmark r) None (option_map (λ q. q.distance) ((tables p).nearest x))

-- the tables hold the tree of r: its entries, its directory, and the home labels of the nodes whose nearest landmark it is
pub record HasColumn (m : Network) (p : Parts) (r : ℕ) : Type 0 where
  pub labels : ℕ → Option Label
  pub column : IsColumn m (limit_in p r) r (λ x. first_entry r (entries_at p x)) labels
  pub landmark : (tables p).landmark r ≡ true → directory_at p r ≡ []
  pub listed : (e : Listed) → IsListed e (directory_at p r) → labels e.node ≡ Some e.label
  pub ascend : IsStrictlyIncreasing (nodes_of (directory_at p r))
  pub complete : (tables p).landmark r ≡ false → (v : ℕ) → IsSome (labels v) → IsSome (first_listed v (directory_at p r))
  pub homes : (v : ℕ) (q : Near) → (tables p).nearest v ≡ Some q → q.landmark ≡ r → (tables p).home v ≡ labels v

-- all numbers of a list are below k, and each is below those that follow
abbrev pub AreBelow : ℕ → List ℕ → Type 0
AreBelow k [] = Unit {0}
AreBelow k (x ∷ xs) = (x < k) × AreBelow k xs

-- each number of a list is j or more
abbrev pub AreFrom : ℕ → List ℕ → Type 0
AreFrom j [] = Unit {0}
AreFrom j (x ∷ xs) = (j ≤ x) × AreFrom j xs

-- the tables hold the trees of the roots from j to below k, and nothing else
pub record IsBuiltBetween (m : Network) (p : Parts) (j k : ℕ) : Type 0 where
  pub nodes : p.nodes ≡ m.nodes
  pub landmarks : length p.landmarks.items ≡ m.nodes
  pub ports : length p.ports.items ≡ m.nodes
  pub neighbours_are : (x : ℕ) → x < m.nodes → ports_at p x ≡ neighbours m x
  pub nearest : length p.nearest.items ≡ m.nodes
  pub nearest_is : (v : ℕ) → IsNearestOf m.edges p.landmarks.items v ((tables p).nearest v)
  pub entries : length p.entries.items ≡ m.nodes
  pub directories : length p.directories.items ≡ m.nodes
  pub homes : length p.homes.items ≡ m.nodes
  pub ascend : (x : ℕ) → IsStrictlyIncreasing (roots_of (entries_at p x))
  pub below : (x : ℕ) → AreBelow k (roots_of (entries_at p x))
  pub from : (x : ℕ) → AreFrom j (roots_of (entries_at p x))
  pub columns : (r : ℕ) → j ≤ r → r < k → HasColumn m p r
  pub homes_near : (v : ℕ) → IsSome ((tables p).home v) → IsSome ((tables p).nearest v)
  pub fresh : (u : ℕ) → k ≤ u → directory_at p u ≡ []
  pub fresh_before : (u : ℕ) → u < j → directory_at p u ≡ []
  pub homes_fresh : (v : ℕ) (q : Near) → (tables p).nearest v ≡ Some q → k ≤ q.landmark → (tables p).home v ≡ None
  pub homes_before : (v : ℕ) (q : Near) → (tables p).nearest v ≡ Some q → q.landmark < j → (tables p).home v ≡ None
