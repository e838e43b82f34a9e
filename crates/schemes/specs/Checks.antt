-- The rules that the tables of a scheme keep, in the order in which they are tested.
use Rattle.std.specs.Prelude.{◌≡◌, ◌≢◌, ◌↔◌, ◌⊎◌, ℕ, zero, suc, ◌+◌, ◌≤◌, ◌<◌, ◌==◌, Bool, true, false, Option, Some, None, IsSome, List, [], ◌∷◌, length, map, max}
use Rattle.std.specs.List.Sorted.{IsStrictlyIncreasing}
use Rattle.route_tree.specs.Rose.{no_trees, of_list, Tree, tree}
use Rattle.route_tree.specs.Order.{heaviest, fronted}
use Rattle.heavy_labels.specs.Label.{Label}
use Rattle.heavy_labels.specs.Numbering.{Line, Place, tree_lines, Among}
use Rattle.heavy_labels.specs.Stepped.{record_of}
use Rattle.schemes.specs.declared.parts.Parts.{Parts}
use Rattle.schemes.specs.Entry.{Entry}
use Rattle.schemes.specs.declared.parts.Listed.{Listed}
use Rattle.landmarks.specs.declared.near.Near.{Near}
use Rattle.graph_edits.specs.Edges.{Network, below as up_to, weight_in}
use Rattle.schemes.specs.Ports.{neighbours, port_to, filtered}
use Rattle.schemes.specs.Tables.{Tables, tables, ports_at, entries_at, directory_at}

-- the rule Shape (K1): the lists have a place for each node, the ports are the neighbours, and entries ascend and name nodes
pub record IsShaped (m : Network) (p : Parts) : Type 0 where
  pub nodes : p.nodes ≡ m.nodes
  pub landmarks : length p.landmarks.items ≡ m.nodes
  pub ports : length p.ports.items ≡ m.nodes
  pub nearest : length p.nearest.items ≡ m.nodes
  pub entries : length p.entries.items ≡ m.nodes
  pub directories : length p.directories.items ≡ m.nodes
  pub homes : length p.homes.items ≡ m.nodes
  pub neighbours_are : (x : ℕ) → x < m.nodes → ports_at p x ≡ neighbours m x
  pub roots_ascend : (x : ℕ) → x < m.nodes → IsStrictlyIncreasing (map (λ e. e.root) (entries_at p x))
  pub roots_inside : (x r : ℕ) (e : Entry) → (tables p).entry x r ≡ Some e → r < m.nodes
  pub own : (x : ℕ) → x < m.nodes → (e : Entry) × (((tables p).entry x x ≡ Some e) × ((e.distance ≡ 0) × (e.parent ≡ None)))
  pub parents : (x r : ℕ) (e : Entry) → (tables p).entry x r ≡ Some e → x ≢ r → (y : ℕ) × ((e.parent ≡ Some y) × (IsSome (weight_in m x y) × IsSome ((tables p).entry y r)))

-- the rule Edges (K2): over an edge to a node with an entry for the same root no distance is too great, and a node without one is as near to a landmark
abbrev pub IsClosed : Network → Tables → Type 0
IsClosed m t = (x y r w : ℕ) (e : Entry) → t.entry x r ≡ Some e → weight_in m x y ≡ Some w
    → ((f : Entry) × ((t.entry y r ≡ Some f) × (f.distance ≤ e.distance + w)))
    ⊎ ((t.entry y r ≡ None) × ((t.landmark r ≡ false) × ((q : Near) × ((t.nearest y ≡ Some q) × (q.distance ≤ e.distance + w)))))

-- the rule Parents (K3): the parent gives the distance, and no smaller neighbour does
abbrev pub HasParents : Network → Tables → Type 0
HasParents m t = (x y r : ℕ) (e : Entry) → t.entry x r ≡ Some e → e.parent ≡ Some y
    → ((w : ℕ) × ((f : Entry) × ((weight_in m y x ≡ Some w) × ((t.entry y r ≡ Some f) × (e.distance ≡ f.distance + w)))))
    × ((z w : ℕ) (f : Entry) → z < y → weight_in m z x ≡ Some w → t.entry z r ≡ Some f → e.distance ≢ f.distance + w)

-- the rule Strict (K4): in the tree of no landmark a node is nearer to the root than to every landmark
abbrev pub IsStrict : Tables → Type 0
IsStrict t = (x r : ℕ) (e : Entry) (q : Near) → t.landmark r ≡ false → t.entry x r ≡ Some e → t.nearest x ≡ Some q → e.distance < q.distance

-- the rule Nearest (K5): a nearest landmark is one at its distance, none is nearer, and none is left out
pub record IsNearestThere (t : Tables) : Type 0 where
  pub there : (x : ℕ) (q : Near) → t.nearest x ≡ Some q → (t.landmark q.landmark ≡ true) × ((e : Entry) × ((t.entry x q.landmark ≡ Some e) × (e.distance ≡ q.distance)))
  pub least : (x a : ℕ) (q : Near) (e : Entry) → t.nearest x ≡ Some q → t.landmark a ≡ true → t.entry x a ≡ Some e → (q.distance < e.distance) ⊎ ((q.distance ≡ e.distance) × (q.landmark ≤ a))
  pub none : (x a : ℕ) → t.nearest x ≡ None → t.landmark a ≡ true → t.entry x a ≡ None

-- The tree that the parents give. A node whose parent is y stands below y, the heavy child first.
abbrev pub parent_is : ℕ → Option Entry → Bool
parent_is y None = false
parent_is y (Some e) = elim e.parent [ None ↦ false | Some z ↦ z == y ]

-- the nodes whose parent in the tree of r is y, in ascending order
abbrev pub children : Tables → ℕ → ℕ → List ℕ
children t r y = filtered (λ x. parent_is y (t.entry x r)) (up_to t.nodes)

-- the port at a node to its parent
abbrev pub up_port : Network → ℕ → Option Entry → Option ℕ
up_port m x None = None
up_port m x (Some e) = elim e.parent [ None ↦ None | Some y ↦ port_to m x y ]

-- the parent's port to the node
abbrev pub down_port : Network → ℕ → Option Entry → Option ℕ
down_port m x None = None
down_port m x (Some e) = elim e.parent [ None ↦ None | Some y ↦ port_to m y x ]

-- the tree of r from x on, k edges deep
abbrev pub tree_to_depth : Network → Tables → ℕ → ℕ → ℕ → Tree
tree_to_depth m t r zero x = tree x (up_port m x (t.entry x r)) (down_port m x (t.entry x r)) no_trees
tree_to_depth m t r (suc k) x =
    let below = map (tree_to_depth m t r k) (children t r x) in
    tree x (up_port m x (t.entry x r)) (down_port m x (t.entry x r)) (of_list (fronted (heaviest below) [] below))

-- the distance of an entry, 0 where there is none
abbrev pub distance_of : Option Entry → ℕ
distance_of None = 0
distance_of (Some e) = e.distance

-- the greatest distance of an entry for r among the first n nodes
abbrev pub farthest : Tables → ℕ → ℕ → ℕ
farthest t r zero = 0
farthest t r (suc n) = max (distance_of (t.entry n r)) (farthest t r n)

-- the whole tree of r
abbrev pub tree_at : Network → Tables → ℕ → Tree
tree_at m t r = tree_to_depth m t r (farthest t r m.nodes) r

-- the rule Records (K6): every member's record is that of the tree
abbrev pub HasRecords : Network → Tables → Type 0
HasRecords m t = (r : ℕ) (p : Place) (above : Line) → r < m.nodes → Among (p ∷ above) (tree_lines (tree_at m t r))
    → (e : Entry) × ((t.entry p.node r ≡ Some e) × (record_of e.tree_record ≡ p.tree_record))

-- l is the label of v in the tree of r
abbrev pub IsLabelIn : Network → Tables → ℕ → ℕ → Label → Type 0
IsLabelIn m t r v l = (p : Place) (above : Line) → Among (p ∷ above) (tree_lines (tree_at m t r)) → p.node ≡ v → p.label ≡ l

-- one of a directory's labels, at any place of its list
abbrev pub IsListed : Listed → List Listed → Type 0
IsListed e [] = ⊥
IsListed e (f ∷ fs) = (e ≡ f) ⊎ IsListed e fs

-- the rule Labels (K7): each label of a directory, and each home label, is that of its node in the tree
pub record HasLabels (m : Network) (p : Parts) : Type 0 where
  pub listed : (u : ℕ) (e : Listed) → IsListed e (directory_at p u) → IsSome ((tables p).entry e.node u) → IsLabelIn m (tables p) u e.node e.label
  pub home : (v : ℕ) (q : Near) (l : Label) → (tables p).home v ≡ Some l → (tables p).nearest v ≡ Some q → IsLabelIn m (tables p) q.landmark v l

-- the rule Directories (K8): a landmark keeps none, another node lists exactly those that are in its tree, and home labels are where nearest landmarks are
pub record HasDirectories (m : Network) (p : Parts) : Type 0 where
  pub landmarks : (u : ℕ) → (tables p).landmark u ≡ true → directory_at p u ≡ []
  pub ascend : (u : ℕ) → IsStrictlyIncreasing (map (λ e. e.node) (directory_at p u))
  pub exact : (u v : ℕ) → u < m.nodes → (tables p).landmark u ≡ false → IsSome ((tables p).listed u v) ↔ IsSome ((tables p).entry v u)
  pub homes : (v : ℕ) → v < m.nodes → IsSome ((tables p).home v) ↔ IsSome ((tables p).nearest v)

-- the eight rules, in the order in which they are tested
pub data Fault : Type 0 where
  k1 : Fault
  k2 : Fault
  k3 : Fault
  k4 : Fault
  k5 : Fault
  k6 : Fault
  k7 : Fault
  k8 : Fault

-- what a rule says
abbrev pub Holds : Network → Parts → Fault → Type 0
Holds m p k1 = IsShaped m p
Holds m p k2 = IsClosed m (tables p)
Holds m p k3 = HasParents m (tables p)
Holds m p k4 = IsStrict (tables p)
Holds m p k5 = IsNearestThere (tables p)
Holds m p k6 = HasRecords m (tables p)
Holds m p k7 = HasLabels m p
Holds m p k8 = HasDirectories m p

-- the number under which a rule is printed
abbrev pub number_of : Fault → ℕ
number_of k1 = 1
number_of k2 = 2
number_of k3 = 3
number_of k4 = 4
number_of k5 = 5
number_of k6 = 6
number_of k7 = 7
number_of k8 = 8

-- all rules hold
abbrev pub IsChecked : Network → Parts → Type 0
IsChecked m p = (k : Fault) → Holds m p k

-- k is the first rule that fails
abbrev pub IsFirstFault : Network → Parts → Fault → Type 0
IsFirstFault m p k = (Holds m p k → ⊥) × ((j : Fault) → number_of j < number_of k → Holds m p j)
