-- What each step of a build does to the tables.
use Rattle.std.specs.Prelude.{◌≡◌, ℕ, ◌<◌, ◌≤◌, ◌==◌, Bool, true, false, cond, Option, Some, None, List, [], ◌∷◌, ◌++◌, length, nat_eq, slice_get, slice_index_or, IsPermutation}
use Rattle.std.specs.List.{All, IsDistinct}
use Rattle.std.specs.List.Sorted.{IsStrictlyIncreasing}
use Rattle.std.specs.declared.vec.Vec.{Vec}
use Rattle.graph_edits.specs.Edges.{Network}
use Rattle.distances.specs.Nearest.{KnowsNearest, near_limit}
use Rattle.landmarks.specs.declared.near.Near.{Near}
use Rattle.heavy_labels.specs.Label.{Label}
use Rattle.heavy_labels.specs.declared.numbered_member.NumberedMember.{NumberedMember}
use Rattle.schemes.specs.declared.parts.Parts.{Parts}
use Rattle.schemes.specs.Entry.{Entry}
use Rattle.schemes.specs.declared.parts.Listed.{Listed}
use Rattle.node_table.specs.declared.survey.Survey.{Survey}
use Rattle.schemes.specs.Tables.{items_at, nodes_of, or_false, value_at}
use Rattle.node_table.specs.Columns.{AreRowsWithin, IsBuiltBetween}
use Rattle.node_table.specs.RowLists.{Row, nodes_in}

-- two tables say the same of all but one place
abbrev pub AgreeBut : {X : Type 0} → ℕ → (ℕ → X) → (ℕ → X) → Type 0
AgreeBut at old new = (x : ℕ) → (x ≡ at → ⊥) → new x ≡ old x

-- at one place the first list has both, joined; at all other places it is as it was, and so is what is left of the next list
pub record IsJoinedAt {T X : Type 0} (at : ℕ) (read : List T → ℕ → X) (join : X → X → X) (old new next left : List T) : Type 0 where
  pub length_is : length new ≡ length old
  pub length_left : length left ≡ length next
  pub joined : read new at ≡ join (read old at) (read next at)
  pub others : AgreeBut at (read old) (read new)
  pub rest : AgreeBut at (read next) (read left)

-- The lists grow: at each place more stands behind what stood there
pub record GrowBy {X A : Type 0} (old new : List (Vec X A)) (more : ℕ → List X) : Type 0 where
  pub size : length new ≡ length old
  pub items : (x : ℕ) → items_at new x ≡ items_at old x ++ more x

-- the entries of a node's rows
abbrev pub entries_for : ℕ → List Row → List Entry
entries_for x [] = []
entries_for x (w ∷ ws) = cond (w.node == x) (w.entry ∷ entries_for x ws) (entries_for x ws)

-- a numbered member in its root's directory
abbrev pub listed_member : NumberedMember → Listed
listed_member n = record { node = n.node; label = n.label }

-- a root's directory has these members of its tree, by ascending node
pub record IsDirectoryOf (ls all : List Listed) : Type 0 where
  pub same : IsPermutation ls all
  pub ascend : IsStrictlyIncreasing (nodes_of all)

-- a landmark's directory stays, another root's has these members of its tree
abbrev pub IsDirectoryAfter : Bool → List Listed → List Listed → List Listed → Type 0
IsDirectoryAfter true ls before after = after ≡ before
IsDirectoryAfter false ls before after = IsDirectoryOf ls after

-- whether the nearest landmark is r
abbrev pub has_home : Option Near → ℕ → Bool
has_home None r = false
has_home (Some q) r = q.landmark == r

-- the home label of a node once it has a label in the tree of r
abbrev pub home_by : Option Near → ℕ → Label → Option Label → Option Label
home_by None r l o = o
home_by (Some q) r l o = cond (q.landmark == r) (Some l) o

-- the home label of v after these members of the tree of r
abbrev pub home_after : Option Near → ℕ → List Listed → ℕ → Option Label → Option Label
home_after near r [] v o = o
home_after near r (l ∷ ls) v o = home_after near r ls v (cond (l.node == v) (home_by near r l.label o) o)

-- the limit of the tree of r
abbrev pub limit_by : Bool → List (Option Near) → ℕ → Option ℕ
limit_by true nearest x = None
limit_by false nearest x = near_limit nearest x

-- the limit of the tree of r under these landmarks
abbrev pub limit_for : List Bool → List (Option Near) → ℕ → ℕ → Option ℕ
limit_for flags nearest r = limit_by (slice_index_or flags r false) nearest

-- the rows of the tree of r
pub record AreRowsOf (m : Network) (p : Parts) (r : ℕ) (ws : List Row) : Type 0 where
  pub apart : IsDistinct nat_eq (nodes_in ws)
  pub inside : All (λ w. w.node < m.nodes) ws
  pub root : All (λ w. w.entry.root ≡ r) ws
  pub column : AreRowsWithin m (limit_by (or_false (slice_get p.landmarks.items r)) p.nearest.items) r ws

-- the tables after the rows of the tree of r, which are listed as ls
pub record IsWith (p : Parts) (r : ℕ) (ws : List Row) (ls : List Listed) (q : Parts) : Type 0 where
  pub nodes : q.nodes ≡ p.nodes
  pub generation : q.generation ≡ p.generation
  pub landmarks : q.landmarks.items ≡ p.landmarks.items
  pub ports : q.ports.items ≡ p.ports.items
  pub nearest : q.nearest.items ≡ p.nearest.items
  pub entries : GrowBy p.entries.items q.entries.items (λ x. entries_for x ws)
  pub directories_length : length q.directories.items ≡ length p.directories.items
  pub directory : IsDirectoryAfter (or_false (slice_get p.landmarks.items r)) ls (items_at p.directories.items r) (items_at q.directories.items r)
  pub other_directories : AgreeBut r (items_at p.directories.items) (items_at q.directories.items)
  pub homes_length : length q.homes.items ≡ length p.homes.items
  pub homes : (v : ℕ) → value_at q.homes.items v ≡ home_after (value_at p.nearest.items v) r ls v (value_at p.homes.items v)

-- a survey has the nearest landmark of each node
abbrev pub IsComplete : Survey → Type 0
IsComplete survey = KnowsNearest survey.graph.now survey.landmarks.now survey.nearest.now.nearest

-- the trees of the roots from the first to below the last can be built
pub record CanBuild (survey : Survey) (first last : ℕ) : Type 0 where
  -- the survey is complete
  pub known : IsComplete survey
  -- the last isn't before the first
  pub order : first ≤ last
  -- the roots are nodes of the network
  pub inside : last ≤ survey.graph.now.nodes

-- the tables of a build that holds the trees of the roots from j to below k
pub record IsBuildOf (m : Network) (flags : List Bool) (nearest : List (Option Near)) (generation : ℕ) (p : Parts) (j k : ℕ) : Type 0 where
  pub built : IsBuiltBetween m p j k
  pub landmarks : p.landmarks.items ≡ flags
  pub nearest_list : p.nearest.items ≡ nearest
  pub given : p.generation ≡ generation

-- the same of a build from this survey
abbrev pub IsBuiltFrom : Survey → Parts → ℕ → ℕ → Type 0
IsBuiltFrom survey = IsBuildOf survey.graph.now survey.landmarks.now survey.nearest.now.nearest survey.generation

-- the first list, and the second where the first is empty
abbrev pub first_list : {X : Type 0} → List X → List X → List X
first_list [] ys = ys
first_list (x ∷ xs) ys = x ∷ xs

-- the first value, and the second where there is none
abbrev pub first_some : {X : Type 0} → Option X → Option X → Option X
first_some None o = o
first_some (Some x) o = Some x

-- the lists of both tables have as many places
pub record AreAsLong (p q : Parts) : Type 0 where
  pub entries : length p.entries.items ≡ length q.entries.items
  pub directories : length p.directories.items ≡ length q.directories.items
  pub homes : length p.homes.items ≡ length q.homes.items

-- the tables p with the entries of q behind theirs, and with the directories and home labels of q where p has none
pub record IsJoined (p q t : Parts) : Type 0 where
  pub nodes : t.nodes ≡ p.nodes
  pub generation : t.generation ≡ p.generation
  pub landmarks : t.landmarks.items ≡ p.landmarks.items
  pub ports : t.ports.items ≡ p.ports.items
  pub nearest : t.nearest.items ≡ p.nearest.items
  pub entries : GrowBy p.entries.items t.entries.items (items_at q.entries.items)
  pub directories_length : length t.directories.items ≡ length p.directories.items
  pub directories : (x : ℕ) → items_at t.directories.items x ≡ first_list (items_at p.directories.items x) (items_at q.directories.items x)
  pub homes_length : length t.homes.items ≡ length p.homes.items
  pub homes : (v : ℕ) → value_at t.homes.items v ≡ first_some (value_at p.homes.items v) (value_at q.homes.items v)

-- wherever the roots of q begin where those of p end, the tables t hold the trees of both ranges
abbrev pub JoinsRanges : Parts → Parts → Parts → Type 0
JoinsRanges p q t = (m : Network) (flags : List Bool) (nearest : List (Option Near)) (generation first middle last : ℕ) → first ≤ middle → middle ≤ last
    → IsBuildOf m flags nearest generation p first middle → IsBuildOf m flags nearest generation q middle last → IsBuildOf m flags nearest generation t first last
