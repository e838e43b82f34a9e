-- Records, each by those of its own parent and children alone.
use Rattle.std.specs.Prelude.{◌≡◌, ℕ, zero, suc, ◌+◌, ◌-◌, ◌<◌, ◌==◌, Bool, true, false, cond, not, Option, Some, None, IsSome, List, [], ◌∷◌, ◌++◌, max}
use Rattle.heavy_labels.specs.Label.{Label}
use Rattle.heavy_labels.specs.Numbering.{Record, lights_at}
use Rattle.heavy_labels.specs.Stepped.{record_of}
use Rattle.schemes.specs.declared.parts.Parts.{Parts}
use Rattle.schemes.specs.Entry.{Entry}
use Rattle.schemes.specs.declared.parts.Listed.{Listed}
use Rattle.landmarks.specs.declared.near.Near.{Near}
use Rattle.graph_edits.specs.Edges.{Network}
use Rattle.schemes.specs.Ports.{port_to, filtered}
use Rattle.schemes.specs.Tables.{Tables, tables, directory_at}
use Rattle.schemes.specs.Checks.{children, up_port, down_port, farthest, IsListed}

-- the record of an entry, and one of zeros where there is none
abbrev pub record_or : Option Entry → Record
record_or None = record { first = 0; last = 0; heavy_last = 0; light_depth = 0; parent_port = None; heavy_port = None }
record_or (Some e) = record_of e.tree_record

-- the record of x in the tree of r
abbrev pub record_at : Tables → ℕ → ℕ → Record
record_at t r x = record_or (t.entry x r)

-- how many members a record says that there are, it and below it
abbrev pub span : Record → ℕ
span k = k.last + 1 - k.first

-- the greatest span among some nodes
abbrev pub widest_span : Tables → ℕ → List ℕ → ℕ
widest_span t r [] = 0
widest_span t r (x ∷ xs) = max (span (record_at t r x)) (widest_span t r xs)

-- the first with the span s stands in front of those that were passed, and the rest follow
abbrev pub fronted_by : Tables → ℕ → ℕ → List ℕ → List ℕ → List ℕ
fronted_by t r s passed [] = passed
fronted_by t r s passed (x ∷ xs) = cond (span (record_at t r x) == s) (x ∷ (passed ++ xs)) (fronted_by t r s (passed ++ x ∷ []) xs)

-- the children of x, the heavy one first
abbrev pub in_row : Tables → ℕ → ℕ → List ℕ
in_row t r x = fronted_by t r (widest_span t r (children t r x)) [] (children t r x)

-- x is the child whose number is f, of a parent with that light depth; h where it's the heavy one
pub record FitsChild (m : Network) (t : Tables) (r : ℕ) (h : Bool) (f depth x : ℕ) : Type 0 where
  pub first : (record_at t r x).first ≡ f
  pub depth_is : (record_at t r x).light_depth ≡ cond h depth (depth + 1)
  pub port : (record_at t r x).parent_port ≡ up_port m x (t.entry x r)

-- the numbers of children begin at f, each where the one before ends, and end before `end`
abbrev pub IsRow : Network → Tables → ℕ → Bool → ℕ → ℕ → ℕ → List ℕ → Type 0
IsRow m t r h f depth end [] = f ≡ end
IsRow m t r h f depth end (x ∷ xs) = FitsChild m t r h f depth x × IsRow m t r false ((record_at t r x).last + 1) depth end xs

-- the heavy child is the first of the row: the record names its last number and the port to it
abbrev pub IsHeavyOf : Network → Tables → ℕ → Record → List ℕ → Type 0
IsHeavyOf m t r k [] = (k.heavy_last ≡ k.first) × (k.heavy_port ≡ None)
IsHeavyOf m t r k (x ∷ xs) = (k.heavy_last ≡ (record_at t r x).last) × (k.heavy_port ≡ down_port m x (t.entry x r))

-- x's record fits those of its children
pub record FitsBelow (m : Network) (t : Tables) (r x : ℕ) : Type 0 where
  pub row : IsRow m t r true ((record_at t r x).first + 1) (record_at t r x).light_depth ((record_at t r x).last + 1) (in_row t r x)
  pub heavy : IsHeavyOf m t r (record_at t r x) (in_row t r x)

-- a root's record is that of the first member, with no port to a parent
pub record FitsRoot (t : Tables) (r : ℕ) : Type 0 where
  pub first : (record_at t r r).first ≡ 0
  pub depth : (record_at t r r).light_depth ≡ 0
  pub port : (record_at t r r).parent_port ≡ None

-- the local equations of one tree
pub record IsLocal (m : Network) (t : Tables) (r : ℕ) : Type 0 where
  pub root : FitsRoot t r
  pub below : (x : ℕ) (e : Entry) → t.entry x r ≡ Some e → FitsBelow m t r x

-- the parent of an entry, if both are there
abbrev pub parent_of : Option Entry → Option ℕ
parent_of None = None
parent_of (Some e) = e.parent

-- an edge is light where the light depth of its lower end is another than that of its upper end
abbrev pub lights_from : (ℕ → List ℕ) → Network → Tables → ℕ → ℕ → Option ℕ → List ℕ
lights_from up m t r x None = []
lights_from up m t r x (Some y) = lights_at ((record_at t r x).light_depth == (record_at t r y).light_depth) (up y) (port_to m y x)

-- the light ports on the way from the root of r's tree to x, by climbing the parents from x, k of them at most
abbrev pub lights_to : Network → Tables → ℕ → ℕ → ℕ → List ℕ
lights_to m t r zero x = []
lights_to m t r (suc k) x = lights_from (lights_to m t r k) m t r x (parent_of (t.entry x r))

-- the label is that of v in the tree of r, by climbing
abbrev pub IsLocalLabel : Network → Tables → ℕ → ℕ → Label → Type 0
IsLocalLabel m t r v l = (l.first ≡ (record_at t r v).first) × (l.lights ≡ lights_to m t r (farthest t r m.nodes) v)

-- the local form of Records
abbrev pub HasLocalRecords : Network → Tables → Type 0
HasLocalRecords m t = (r : ℕ) → r < m.nodes → IsLocal m t r

-- the local form of Labels
pub record HasLocalLabels (m : Network) (p : Parts) : Type 0 where
  pub listed : (u : ℕ) (e : Listed) → IsListed e (directory_at p u) → IsSome ((tables p).entry e.node u) → IsLocalLabel m (tables p) u e.node e.label
  pub home : (v : ℕ) (q : Near) (l : Label) → (tables p).home v ≡ Some l → (tables p).nearest v ≡ Some q → IsLocalLabel m (tables p) q.landmark v l

-- The order of children without a list of its own: the first of the widest, and then all but it as they stand.
abbrev pub first_with : Tables → ℕ → ℕ → List ℕ → Option ℕ
first_with t r s [] = None
first_with t r s (x ∷ xs) = cond (span (record_at t r x) == s) (Some x) (first_with t r s xs)

-- some numbers but h
abbrev pub all_but : ℕ → List ℕ → List ℕ
all_but h xs = filtered (λ y. not (y == h)) xs

-- some children, h in front
abbrev pub row_by : Option ℕ → List ℕ → List ℕ
row_by None xs = xs
row_by (Some h) xs = h ∷ all_but h xs
