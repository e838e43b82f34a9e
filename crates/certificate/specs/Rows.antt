-- What is said of one entry's record: the numbers of its children, found among its node's neighbours.
use Rattle.std.specs.Prelude.{◌≡◌, ◌↔◌, ℕ, ◌+◌, cond, MatchOption, Option, Some, None, List, [], ◌∷◌, All}
use Rattle.certificate.specs.Words.{Record, Parts, Entry, Network, neighbours_of, over_port, neighbours, filtered, Tables, tables, entries_at, parent_is, record_at, widest_span, first_with, all_but, FitsRoot}
use Rattle.certificate.specs.Entries.{IsEntryShaped, IsRightOver}

-- the neighbour behind a port of x, where there is one
abbrev pub behind : Network → ℕ → Option ℕ → Option ℕ
behind m x None = None
behind m x (Some port) = over_port m x port

-- the record of an entry of x has the port to the entry's parent
unfoldable pub IsPorted : Network → ℕ → Entry → Type 0
IsPorted m x e = MatchOption e.parent (e.tree_record.parent_port ≡ None) (λ y. behind m x e.tree_record.parent_port ≡ Some y)

-- the children of x in the tree of r among some nodes
abbrev pub children_among : Tables → ℕ → ℕ → List ℕ → List ℕ
children_among t r x ys = filtered (λ y. parent_is x (t.entry y r)) ys

-- y in front of some children of x, if it's one
abbrev pub with_child : Tables → ℕ → ℕ → ℕ → List ℕ → List ℕ
with_child t r x y ks = cond (parent_is x (t.entry y r)) (y ∷ ks) ks

-- the first of the widest
abbrev pub first_widest : Tables → ℕ → List ℕ → Option ℕ
first_widest t r ks = first_with t r (widest_span t r ks) ks

-- this is the first of the widest, with its span
pub record IsWidest (t : Tables) (r : ℕ) (ks : List ℕ) (w : Option ℕ × ℕ) : Type 0 where
  pub node : w.0 ≡ first_widest t r ks
  pub span : w.1 ≡ widest_span t r ks

-- some nodes but the heavy one
abbrev pub but : Option ℕ → List ℕ → List ℕ
but None ks = ks
but (Some h) ks = all_but h ks

-- the numbers of children begin at f, each where the one before ends, and end before `end`; all have one light depth
abbrev pub AreNumbered : Tables → ℕ → ℕ → ℕ → ℕ → List ℕ → Type 0
AreNumbered t r f depth end [] = f ≡ end
AreNumbered t r f depth end (y ∷ ys) = ((record_at t r y).first ≡ f) × (((record_at t r y).light_depth ≡ depth) × AreNumbered t r ((record_at t r y).last + 1) depth end ys)

-- they begin at `start`, and at no other number; or at none
abbrev pub StartsAt : Tables → ℕ → ℕ → ℕ → List ℕ → ℕ → Type 0
StartsAt t r depth end ks start = (f : ℕ) → AreNumbered t r f depth end ks ↔ (f ≡ start)

abbrev pub StartNowhere : Tables → ℕ → ℕ → ℕ → List ℕ → Type 0
StartNowhere t r depth end ks = (f : ℕ) → AreNumbered t r f depth end ks → ⊥

-- the heavy child of x is the first of the widest, and the others have the numbers that an entry's record leaves to them
unfoldable pub AreChildrenFit : Network → Tables → ℕ → Entry → Option ℕ → Type 0
AreChildrenFit m t x e heavy =
    (first_widest t e.root (children_among t e.root x (neighbours m x)) ≡ heavy)
    × AreNumbered t e.root (e.tree_record.heavy_last + 1) (e.tree_record.light_depth + 1) (e.tree_record.last + 1) (but heavy (children_among t e.root x (neighbours m x)))

-- a record and that of its node's heavy child fit; where there is none, it's that of a leaf
abbrev pub LeadsTo : Tables → ℕ → Record → Option ℕ → Type 0
LeadsTo t r k None = (k.first ≡ k.last) × ((k.heavy_last ≡ k.first) × (k.heavy_port ≡ None))
LeadsTo t r k (Some h) = ((record_at t r h).first ≡ k.first + 1) × (((record_at t r h).light_depth ≡ k.light_depth) × ((record_at t r h).last ≡ k.heavy_last))

-- an entry's record fits those of the children of its node, but for their ports
unfoldable pub FitsAt : Network → Tables → ℕ → Entry → Type 0
FitsAt m t x e = AreChildrenFit m t x e (behind m x e.tree_record.heavy_port) × LeadsTo t e.root e.tree_record (behind m x e.tree_record.heavy_port)

-- the record of x as a root is that of one, and all its records fit and have their ports
unfoldable pub IsLocalAt : Network → Parts → ℕ → Type 0
IsLocalAt m p x = FitsRoot (tables p) x × All (λ e. IsPorted m x e × FitsAt m (tables p) x e) (entries_at p x)

-- what Shape, Edges, Parents and Records say of one entry of x
unfoldable pub IsSwept : Network → Tables → ℕ → Entry → Type 0
IsSwept m t x e = IsEntryShaped m t x e × (IsPorted m x e × (All (IsRightOver t e) (neighbours_of m x) × FitsAt m t x e))
