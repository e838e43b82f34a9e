-- What a scheme's lists say: the first place of a list counts, and a place that is not there is empty.
use Rattle.std.specs.Prelude.{◌≡◌, ℕ, ◌==◌, Bool, false, cond, MatchOption, Option, Some, None, List, [], ◌∷◌, map, slice_get}
use denote.Ref.{Bor}
use Rattle.std.specs.List.{All}
use Rattle.std.specs.List.Sorted.{IsStrictlyIncreasing}
use Rattle.std.specs.declared.vec.Vec.{Vec}
use Rattle.heavy_labels.specs.Label.{Label}
use Rattle.schemes.specs.declared.parts.Parts.{Parts}
use Rattle.schemes.specs.Entry.{Entry}
use Rattle.schemes.specs.declared.parts.Listed.{Listed}
use Rattle.landmarks.specs.declared.near.Near.{Near}

-- the look-ups of a scheme, apart from its lists
pub record Tables : Type 0 where
  pub nodes : ℕ
  pub generation : ℕ
  pub landmark : ℕ → Bool
  pub over : ℕ → ℕ → Option ℕ
  pub nearest : ℕ → Option Near
  pub entry : ℕ → ℕ → Option Entry
  pub listed : ℕ → ℕ → Option Label
  pub home : ℕ → Option Label

-- what is at a place, where the place is there
abbrev pub or_none : {X : Type 0} → Option (Option X) → Option X
or_none None = None
or_none (Some o) = o

-- the value at a place, and none where the place isn't there
abbrev pub value_at : {X : Type 0} → List (Option X) → ℕ → Option X
value_at os x = or_none (slice_get os x)

-- what was found is a reference to the value, and nothing where there is no value
abbrev pub RefersTo : {X : Type 0} → Option X → Option (Bor X) → Type 0
RefersTo value found = MatchOption found (value ≡ None) (λ there. value ≡ Some there.now)

-- the flag at a place, and false where the place isn't there
abbrev pub or_false : Option Bool → Bool
or_false None = false
or_false (Some b) = b

-- the first entry for a root
abbrev pub first_entry : ℕ → List Entry → Option Entry
first_entry r [] = None
first_entry r (e ∷ es) = cond (e.root == r) (Some e) (first_entry r es)

-- the first label of a node
abbrev pub first_listed : ℕ → List Listed → Option Label
first_listed v [] = None
first_listed v (e ∷ es) = cond (e.node == v) (Some e.label) (first_listed v es)

-- the list at a place, empty where there is none
abbrev pub items_at : {X A : Type 0} → List (Vec X A) → ℕ → List X
items_at vs x = elim (slice_get vs x) [ None ↦ [] | Some v ↦ v.items ]

-- the neighbours that a scheme has for x, port by port
abbrev pub ports_at : Parts → ℕ → List ℕ
ports_at p x = elim (slice_get p.ports.items x) [ None ↦ [] | Some v ↦ v.items ]

-- the entries of x, in order
abbrev pub entries_at : Parts → ℕ → List Entry
entries_at p x = elim (slice_get p.entries.items x) [ None ↦ [] | Some v ↦ v.items ]

-- the directory of x, in order
abbrev pub directory_at : Parts → ℕ → List Listed
directory_at p x = elim (slice_get p.directories.items x) [ None ↦ [] | Some v ↦ v.items ]

-- the roots of entries
abbrev pub roots_of : List Entry → List ℕ
roots_of es = map (λ e. e.root) es

-- the nodes of a directory
abbrev pub nodes_of : List Listed → List ℕ
nodes_of es = map (λ e. e.node) es

-- what a scheme's lists say
abbrev pub tables : Parts → Tables
tables p = record {
  nodes = p.nodes;
  generation = p.generation;
  landmark = λ x. or_false (slice_get p.landmarks.items x);
  over = λ x k. slice_get (ports_at p x) k;
  nearest = λ x. value_at p.nearest.items x;
  entry = λ x r. first_entry r (entries_at p x);
  listed = λ u v. first_listed v (directory_at p u);
  home = λ x. value_at p.homes.items x;
}

-- every list of entries strictly ascends by root, and every directory by node
pub record AreAscending (p : Parts) : Type 0 where
  pub entries : All (λ es. IsStrictlyIncreasing (roots_of es.items)) p.entries.items
  pub directories : All (λ es. IsStrictlyIncreasing (nodes_of es.items)) p.directories.items
