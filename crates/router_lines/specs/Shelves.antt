-- A router's shelf: the tables of its newest generations.
use Rattle.std.specs.Prelude.{◌≡◌, ◌≢◌, ◌-◌, ◌==◌, ◌≤◌, ◌<◌, ℕ, cond, nat_lt, Option, Some, List, [], ◌∷◌, drop, get_or, length, map, position}
use Rattle.std.specs.List.{All, AllPairs}
use Rattle.router_table.specs.Items.{item_at}
use Rattle.router_table.specs.Table.{Table}
use Rattle.router_lines.specs.declared.shelf.LoadRefused.{LoadRefused}
use Rattle.router_lines.specs.declared.shelf.LoadRefused.TheVariants.{OtherNode, GenerationGone, Memory}

-- how many tables there are at most
abbrev pub most_tables : ℕ
most_tables = 4

-- the router's node, and its tables, the oldest first
pub record Shelf : Type 0 where
  pub node : ℕ
  pub tables : List Table

-- the generations of tables
abbrev pub generations_of : List Table → List ℕ
generations_of tables = map (λ a. a.head.generation) tables

-- a table is of an older generation than another
abbrev pub IsOlder : Table → Table → Type 0
IsOlder a b = a.head.generation < b.head.generation

-- a table is that of a node
abbrev pub IsOf : ℕ → Table → Type 0
IsOf node a = a.head.node ≡ node

-- one to four tables, all of the node, each older than all behind it
pub record IsShelf (s : Shelf) : Type 0 where
  pub some : 0 < length s.tables
  pub few : length s.tables ≤ most_tables
  pub node : All (IsOf s.node) s.tables
  pub older : AllPairs IsOlder s.tables

-- tables with one more, by their generations: one of the same generation is replaced
abbrev pub with_table : Table → List Table → List Table
with_table a [] = a ∷ []
with_table a (b ∷ bs) =
    cond (nat_lt b.head.generation a.head.generation) (b ∷ with_table a bs)
    (cond (b.head.generation == a.head.generation) (a ∷ bs) (a ∷ b ∷ bs))

-- the newest of them, as many as there is room for
abbrev pub newest : List Table → List Table
newest tables = drop (length tables - most_tables) tables

-- the table of a generation
abbrev pub table_in : List Table → ℕ → Option Table
table_in tables generation = item_at (λ a. a.head.generation) generation tables

-- where the table of a generation stands
abbrev pub place_in : List Table → ℕ → Option ℕ
place_in tables generation = position (λ a. a.head.generation == generation) tables

-- a table was put among others: it stands there, and the newest of all stay
pub record IsPut (old : List Table) (a : Table) (new : List Table) : Type 0 where
  pub newest : new ≡ newest (with_table a old)
  pub stands : table_in new a.head.generation ≡ Some a

-- a table was put on a shelf: it is the node's, it stands there, and the newest of all stay
pub record IsLoaded (old : Shelf) (a : Table) (new : Shelf) : Type 0 where
  pub node : a.head.node ≡ old.node
  pub newest : new ≡ record { node = old.node; tables = newest (with_table a old.tables) }
  pub stands : table_in new.tables a.head.generation ≡ Some a

-- there is no room, and a table would stand in front of all
pub record IsTooOld (tables : List Table) (a : Table) : Type 0 where
  pub full : length tables ≡ most_tables
  pub front : with_table a tables ≡ a ∷ tables

-- why a table isn't put among others: it is too old. Of memory this says nothing.
abbrev pub IsNotPut : List Table → Table → LoadRefused → Type 0
IsNotPut tables a OtherNode = ⊥
IsNotPut tables a GenerationGone = IsTooOld tables a
IsNotPut tables a Memory = Unit {0}

-- why a table isn't put on a shelf: it is another node's, or too old. Of memory this says nothing.
abbrev pub IsNotLoaded : Shelf → Table → LoadRefused → Type 0
IsNotLoaded s a OtherNode = a.head.node ≢ s.node
IsNotLoaded s a GenerationGone = (a.head.node ≡ s.node) × IsTooOld s.tables a
IsNotLoaded s a Memory = Unit {0}

-- so many tables, from the first on, are older than a generation
pub record IsPlaceOf (tables : List Table) (generation place : ℕ) : Type 0 where
  pub within : place ≤ length tables
  pub older : (k : ℕ) (d : Table) → k < place → (get_or tables k d).head.generation < generation
  pub newer : (d : Table) → place < length tables → generation ≤ (get_or tables place d).head.generation

-- the table at a place is of a generation
abbrev pub IsAt : List Table → ℕ → ℕ → Type 0
IsAt tables generation place = (place < length tables) × ((d : Table) → (get_or tables place d).head.generation ≡ generation)
