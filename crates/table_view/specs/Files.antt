-- The table of a file.
use mathlib.Core.HLevel.{Σ_prop_path}
use Rattle.std.specs.Prelude.{ℕ, List}
use Rattle.router_table.specs.Spelling.{SpellsTable}
use Rattle.router_table.specs.Table.{Table}
use Rattle.router_table.proofs.FormTexts.{one_table}

-- the table that bytes spell, and that they do
abbrev pub Spelled : List ℕ → Type 0
Spelled bytes = (a : Table) × SpellsTable bytes a

-- there is one such table at most; so that they do is one fact where it is one of each table
pub spelled_prop : (bytes : List ℕ) → ((a : Table) → IsProp (SpellsTable bytes a)) → IsProp (Spelled bytes)
spelled_prop bytes each x y = Σ_prop_path each (one_table bytes x.0 y.0 x.1 y.1)
