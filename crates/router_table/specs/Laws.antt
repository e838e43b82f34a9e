-- What holds of all tables: statements that `table_laws` proves.
use Rattle.std.specs.Prelude.{◌≡◌, ℕ, ◌+◌, ◌<◌, Err, List, ◌∷◌, length}
use Rattle.graph_edits.specs.Edges.{Network}
use Rattle.graph_edits.specs.Walks.{IsWalk}
use Rattle.schemes.specs.declared.packet.Packet.{Packet}
use Rattle.schemes.specs.declared.packet.Refused.TheVariants.{Unreachable}
use Rattle.schemes.specs.Service.{Serves, address}
use Rattle.schemes.specs.Tables.{Tables}
use Rattle.router_table.specs.declared.refused.ReadRefused.{ReadRefused}
use Rattle.router_table.specs.declared.refused.ReadRefused.TheVariants.{Memory}
use Rattle.router_table.specs.Handing.{AreTablesOf, IsHandedOver, WasHanded, launched}
use Rattle.router_table.specs.Refusals.{IsRefusedFor}
use Rattle.router_table.specs.Spelling.{SpellsTable}
use Rattle.router_table.specs.Table.{Table}

-- a spelling of a table is refused only where memory is
abbrev pub TablesAreRead : Type 0
TablesAreRead = (bytes : List ℕ) (a : Table) (e : ReadRefused) → SpellsTable bytes a → IsRefusedFor bytes e → e ≡ Memory

-- bytes spell at most one table
abbrev pub OneTable : Type 0
OneTable = (bytes : List ℕ) (a b : Table) → SpellsTable bytes a → SpellsTable bytes b → a ≡ b

-- Where a scheme serves a network, the tables of its nodes do: a packet is handed over a good trip wherever a walk leads, and where
-- none does, the first table refuses to launch it.
abbrev pub TablesCarry : Type 0
TablesCarry = (m : Network) (t : Tables) (router : ℕ → Table) → Serves m t → AreTablesOf t router → (u v : ℕ) (xs : List ℕ) → u < m.nodes → v < m.nodes
    → IsWalk m.edges u xs v → IsHandedOver m t router u v

abbrev pub ApartIsUnreachable : Type 0
ApartIsUnreachable = (m : Network) (t : Tables) (router : ℕ → Table) → Serves m t → AreTablesOf t router → (u v : ℕ) → u < m.nodes → v < m.nodes
    → ((xs : List ℕ) → IsWalk m.edges u xs v → ⊥) → launched (router u) (address t v) ≡ Err Unreachable

-- Whatever tables are asked, a packet is handed on fewer times than the first of them has nodes, and each time with a hop less.
abbrev pub HandingEnds : Type 0
HandingEnds = (a : Table) (others : List Table) (k left : Packet) → WasHanded (a ∷ others) k left
    → (length (a ∷ others) < a.head.nodes) × (length (a ∷ others) + left.hops_left ≡ k.hops_left)
