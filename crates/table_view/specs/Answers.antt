-- What is answered out of the bytes of a table.
use Rattle.std.specs.Prelude.{◌≡◌, ℕ, List, Some, None, Result, Ok, Err, length}
use Rattle.schemes.specs.declared.packet.Address.{Address}
use Rattle.schemes.specs.declared.packet.Packet.{Packet}
use Rattle.schemes.specs.declared.packet.Move.{Move}
use Rattle.schemes.specs.declared.packet.Move.TheVariants.{Delivered, Forward}
use Rattle.schemes.specs.declared.packet.Refused.{Refused}
use Rattle.schemes.specs.Service.{one_less}
use Rattle.packet_bytes.specs.Layout.{address_size, packet_size}
use Rattle.packet_bytes.specs.Refusals.{address_refusal, packet_refusal}
use Rattle.packet_bytes.specs.Spelling.{SpellsAddress, SpellsPacket}
use Rattle.router_table.specs.Handing.{hopped, launched}
use Rattle.router_table.specs.Spelling.{SpellsTable}
use Rattle.router_table.specs.Table.{Table, address_of}
use Rattle.table_view.specs.declared.answers.Figures.{Figures}
use Rattle.table_view.specs.declared.hops.Hop.{Hop}
use Rattle.table_view.specs.declared.hops.Hop.TheVariants.{Delivered as Arrived, Forward as Onward}
use Rattle.table_view.specs.declared.refused.BytesRefused.{BytesRefused}
use Rattle.table_view.specs.declared.refused.BytesRefused.TheVariants.{NoRoom, Wire, NoTable, Table as ByTable}

-- what holds of the table that bytes spell, if they spell one; they spell no other
abbrev pub OfTable : List ℕ → (Table → Type 0) → Type 0
OfTable bytes Q = (a : Table) → SpellsTable bytes a → Q a

-- it isn't so that bytes spell no table
abbrev pub SpellSome : List ℕ → Type 0
SpellSome bytes = OfTable bytes (λ a. ⊥) → ⊥

-- what holds of the table and the packet that bytes spell
abbrev pub OfBoth : List ℕ → List ℕ → (Table → Packet → Type 0) → Type 0
OfBoth bytes packet Q = (a : Table) (k : Packet) → SpellsTable bytes a → SpellsPacket packet k → Q a k

-- who a router is, and how much its table has
abbrev pub figures_of : Table → Figures
figures_of a = record {
  generation = a.head.generation;
  nodes = a.head.nodes;
  node = a.head.node;
  ports = length a.ports;
  entries = length a.entries;
  members = length a.directory;
}

-- a move of a packet that isn't carried along
abbrev pub move_of : Packet → Result Hop Refused → Result Move Refused
move_of k (Ok Arrived) = Ok Delivered
move_of k (Ok (Onward port next)) = Ok (Forward port next (one_less k))
move_of k (Err e) = Err e

-- An answer in bytes about a packet in bytes: what it says of the table's answer, and what it leaves in the place for the packet. The
-- first case that holds refuses.
abbrev pub IsHop : (table packet old new : List ℕ) → Result Hop BytesRefused → Type 0
IsHop table packet old new (Ok Arrived) =
    (length old ≡ packet_size) × (packet_refusal packet ≡ None) × OfBoth table packet (λ a k. hopped a k ≡ Ok Delivered) × (new ≡ old)
IsHop table packet old new (Ok (Onward port next)) =
    (length old ≡ packet_size) × (packet_refusal packet ≡ None) × OfBoth table packet (λ a k. (hopped a k ≡ Ok (Forward port next (one_less k))) × SpellsPacket new (one_less k))
IsHop table packet old new (Err NoRoom) = (length old ≡ packet_size → ⊥) × (new ≡ old)
IsHop table packet old new (Err (Wire e)) = (length old ≡ packet_size) × (packet_refusal packet ≡ Some e) × (new ≡ old)
IsHop table packet old new (Err NoTable) = (length old ≡ packet_size) × (packet_refusal packet ≡ None) × OfBoth table packet (λ a k. ⊥) × (new ≡ old)
IsHop table packet old new (Err (ByTable e)) =
    (length old ≡ packet_size) × (packet_refusal packet ≡ None) × OfBoth table packet (λ a k. hopped a k ≡ Err e) × (new ≡ old)

-- the same of an address in bytes, to which a packet is launched
abbrev pub IsLaunch : (table address old new : List ℕ) → Result (Unit {0}) BytesRefused → Type 0
IsLaunch table address old new (Ok _) =
    (length old ≡ packet_size) × (address_refusal address ≡ None) × ((a : Table) (to : Address) → SpellsTable table a → SpellsAddress address to → (k : Packet) × (launched a to ≡ Ok k) × SpellsPacket new k)
IsLaunch table address old new (Err NoRoom) = (length old ≡ packet_size → ⊥) × (new ≡ old)
IsLaunch table address old new (Err (Wire e)) = (length old ≡ packet_size) × (address_refusal address ≡ Some e) × (new ≡ old)
IsLaunch table address old new (Err NoTable) = (length old ≡ packet_size) × (address_refusal address ≡ None) × OfTable table (λ a. ⊥) × (new ≡ old)
IsLaunch table address old new (Err (ByTable e)) =
    (length old ≡ packet_size) × (address_refusal address ≡ None) × ((a : Table) (to : Address) → SpellsTable table a → SpellsAddress address to → launched a to ≡ Err e) × (new ≡ old)

-- the same of a router's own address
abbrev pub IsAddressIn : (table old new : List ℕ) → Result (Unit {0}) BytesRefused → Type 0
IsAddressIn table old new (Ok _) = (length old ≡ address_size) × OfTable table (λ a. SpellsAddress new (address_of a.head))
IsAddressIn table old new (Err NoRoom) = (length old ≡ address_size → ⊥) × (new ≡ old)
IsAddressIn table old new (Err (Wire e)) = ⊥
IsAddressIn table old new (Err NoTable) = (length old ≡ address_size) × OfTable table (λ a. ⊥) × (new ≡ old)
IsAddressIn table old new (Err (ByTable e)) = ⊥
