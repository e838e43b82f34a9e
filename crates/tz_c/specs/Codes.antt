-- What the answers of the C functions say.
use Rattle.std.specs.Prelude.{◌≡◌, ◌≢◌, ◌⊎◌, ℕ, ℤ, pos, List, Option, Some, None, Result, Ok, Err}
use Rattle.schemes.specs.declared.packet.Refused.{Refused}
use Rattle.schemes.specs.declared.packet.Refused.TheVariants.{NoNode, Unreachable, Stray, Spent}
use Rattle.packet_bytes.specs.declared.wire.WireRefused.{WireRefused}
use Rattle.packet_bytes.specs.declared.wire.WireRefused.TheVariants.{BadLength, BadFlag, BadCount, BadPadding}
use Rattle.router_table.specs.declared.refused.ReadRefused.{ReadRefused}
use Rattle.router_table.specs.declared.refused.ReadRefused.TheVariants.{NoTable, UnknownVersion, CutShort, TooLong, Damaged, NotInOrder, Memory}
use Rattle.router_table.specs.Refusals.{IsRefusedFor}
use Rattle.router_table.specs.Spelling.{SpellsTable}
use Rattle.router_table.specs.Table.{Table}
use Rattle.table_view.specs.Answers.{IsAddressIn, IsHop, IsLaunch, figures_of}
use Rattle.table_view.specs.declared.answers.Figures.{Figures}
use Rattle.table_view.specs.declared.hops.Hop.{Hop}
use Rattle.table_view.specs.declared.hops.Hop.TheVariants.{Delivered, Forward}
use Rattle.table_view.specs.declared.refused.BytesRefused.{BytesRefused}
use Rattle.table_view.specs.declared.refused.BytesRefused.TheVariants.{NoRoom, Wire, NoTable as NoTableInBytes, Table as ByTable}
use Rattle.tz_c.specs.declared.Info.{Info}
use Rattle.tz_c.specs.declared.numbers.TheConstants.{NO_TABLE, UNKNOWN_VERSION, CUT_SHORT, TOO_LONG, DAMAGED, NOT_IN_ORDER, NO_NODE, UNREACHABLE, STRAY, SPENT, BAD_LENGTH, BAD_FLAG, BAD_COUNT, BAD_PADDING, NO_ROOM, NO_PORT}

-- ---- the numbers of refusals

abbrev pub read_code : ReadRefused → ℤ
read_code NoTable = NO_TABLE
read_code UnknownVersion = UNKNOWN_VERSION
read_code CutShort = CUT_SHORT
read_code TooLong = TOO_LONG
read_code Damaged = DAMAGED
read_code NotInOrder = NOT_IN_ORDER
read_code Memory = NOT_IN_ORDER

abbrev pub table_code : Refused → ℤ
table_code NoNode = NO_NODE
table_code Unreachable = UNREACHABLE
table_code Stray = STRAY
table_code Spent = SPENT

abbrev pub wire_code : WireRefused → ℤ
wire_code BadLength = BAD_LENGTH
wire_code BadFlag = BAD_FLAG
wire_code BadCount = BAD_COUNT
wire_code BadPadding = BAD_PADDING

abbrev pub bytes_code : BytesRefused → ℤ
bytes_code NoRoom = NO_ROOM
bytes_code (Wire e) = wire_code e
bytes_code NoTableInBytes = NOT_IN_ORDER
bytes_code (ByTable e) = table_code e

-- ---- the answers

-- bytes spell a table, or are refused as `RouterTable::read` refuses them
abbrev pub IsChecked : List ℕ → ℤ → Type 0
IsChecked bytes code = ((code ≡ pos 0) × ((a : Table) × SpellsTable bytes a)) ⊎ ((e : ReadRefused) × (code ≡ read_code e) × (e ≢ Memory) × IsRefusedFor bytes e)

-- figures as C has them
abbrev pub info_from : Figures → Info
info_from f = record {
  generation = f.generation;
  nodes = f.nodes;
  node = f.node;
  ports = f.ports;
  entries = f.entries;
  members = f.members;
}

-- the figures of a table
abbrev pub info_of : Table → Info
info_of a = info_from (figures_of a)

-- the node behind a port, where there is one
abbrev pub IsNeighbour : Option ℕ → (old new : ℕ) → ℤ → Type 0
IsNeighbour (Some node) old new code = (code ≡ pos 0) × (new ≡ node)
IsNeighbour None old new code = (code ≡ NO_PORT) × (new ≡ old)

-- 0, or the number of a refusal
abbrev pub done_code : Result (Unit {0}) BytesRefused → ℤ
done_code (Ok _) = pos 0
done_code (Err e) = bytes_code e

-- the number says what `table_view` answers
abbrev pub TellsAddress : (table old new : List ℕ) → ℤ → Type 0
TellsAddress table old new code = (answer : Result (Unit {0}) BytesRefused) × IsAddressIn table old new answer × (code ≡ done_code answer)

abbrev pub TellsLaunch : (table address old new : List ℕ) → ℤ → Type 0
TellsLaunch table address old new code = (answer : Result (Unit {0}) BytesRefused) × IsLaunch table address old new answer × (code ≡ done_code answer)

-- the place for the packet, and those for the port and the next node
abbrev pub Places : Type 0
Places = List ℕ × ℕ × ℕ

abbrev pub IsHopTold : Result Hop BytesRefused → (old new : Places) → ℤ → Type 0
IsHopTold (Ok Delivered) old new code = (code ≡ pos 0) × (new.1 ≡ old.1) × (new.2 ≡ old.2)
IsHopTold (Ok (Forward port next)) old new code = (code ≡ pos 1) × (new.1 ≡ port) × (new.2 ≡ next)
IsHopTold (Err e) old new code = (code ≡ bytes_code e) × (new.1 ≡ old.1) × (new.2 ≡ old.2)

abbrev pub TellsHop : (table packet : List ℕ) → (old new : Places) → ℤ → Type 0
TellsHop table packet old new code = (answer : Result Hop BytesRefused) × IsHop table packet old.0 new.0 answer × IsHopTold answer old new code
