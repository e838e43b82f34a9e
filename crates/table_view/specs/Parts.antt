-- The bytes of a table in their parts, whatever their values.
use Rattle.std.specs.Prelude.{ℕ, ◌+◌, ◌*◌, ◌<◌, ◌≤◌, nat_lt, if◌then◌else◌, List, take, drop, length, get_or, slice_set, Option, Some, None, option_map}
use Rattle.std.specs.Int.{w16, to_be_bytes}
use Rattle.schemes.specs.declared.parts.Listed.{Listed}
use Rattle.packet_bytes.specs.Layout.{packet_ports_at}
use Rattle.byte_forms.specs.Reading.{◌>>=◌, number_at, u16_of}
use Rattle.router_table.specs.Refusals.{entry_size, head_size}
use Rattle.router_table.specs.MemberForm.{member_at}

-- so many bytes, and the bytes behind them, where there are so many
abbrev pub cut_at : ℕ → List ℕ → Option (List ℕ × List ℕ)
cut_at n bytes = if nat_lt (length bytes) n then None else Some (take n bytes, drop n bytes)

-- of a list whose items have one size: how many there are, their bytes, and the bytes behind them
unfoldable pub items_cut : ℕ → List ℕ → Option (ℕ × List ℕ × List ℕ)
items_cut size bytes = do
  count ← number_at w16 bytes
  items ← cut_at (size * count.0) count.1
  Some (count.0, items.0, items.1)

-- the head, how many ports there are and their bytes, how many entries and their bytes, and what stands behind those
abbrev pub PartsOf : Type 0
PartsOf = List ℕ × ℕ × List ℕ × ℕ × List ℕ × List ℕ

unfoldable pub parts_at : List ℕ → Option PartsOf
parts_at bytes = do
  head ← cut_at head_size bytes
  ports ← items_cut 2 head.1
  entries ← items_cut entry_size ports.2
  Some (head.0, ports.0, ports.1, entries.0, entries.1, entries.2)

-- the root of an entry
abbrev pub root_of : List ℕ → ℕ → ℕ
root_of entries place = u16_of entries (entry_size * place)

-- the roots of so many entries strictly ascend
abbrev pub DoRise : List ℕ → ℕ → Type 0
DoRise entries count = (i j : ℕ) → i < j → j < count → root_of entries i < root_of entries j

-- the root is among so many places from the base on, if it is anywhere
pub record IsHalved (entries : List ℕ) (count root base size : ℕ) : Type 0 where
  pub some : 0 < size
  pub within : base + size ≤ count
  pub below : DoRise entries count → (i : ℕ) → i < base → root_of entries i < root
  pub above : DoRise entries count → (i : ℕ) → base + size ≤ i → i < count → root < root_of entries i

-- the port at a place of so many
abbrev pub port_of : List ℕ → ℕ → ℕ → Option ℕ
port_of ports count port = if nat_lt port count then Some (u16_of ports (2 * port)) else None

-- the light port of a packet at a place
abbrev pub light_of : List ℕ → ℕ → Option ℕ
light_of packet depth = if nat_lt depth (get_or packet packet_ports_at 0) then Some (u16_of packet (packet_ports_at + 1 + 2 * depth)) else None

-- a packet's bytes with another number of hops left
abbrev pub with_hops : List ℕ → ℕ → List ℕ
with_hops packet hops = slice_set (slice_set packet 14 (get_or (to_be_bytes w16 hops) 0 0)) 15 (get_or (to_be_bytes w16 hops) 1 0)

-- the node of the member at the front, and the bytes behind that member
abbrev pub member_head_at : List ℕ → Option (ℕ × List ℕ)
member_head_at bytes = option_map (λ (x : Listed × List ℕ). (x.0.node, x.1)) (member_at bytes)
