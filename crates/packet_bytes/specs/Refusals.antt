-- Why bytes are refused: the first case that holds, in the order of the tests.
use Rattle.std.specs.Prelude.{ℕ, ◌+◌, ◌*◌, ◌==◌, ◌&&◌, ◌||◌, nat_lt, Bool, not, if◌then◌else◌, List, length, get_or, drop, Option, Some, None}
use Rattle.std.specs.List.{list_all}
use Rattle.packet_bytes.specs.declared.wire.WireRefused.{WireRefused}
use Rattle.packet_bytes.specs.declared.wire.WireRefused.TheVariants.{BadLength, BadFlag, BadCount, BadPadding}
use Rattle.packet_bytes.specs.Layout.{most_ports, packet_size, packet_ports_at, address_size, flag_at, home_ports_at}

-- whether all bytes are 0
abbrev pub are_zeros : List ℕ → Bool
are_zeros bytes = list_all (λ b. b == 0) bytes

-- of bytes that begin with a number of ports: whether they are too many
abbrev pub has_too_many : List ℕ → Bool
has_too_many bytes = nat_lt most_ports (get_or bytes 0 0)

-- of the same: whether each place behind the ports is 0
abbrev pub is_padded : List ℕ → Bool
is_padded bytes = are_zeros (drop (1 + 2 * get_or bytes 0 0) bytes)

-- of the same: the refusal, if there is one
abbrev pub ports_refusal : List ℕ → Option WireRefused
ports_refusal bytes =
    if has_too_many bytes then Some BadCount else
    if not (is_padded bytes) then Some BadPadding else None

-- of bytes: why they are no packet, if they are none
abbrev pub packet_refusal : List ℕ → Option WireRefused
packet_refusal bytes =
    if not (length bytes == packet_size) then Some BadLength else
    ports_refusal (drop packet_ports_at bytes)

-- of bytes that begin with an address's flag: whether it is above 1, or 0 before a byte that isn't 0
abbrev pub has_bad_flag : List ℕ → Bool
has_bad_flag bytes = nat_lt 1 (get_or bytes 0 0) || (get_or bytes 0 0 == 0 && not (are_zeros (drop 1 bytes)))

-- of the same: the refusal, if there is one
abbrev pub home_refusal : List ℕ → Option WireRefused
home_refusal bytes =
    if has_bad_flag bytes then Some BadFlag else
    if get_or bytes 0 0 == 0 then None else ports_refusal (drop home_ports_at bytes)

-- of bytes: why they are no address, if they are none
abbrev pub address_refusal : List ℕ → Option WireRefused
address_refusal bytes =
    if not (length bytes == address_size) then Some BadLength else
    home_refusal (drop flag_at bytes)
