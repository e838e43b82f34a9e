-- Sizes and places in bytes.
use Rattle.std.specs.Prelude.{ℕ}

-- the most ports that a label has
abbrev pub most_ports : ℕ
most_ports = 13

-- the size of a packet
abbrev pub packet_size : ℕ
packet_size = 43

-- where in a packet its number of ports stands
abbrev pub packet_ports_at : ℕ
packet_ports_at = 16

-- the size of an address
abbrev pub address_size : ℕ
address_size = 42

-- where in an address its flag stands
abbrev pub flag_at : ℕ
flag_at = 10

-- an address from its flag on
abbrev pub home_size : ℕ
home_size = 32

-- how far behind the flag the number of ports stands
abbrev pub home_ports_at : ℕ
home_ports_at = 5
