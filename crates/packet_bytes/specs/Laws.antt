-- Laws of spellings.
use Rattle.std.specs.Prelude.{◌≡◌, ℕ, List, None}
use Rattle.schemes.specs.declared.packet.Address.{Address}
use Rattle.schemes.specs.declared.packet.Packet.{Packet}
use Rattle.packet_bytes.specs.Refusals.{packet_refusal, address_refusal}
use Rattle.packet_bytes.specs.Spelling.{SpellsPacket, SpellsAddress}

-- no spelling of a packet is refused
abbrev pub PacketsAreRead : Type 0
PacketsAreRead = (bytes : List ℕ) (k : Packet) → SpellsPacket bytes k → packet_refusal bytes ≡ None

-- bytes spell at most one packet
abbrev pub OnePacket : Type 0
OnePacket = (bytes : List ℕ) (j k : Packet) → SpellsPacket bytes j → SpellsPacket bytes k → j ≡ k

-- no spelling of an address is refused
abbrev pub AddressesAreRead : Type 0
AddressesAreRead = (bytes : List ℕ) (a : Address) → SpellsAddress bytes a → address_refusal bytes ≡ None

-- bytes spell at most one address
abbrev pub OneAddress : Type 0
OneAddress = (bytes : List ℕ) (a b : Address) → SpellsAddress bytes a → SpellsAddress bytes b → a ≡ b
