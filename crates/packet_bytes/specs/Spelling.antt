-- How packets and addresses are spelled in bytes. Each number begins with its highest byte.
use Rattle.std.specs.Prelude.{◌≡◌, ℕ, ◌-◌, ◌^◌, ◌<◌, ◌≤◌, List, [], ◌∷◌, ◌++◌, length, replicate, Option, Some, None}
use Rattle.std.specs.List.{flat_map, All}
use Rattle.std.specs.Int.{w16, w64, to_be_bytes}
use Rattle.heavy_labels.specs.Label.{Label}
use Rattle.schemes.specs.declared.packet.Address.{Address}
use Rattle.schemes.specs.declared.packet.Home.{Home}
use Rattle.schemes.specs.declared.packet.Packet.{Packet}
use Rattle.packet_bytes.specs.Layout.{most_ports, home_size}

-- the places for ports: the ports that there are, and 0 in each unused place
abbrev pub places_of : List ℕ → List ℕ
places_of ports = ports ++ replicate (most_ports - length ports) 0

-- ports: how many there are, and all places
abbrev pub ports_text : List ℕ → List ℕ
ports_text ports = length ports ∷ flat_map (to_be_bytes w16) (places_of ports)

-- a packet: generation, destination, root, the label's number, hops left, and the label's ports
abbrev pub packet_text : Packet → List ℕ
packet_text k = to_be_bytes w64 k.generation ++ to_be_bytes w16 k.destination ++ to_be_bytes w16 k.root
    ++ to_be_bytes w16 k.label.first ++ to_be_bytes w16 k.hops_left ++ ports_text k.label.lights

-- a landmark and a label: the flag 1, the landmark, the label's number and ports; and where there is none, zeros to the end
abbrev pub home_text : Option Home → List ℕ
home_text None = replicate home_size 0
home_text (Some h) = (1 ∷ []) ++ to_be_bytes w16 h.landmark ++ to_be_bytes w16 h.label.first ++ ports_text h.label.lights

-- an address: generation, node, and the landmark with the label
abbrev pub address_text : Address → List ℕ
address_text a = to_be_bytes w64 a.generation ++ to_be_bytes w16 a.node ++ home_text a.home

-- no more ports than there are places, each of which fits its place
pub record ArePorts (ports : List ℕ) : Type 0 where
  pub few : length ports ≤ most_ports
  pub each : All (λ port. port < 2 ^ 16) ports

-- a label whose numbers fit their places
abbrev pub IsLabel : Label → Type 0
IsLabel l = (l.first < 2 ^ 16) × ArePorts l.lights

-- a packet whose numbers fit their places
pub record IsPacket (k : Packet) : Type 0 where
  pub generation : k.generation < 2 ^ 64
  pub destination : k.destination < 2 ^ 16
  pub root : k.root < 2 ^ 16
  pub label : IsLabel k.label
  pub hops_left : k.hops_left < 2 ^ 16

-- a landmark and a label whose numbers fit their places
abbrev pub IsHome : Option Home → Type 0
IsHome None = Unit {0}
IsHome (Some h) = (h.landmark < 2 ^ 16) × IsLabel h.label

-- an address whose numbers fit their places
pub record IsAddress (a : Address) : Type 0 where
  pub generation : a.generation < 2 ^ 64
  pub node : a.node < 2 ^ 16
  pub home : IsHome a.home

-- the bytes are the packet's spelling
pub record SpellsPacket (bytes : List ℕ) (k : Packet) : Type 0 where
  pub fits : IsPacket k
  pub text : bytes ≡ packet_text k

-- the bytes are the address's spelling
pub record SpellsAddress (bytes : List ℕ) (a : Address) : Type 0 where
  pub fits : IsAddress a
  pub text : bytes ≡ address_text a
