-- What a forwarder answers by a shelf.
use Rattle.std.specs.Prelude.{◌≡◌, ◌⊎◌, ℕ, List, Option, Some, None, Result, Ok, Err, slice_get}
use Rattle.schemes.specs.declared.parts.Parts.{Parts}
use Rattle.schemes.specs.declared.packet.Address.{Address}
use Rattle.schemes.specs.declared.packet.Packet.{Packet}
use Rattle.schemes.specs.declared.packet.Move.{Move}
use Rattle.schemes.specs.declared.packet.Refused as scheme
use Rattle.schemes.specs.declared.packet.Refused.TheVariants as by_scheme
use Rattle.schemes.specs.Tables.{Tables, tables}
use Rattle.schemes.specs.Service.{address_given, decide, node_step}
use Rattle.generations.specs.Boards.{scheme_of}
use Rattle.forwarders.specs.declared.refused.Refused.{Refused}
use Rattle.forwarders.specs.declared.refused.Refused.TheVariants.{BoardShut, GenerationGone, NoNode, Unreachable, Stray, Spent}

-- the places of a shelf: the generations that stand there, each a number and a scheme's tables
abbrev pub Shelf : Type 0
Shelf = List (Option (ℕ × Parts))

-- a generation of this number stands on the shelf
abbrev pub IsOnShelf : ℕ → Shelf → Type 0
IsOnShelf number shelf = (k : ℕ) × ((p : Parts) × (slice_get shelf k ≡ Some (Some (number, p))))

-- a scheme's refusal
abbrev pub named : scheme.Refused → Refused
named by_scheme.NoNode = NoNode
named by_scheme.Unreachable = Unreachable
named by_scheme.Stray = Stray
named by_scheme.Spent = Spent

-- a scheme's answer
abbrev pub by_name : {A : Type 0} → Result A scheme.Refused → Result A Refused
by_name (Ok a) = Ok a
by_name (Err e) = Err (named e)

-- the answer of the scheme that was found, if one was
abbrev pub by : {A : Type 0} → (Tables → Result A scheme.Refused) → Option Parts → Result A Refused
by answer None = Err GenerationGone
by answer (Some p) = by_name (answer (tables p))

-- the address of v in a generation
abbrev pub address_at : ℕ → ℕ → Shelf → Result Address Refused
address_at generation v shelf = by (λ t. address_given t v) (scheme_of generation shelf)

-- the packet that u sends to an address, in the address's generation
abbrev pub launch_at : ℕ → Address → Shelf → Result Packet Refused
launch_at u a shelf = by (λ t. decide t u a) (scheme_of a.generation shelf)

-- what x does with a packet, in the packet's generation
abbrev pub hop_at : ℕ → Packet → Shelf → Result Move Refused
hop_at x k shelf = by (λ t. node_step t x k) (scheme_of k.generation shelf)

-- the answer is this one, unless the board gave no look, which is told so
abbrev pub UnlessShut : {A E : Type 0} → E → Result A E → Result A E → Type 0
UnlessShut shut by_shelf answer = (answer ≡ Err shut) ⊎ (answer ≡ by_shelf)

-- what a forwarder that looks at this shelf, if the board gives a look, answers to a packet at x
abbrev pub IsAnswer : Shelf → ℕ → Packet → Result Move Refused → Type 0
IsAnswer shelf x k answer = UnlessShut BoardShut (hop_at x k shelf) answer

-- an answer to a packet, which comes back where it is refused
abbrev pub handed_back : Packet → Result Move Refused → Result Move (Refused × Packet)
handed_back k (Ok move) = Ok move
handed_back k (Err e) = Err (e, k)
