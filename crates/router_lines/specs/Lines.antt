-- What lines ask for.
use Rattle.std.specs.Prelude.{◌≡◌, ◌≢◌, ◌⊎◌, ◌*◌, ℕ, Ok, Option, Some, List, ◌++◌, codes, length}
use Rattle.hex.specs.Hex.{decode_sized}
use Rattle.packet_bytes.specs.Digits.{AreDigitsOf, HasNoBytes}
use Rattle.packet_bytes.specs.Layout.{address_size, packet_size}
use Rattle.packet_bytes.specs.Refusals.{address_refusal, packet_refusal}
use Rattle.packet_bytes.specs.Spelling.{SpellsAddress, SpellsPacket}
use Rattle.packet_bytes.specs.declared.wire.WireRefused.{WireRefused}
use Rattle.packet_bytes.specs.declared.wire.WireRefused.TheVariants.{BadLength}
use Rattle.router_lines.specs.declared.line.Asked.{Asked}
use Rattle.router_lines.specs.declared.line.Asked.TheVariants.{Address, Launch, Hop, Tables, Unread, NotUnderstood}

-- the words of lines
abbrev pub address_word : List ℕ
address_word = codes "address"

abbrev pub tables_word : List ℕ
tables_word = codes "tables"

abbrev pub launch_word : List ℕ
launch_word = codes "launch "

abbrev pub hop_word : List ℕ
hop_word = codes "hop "

abbrev pub load_word : List ℕ
load_word = codes "load "

abbrev pub drop_word : List ℕ
drop_word = codes "drop "

-- why digits are those of no value: they are more or fewer, or their bytes are refused
abbrev pub IsUnread : ℕ → (List ℕ → Option WireRefused) → List ℕ → WireRefused → Type 0
IsUnread size refusal digits e =
    ((e ≡ BadLength) × (length digits ≢ 2 * size))
    ⊎ ((length digits ≡ 2 * size) × ((bytes : List ℕ) × ((decode_sized digits size ≡ Ok bytes) × (refusal bytes ≡ Some e))))

-- what the digits of an address ask for, and those of a packet
abbrev pub IsLaunch : List ℕ → Asked → Type 0
IsLaunch digits (Launch a) = AreDigitsOf address_size SpellsAddress digits a
IsLaunch digits (Unread e) = IsUnread address_size address_refusal digits e
IsLaunch digits NotUnderstood = HasNoBytes address_size digits
IsLaunch digits asked = ⊥

abbrev pub IsHop : List ℕ → Asked → Type 0
IsHop digits (Hop k) = AreDigitsOf packet_size SpellsPacket digits k
IsHop digits (Unread e) = IsUnread packet_size packet_refusal digits e
IsHop digits NotUnderstood = HasNoBytes packet_size digits
IsHop digits asked = ⊥

-- a line asks for something that is known
abbrev pub Asks : List ℕ → Asked → Type 0
Asks line Address = line ≡ address_word
Asks line Tables = line ≡ tables_word
Asks line (Launch a) = (digits : List ℕ) × ((line ≡ launch_word ++ digits) × AreDigitsOf address_size SpellsAddress digits a)
Asks line (Hop k) = (digits : List ℕ) × ((line ≡ hop_word ++ digits) × AreDigitsOf packet_size SpellsPacket digits k)
Asks line (Unread e) =
    (digits : List ℕ) × (((line ≡ launch_word ++ digits) × IsUnread address_size address_refusal digits e) ⊎ ((line ≡ hop_word ++ digits) × IsUnread packet_size packet_refusal digits e))
Asks line NotUnderstood = ⊥

-- what a line asks for, exactly: for nothing where it asks for nothing that is known
abbrev pub IsAskedIn : List ℕ → Asked → Type 0
IsAskedIn line NotUnderstood = (asked : Asked) → Asks line asked → ⊥
IsAskedIn line asked = Asks line asked
