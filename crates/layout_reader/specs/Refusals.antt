-- Why an opening is refused, and what the front of a device tells: whether it is formatted, and by which layout.
use Rattle.std.specs.Prelude.{◌≡◌, ◌≤◌, ℕ, List, [], ◌∷◌, ◌++◌, length}
use Rattle.std.specs.Int.{w16, to_be_bytes}
use Rattle.disk_trait.specs.Disk.{bytes_at}
use Rattle.layout_reader.specs.declared.refusals.OpenRefused.{OpenRefused}
use Rattle.layout_reader.specs.declared.refusals.OpenRefused.TheVariants.{NotFormatted, BadVersion, Damaged, Device, Memory}

-- the refusals that come only where the content stands for no state
abbrev pub IsFormatFault : OpenRefused → Type 0
IsFormatFault NotFormatted = Unit {0}
IsFormatFault BadVersion = Unit {0}
IsFormatFault Damaged = Unit {0}
IsFormatFault Device = ⊥
IsFormatFault Memory = ⊥

-- the refusals that come only where every call of the device was served
abbrev pub IsNoDeviceFault : OpenRefused → Type 0
IsNoDeviceFault NotFormatted = Unit {0}
IsNoDeviceFault BadVersion = Unit {0}
IsNoDeviceFault Damaged = Unit {0}
IsNoDeviceFault Device = ⊥
IsNoDeviceFault Memory = Unit {0}

-- the refusals that come at the front alone
abbrev pub IsFrontFault : OpenRefused → Type 0
IsFrontFault NotFormatted = Unit {0}
IsFrontFault BadVersion = Unit {0}
IsFrontFault Damaged = ⊥
IsFrontFault Device = ⊥
IsFrontFault Memory = ⊥

-- magic, version and number of nodes
abbrev pub header_len : ℕ
header_len = 10

-- the first bytes of a device: TZNODE
abbrev pub magic : List ℕ
magic = 0x54 ∷ 0x5a ∷ 0x4e ∷ 0x4f ∷ 0x44 ∷ 0x45 ∷ []

-- the two digits of a layout's version, the first of which is 0
abbrev pub version_of : ℕ → List ℕ
version_of digit = 0x30 ∷ digit ∷ []

-- magic, version and the number of nodes
abbrev pub header_with : List ℕ → ℕ → List ℕ
header_with version nodes = magic ++ version ++ to_be_bytes w16 nodes

-- there are 10 bytes at least, and the first 6 are the magic
abbrev pub HasMagic : List ℕ → Type 0
HasMagic content = (header_len ≤ length content) × (bytes_at content 0 6 ≡ magic)

-- this isn't the front of a formatted device
abbrev pub LacksMagic : List ℕ → Type 0
LacksMagic content = ¬ (HasMagic content)

-- it is one, of this layout
abbrev pub HasLayout : List ℕ → List ℕ → Type 0
HasLayout version content = HasMagic content × (bytes_at content 6 2 ≡ version)

-- it is one, but of another layout
abbrev pub HasOtherLayout : List ℕ → List ℕ → Type 0
HasOtherLayout version content = HasMagic content × (¬ (bytes_at content 6 2 ≡ version))

-- what a refusal of the reader of a layout tells of the content's front
abbrev pub TellsOfLayout : List ℕ → OpenRefused → List ℕ → Type 0
TellsOfLayout version NotFormatted content = LacksMagic content
TellsOfLayout version BadVersion content = HasOtherLayout version content
TellsOfLayout version Damaged content = HasLayout version content
TellsOfLayout version Device content = Unit {0}
TellsOfLayout version Memory content = HasLayout version content
