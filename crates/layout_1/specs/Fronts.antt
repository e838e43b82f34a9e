-- What the front of a device tells: whether it is formatted, and by which layout.
use Rattle.std.specs.Prelude.{ℕ, List}
pub use Rattle.layout_reader.specs.Refusals.{HasMagic, LacksMagic}
use Rattle.layout_reader.specs.Refusals.{HasLayout, HasOtherLayout}
use Rattle.layout_1.specs.Layout.{version}

-- a formatted device, but of another layout
abbrev pub HasOtherVersion : List ℕ → Type 0
HasOtherVersion = HasOtherLayout version

-- a formatted device of this layout
abbrev pub HasThisVersion : List ℕ → Type 0
HasThisVersion = HasLayout version
