-- Why an opening is refused.
use Rattle.std.specs.Prelude.{ℕ, List}
use Rattle.layout_reader.specs.declared.refusals.OpenRefused.{OpenRefused}
pub use Rattle.layout_reader.specs.Refusals.{IsFormatFault, IsFrontFault, IsNoDeviceFault}
use Rattle.layout_reader.specs.Refusals.{TellsOfLayout}
use Rattle.layout_1.specs.Layout.{version}

-- what a refusal tells of the content's front
abbrev pub TellsOf : OpenRefused → List ℕ → Type 0
TellsOf = TellsOfLayout version
