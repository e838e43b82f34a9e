-- What loading a device of layout 1 gives, and what a refusal to load it says: the definitions of layout_reader, by the form of this layout.
use Rattle.std.specs.Prelude.{ℕ, List}
use Rattle.disk_trait.specs.Disk.{DiskView}
use Rattle.layout_reader.specs.declared.loaded.Loaded.{Loaded as LoadedOf}
use Rattle.layout_reader.specs.declared.refusals.OpenRefused.{OpenRefused}
pub use Rattle.layout_reader.specs.Reading.{IsRead, IsNotRead}
pub use Rattle.layout_reader.specs.Loading.{state_of}
use Rattle.layout_reader.specs.Loading.{FitTogether, StandsAsLoaded, IsLoaded as IsLoadedByForm, IsNotLoaded as IsNotLoadedByForm, stands_for as stands_for_by_form}
use Rattle.layout_1.specs.Records.{Entry}
use Rattle.layout_1.specs.Form.{layout_form}
use Rattle.layout_1.specs.Standing.{StandsFor}

-- what is loaded: a state without tickets, and the slot, the checkpoint and the journal that it comes from
abbrev pub Loaded : Type 0
Loaded = LoadedOf Entry (Unit {0})

-- A device was loaded: what it gave fits together, and where the device keeps the model, it is what stands there.
abbrev pub IsLoaded : DiskView → DiskView → Loaded → Type 0
IsLoaded = IsLoadedByForm layout_form

-- A device wasn't loaded, and the refusal tells why.
abbrev pub IsNotLoaded : DiskView → DiskView → OpenRefused → Type 0
IsNotLoaded = IsNotLoadedByForm layout_form

-- an image that has the slot that was loaded stands for the state that was loaded
abbrev pub stands_for : (loaded : Loaded) (image : List ℕ) → FitTogether layout_form loaded → StandsAsLoaded layout_form loaded image → StandsFor (state_of loaded) image
stands_for = stands_for_by_form layout_form
