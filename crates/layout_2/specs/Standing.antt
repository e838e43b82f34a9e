-- What an image of a device of layout 2 stands for: the definitions of layout_reader, by the form of this layout.
use Rattle.std.specs.Prelude.{ℕ, List}
use Rattle.disk_trait.specs.Disk.{DiskView}
use Rattle.layout_reader.specs.Standing.{StandsBy as StandsByForm, StandsFor as StandsForByForm, OneState as OneStateByForm, KeepsThrough as KeepsThroughByForm, StandsForNone as StandsForNoneByForm}
use Rattle.layout_2.specs.Records.{Entry}
use Rattle.layout_2.specs.State.{State}
use Rattle.layout_2.specs.Form.{layout_form}

-- the image has this checkpoint in this slot, with these records behind it, and the other slot is closed or older
abbrev pub StandsBy : ℕ → ℕ → State → List (List Entry) → List ℕ → Type 0
StandsBy = StandsByForm layout_form

-- the image stands for the state: for that of the newer open slot's checkpoint after the requests of its records
abbrev pub StandsFor : State → List ℕ → Type 0
StandsFor = StandsForByForm layout_form

-- an image stands for at most one state
abbrev pub OneState : Type 0
OneState = OneStateByForm layout_form

-- each image that a crash now may leave stands for the state
abbrev pub KeepsThrough : DiskView → State → Type 0
KeepsThrough = KeepsThroughByForm layout_form

-- the image stands for no state
abbrev pub StandsForNone : List ℕ → Type 0
StandsForNone = StandsForNoneByForm layout_form
