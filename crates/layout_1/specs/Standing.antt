-- What an image of a device of layout 1 stands for: the definitions of layout_reader, by the form of this layout.
use Rattle.std.specs.Prelude.{ℕ, List}
use Rattle.layout_reader.specs.Standing.{StandsFor as StandsForByForm, OneState as OneStateByForm, StandsForNone as StandsForNoneByForm}
use Rattle.layout_1.specs.State.{State}
use Rattle.layout_1.specs.Form.{layout_form}

-- the image stands for the state: for the network of the newer open slot's checkpoint after the changes of its records
abbrev pub StandsFor : State → List ℕ → Type 0
StandsFor = StandsForByForm layout_form

-- an image stands for at most one state
abbrev pub OneState : Type 0
OneState = OneStateByForm layout_form

-- the image stands for no state
abbrev pub StandsForNone : List ℕ → Type 0
StandsForNone = StandsForNoneByForm layout_form
