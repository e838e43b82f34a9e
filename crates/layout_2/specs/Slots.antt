-- What a slot holds.
use Rattle.std.specs.Prelude.{ℕ, List}
use Rattle.layout_reader.specs.Slots.{HasCheckpoint as HasCheckpointByForm}
use Rattle.layout_2.specs.State.{State}
use Rattle.layout_2.specs.Form.{layout_form}

-- a slot has the text of this checkpoint behind its gate
abbrev pub HasCheckpoint : ℕ → ℕ → State → List ℕ → Type 0
HasCheckpoint = HasCheckpointByForm layout_form
