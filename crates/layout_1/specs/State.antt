-- What a device holds: a network, and how many changes made it.
use Rattle.std.specs.Prelude.{ℕ, List, Option}
use Rattle.graph_edits.specs.Edges.{Network}
use Rattle.layout_reader.specs.State.{State as StateOf, after as after_by}
use Rattle.layout_1.specs.Records.{Entry}
use Rattle.layout_1.specs.Form.{layout_form}

-- what a device stands for: how many changes were accepted, and the network that they made
abbrev pub State : Type 0
State = StateOf (Unit {0})

-- the state of a count and a network
abbrev pub counted : ℕ → Network → State
counted count graph = record { count = count; graph = graph; tickets = tt }

-- the state after changes in order, each accepted
abbrev pub after : State → List Entry → Option State
after = after_by layout_form
