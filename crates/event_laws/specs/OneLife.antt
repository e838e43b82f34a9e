-- What crashes and later lives have to do with, of all that the machine holds.
use Rattle.std.specs.Prelude.{take, drop}
use Rattle.layout_2.specs.State.{State}
use Rattle.event_laws.specs.History.{Lists}
use Rattle.event_laws.specs.LaterLives.{LifeLists}
use Rattle.event_model.specs.Machines.{Machine}

-- the history that it has come to
abbrev pub history_of : Machine → Lists
history_of m = record { taken = take m.taken m.asked; done = m.done; groups = m.groups; state = m.state; down = m.down }

-- the lists of a life that opened to this state
abbrev pub life_of : State → Machine → LifeLists
life_of first m = record { opened = first; taken = take m.taken m.asked; waiting = drop m.taken m.asked; done = m.done; posted = m.postings }
