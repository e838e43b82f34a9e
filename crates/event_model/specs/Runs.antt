-- What a list of events may be answered.
use Rattle.std.specs.Prelude.{◌≡◌, List, [], ◌∷◌}
use Rattle.event_model.specs.declared.event.Event.{Event}
use Rattle.event_model.specs.declared.reply.Reply.{Reply}
use Rattle.event_model.specs.Machines.{Machine}
use Rattle.event_model.specs.Answers.{Answers}

-- these events may be answered so, one after another, from m on, and then the machine is n
abbrev pub Run : Machine → List Event → List Reply → Machine → Type 0
Run m [] [] n = n ≡ m
Run m (event ∷ events) (reply ∷ replies) n = (next : Machine) × (Answers event m reply next × Run next events replies n)
Run m events replies n = ⊥
