-- By which generation a forwarder answers.
use Rattle.generations.specs.Beginnings.{Beginning}
use Rattle.service_actors.specs.Forwarded.{IsByNewest, WasNewest}
use Rattle.live_lines.specs.declared.asked.Asked.{Asked}
use Rattle.live_lines.specs.declared.asked.Asked.TheVariants as asks
use Rattle.live_lines.specs.declared.answer.Answer.{Answer}
use Rattle.live_lines.specs.declared.answer.Answer.TheVariants.{Way, Told}

-- a route and an address go by a generation that was the newest, by a look between these two
abbrev pub GoesByNewest : Beginning → Beginning → Asked → Answer → Type 0
GoesByNewest old new (asks.Route from to) (Way way) = IsByNewest old new way
GoesByNewest old new (asks.Address node) (Told address) = WasNewest old new address.generation
GoesByNewest old new asked answer = Unit {0}
