-- By which generation forwarders answer.
use Rattle.std.proofs.Common.{Option, Some, None}
use Rattle.std.specs.Prelude.{IfSome}
use Rattle.generations.specs.Beginnings.{Beginning, GoesOn}
use Rattle.generations.proofs.Sharing.{goes_self}
use Rattle.service_actors.proofs.NewestLooks.{newest_wider, was_wider}
use Rattle.live_lines.specs.declared.asked.Asked.{Asked}
use Rattle.live_lines.specs.declared.asked.Asked.TheVariants as asks
use Rattle.live_lines.specs.declared.answer.Answer.{Answer}
use Rattle.live_lines.specs.declared.answer.Answer.TheVariants.{Way, Told}
use Rattle.line_workers.specs.Newest.{GoesByNewest}

-- what is so by a look between two is so between two that are further apart
pub goes_wider : (old from to new : Beginning) (asked : Asked) (answer : Answer) → GoesOn old from → GoesOn to new → GoesByNewest from to asked answer → GoesByNewest old new asked answer
goes_wider old from to new (asks.Route a b) (Way way) before behind is = newest_wider old from to new way before behind is
goes_wider old from to new (asks.Address node) (Told address) before behind is = was_wider old from to new address.generation before behind is
goes_wider old from to new _ _ before behind is = tt

-- .. where there is an answer
pub some_wider : (old from new : Beginning) (asked : Asked) (o : Option Answer) → GoesOn old from → IfSome o (GoesByNewest from new asked) → IfSome o (GoesByNewest old new asked)
some_wider old from new asked None before is = tt
some_wider old from new asked (Some answer) before is = goes_wider old from new new asked answer before (goes_self new) is
