-- What becomes of a packet over events.
use Rattle.std.specs.Prelude.{◌≡◌, ◌⊎◌, ℕ, List, [], ◌∷◌, false, Some, slice_get}
use mathlib.Core.List.{IsPrefix}
use Rattle.event_model.specs.declared.event.Event.{Event}
use Rattle.event_model.specs.declared.event.Event.TheVariants.{Hop}
use Rattle.event_model.specs.declared.reply.Reply.{Reply}
use Rattle.event_model.specs.declared.reply.Reply.TheVariants.{NoActor, Memory}
use Rattle.event_model.specs.Trips.{Trip}
use Rattle.event_model.specs.Machines.{Machine}

-- the same packet further on its way: it has visited the same nodes and perhaps more; and once it is gone, nothing of it changes
pub record GoesOn (old new : Trip) : Type 0 where
  pub from : new.from ≡ old.from
  pub to : new.to ≡ old.to
  pub generation : new.packet.generation ≡ old.packet.generation
  pub visited : IsPrefix old.visited new.visited
  pub gone : old.there ≡ false → new ≡ old

-- each packet goes on under its number
abbrev pub AllGoOn : Machine → Machine → Type 0
AllGoOn m n = (i : ℕ) (old : Trip) → slice_get m.ways i ≡ Some old → (new : Trip) × ((slice_get n.ways i ≡ Some new) × GoesOn old new)

-- the packet of this number isn't there any more
abbrev pub IsGone : ℕ → Trip → Machine → Type 0
IsGone i way m = (slice_get m.ways i ≡ Some way) × (way.there ≡ false)

-- a hop of this packet is answered NoActor, or Memory
abbrev pub HopsNowhere : ℕ → Event → Reply → Type 0
HopsNowhere i (Hop j at) reply = j ≡ i → (reply ≡ NoActor) ⊎ (reply ≡ Memory)
HopsNowhere i event reply = Unit {0}

-- so is each of them
abbrev pub NeverHops : ℕ → List Event → List Reply → Type 0
NeverHops i [] [] = Unit {0}
NeverHops i (event ∷ events) (reply ∷ replies) = HopsNowhere i event reply × NeverHops i events replies
NeverHops i events replies = ⊥
