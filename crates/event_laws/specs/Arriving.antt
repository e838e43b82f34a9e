-- When a packet arrives: once it is launched, it does where it is hopped often enough.
use Rattle.std.specs.Prelude.{◌≡◌, ◌⊎◌, ◌+◌, ◌<◌, ◌==◌, ℕ, cond, length, List, [], ◌∷◌, true, Some, slice_get}
use Rattle.layout_2.specs.State.{State}
use Rattle.event_model.specs.declared.event.Event.{Event}
use Rattle.event_model.specs.declared.event.Event.TheVariants.{Hop}
use Rattle.event_model.specs.declared.reply.Reply.{Reply}
use Rattle.event_model.specs.declared.reply.Reply.TheVariants.{NotRouted, Delivered, Memory}
use Rattle.event_model.specs.Trips.{Trip}
use Rattle.event_model.specs.Machines.{Machine}
use Rattle.event_model.specs.Runs.{Run}
use Rattle.event_laws.specs.Listed.{IsListed}
use Rattle.event_laws.specs.Courses.{IsRoutedWell}

-- 1 for a hop of the packet of this number, 0 for all else
abbrev pub hop_of : ℕ → Event → ℕ
hop_of i (Hop j at) = cond (j == i) 1 0
hop_of i event = 0

-- how often the packet is hopped
abbrev pub hops_of : ℕ → List Event → ℕ
hops_of i [] = 0
hops_of i (event ∷ events) = hop_of i event + hops_of i events

-- this reply to a hop keeps the packet where it is: the shelf no longer has its generation, or memory ran out
abbrev pub Keeps : Reply → Type 0
Keeps (NotRouted refused) = Unit {0}
Keeps Memory = Unit {0}
Keeps reply = ⊥

-- no hop of the packet is answered so
abbrev pub IsNeverKept : ℕ → List Event → List Reply → Type 0
IsNeverKept i (Hop j at ∷ events) (reply ∷ replies) = (j ≡ i → Keeps reply → ⊥) × IsNeverKept i events replies
IsNeverKept i (event ∷ events) (reply ∷ replies) = IsNeverKept i events replies
IsNeverKept i events replies = Unit {0}

-- one of them is answered that the packet is delivered
abbrev pub HasArrived : ℕ → List Event → List Reply → Type 0
HasArrived i (Hop j at ∷ events) (reply ∷ replies) = ((j ≡ i) × (reply ≡ Delivered)) ⊎ HasArrived i events replies
HasArrived i (event ∷ events) (reply ∷ replies) = HasArrived i events replies
HasArrived i events replies = ⊥

-- The packet of this number is there, and is hopped more often than its trip has edges left; and it is never kept. Then it is delivered.
abbrev pub Arrive : State → Machine → List Event → List Reply → Type 0
Arrive first m events replies = (i : ℕ) (way : Trip) → slice_get m.ways i ≡ Some way → way.there ≡ true → (well : IsRoutedWell first m.asked m.postings way) → length well.course.course.more < hops_of i events
    → IsNeverKept i events replies → HasArrived i events replies

-- so it is in each run
abbrev pub HoppedArrive : Type 0
HoppedArrive = (first : State) (m : Machine) (events : List Event) (replies : List Reply) (n : Machine) → IsListed first m → Run m events replies n → Arrive first m events replies
