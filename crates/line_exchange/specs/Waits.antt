-- By which generation a line is answered behind one that waited.
use Rattle.std.specs.Prelude.{◌≡◌, ◌<◌, ◌≤◌, ℕ, List, Some, slice_get}
use Rattle.packet_ways.specs.declared.carried.Carried.TheVariants.{Along, Unreachable}
use Rattle.live_lines.specs.declared.answer.Answer.{Answer}
use Rattle.live_lines.specs.declared.answer.Answer.TheVariants.{Told, Waited, Way}

-- the generation whose tables an answer to a route or to who asks for an address is by
abbrev pub GoesBy : Answer → ℕ → Type 0
GoesBy (Way (Along generation nodes length)) number = number ≡ generation
GoesBy (Way (Unreachable generation)) number = number ≡ generation
GoesBy (Told address) number = number ≡ address.generation
GoesBy other number = ⊥

-- a route and an address go by no generation that is older than one that was waited for on an earlier line
abbrev pub AreNoOlder : List Answer → Type 0
AreNoOlder answers = (before k waited number : ℕ) (answer : Answer) → before < k → slice_get answers before ≡ Some (Waited waited)
    → slice_get answers k ≡ Some answer → GoesBy answer number → waited ≤ number

-- none was waited for that is later than this one
abbrev pub AreAwaitedTo : ℕ → List Answer → Type 0
AreAwaitedTo awaited answers = (k waited : ℕ) → slice_get answers k ≡ Some (Waited waited) → waited ≤ awaited

-- an answer behind others of which none waited for a later one than the first, and with it none for a later one than the second
pub record IsNoOlder (old : ℕ) (answer : Answer) (new : ℕ) : Type 0 where
  pub kept : old ≤ new
  pub waits : (waited : ℕ) → answer ≡ Waited waited → waited ≤ new
  pub by : (number : ℕ) → GoesBy answer number → old ≤ number
