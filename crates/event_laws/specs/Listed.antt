-- What the event machine's lists keep over a life, without a disk.
use Rattle.std.specs.Prelude.{◌≡◌, ◌<◌, ℕ, List, [], ◌++◌, length, Bool, true, Option, Some, None, option_to_list, slice_get}
use Rattle.requests.specs.declared.request.Request.{Request}
use Rattle.requests.specs.Tickets.{sessions}
use Rattle.layout_2.specs.State.{State}
use Rattle.generations.specs.declared.posting.Notice.{Notice}
use Rattle.generations.specs.declared.posting.Notice.TheVariants.{Marked, Failed, Built}
use Rattle.intake.specs.Turns.{of, last_asked}
use Rattle.event_model.specs.declared.session.Session.{Session}
use Rattle.event_model.specs.Machines.{Machine, held}
use Rattle.request_lists.specs.declared.builds.Builds.TheVariants.{InTurn}
use Rattle.request_lists.specs.Lists.{AreListed}

-- what was posted, and behind it what is due
abbrev pub all_told : Machine → List Notice
all_told m = m.postings ++ option_to_list m.due

-- a session is below the limit, and knows the last ticket that it was let in with
pub record KnowsItsLast (asked : List Request) (s : ℕ) (x : Session) : Type 0 where
  pub there : s < sessions
  pub last : x.last ≡ last_asked (of s asked)

-- so is each of these sessions
abbrev pub KnowTheirLast : List Request → List Session → Type 0
KnowTheirLast asked all = (s : ℕ) (x : Session) → slice_get all s ≡ Some x → KnowsItsLast asked s x

-- marks are due only where nothing is held, and that the device failed only where the store is down
abbrev pub DueFits : Option Notice → List Request → Bool → Type 0
DueFits None held down = Unit {0}
DueFits (Some (Marked marks)) held down = held ≡ []
DueFits (Some Failed) held down = down ≡ true
DueFits (Some (Built number scheme)) held down = ⊥

-- what the machine keeps in a life that opened to `first`, of which each session has a last ticket
pub record IsListed (first : State) (m : Machine) : Type 0 where
  pub wide : length first.tickets ≡ sessions
  pub starts : m.starts ≡ first.tickets
  pub start : m.start ≡ first.count
  pub lists : AreListed InTurn first (all_told m) m.asked m.done m.taken m.state m.down
  pub last : KnowTheirLast m.asked m.sessions
  pub due : DueFits m.due (held m) m.down
