-- What a world stores, as a part of the machine.
use Rattle.std.specs.Prelude.{◌≡◌, ◌≤◌, ℕ, List, [], ◌∷◌, map, Option, Some, Bool, slice_get}
use Rattle.std.specs.Coded.{×_prop, Unit-prop, le_prop}
use Rattle.std.specs.Option.{unwrap_or}
use Rattle.requests.specs.Tickets.{last_of, tickets_after}
use Rattle.requests.specs.declared.request.Request.{Request}
use Rattle.layout_2.specs.State.{State, asked}
use Rattle.generations.specs.declared.posting.Notice.{Notice}
use Rattle.generations.specs.declared.posting.Notice.TheVariants.{Marked, Failed, Built}
use Rattle.generations.specs.Notices.{notice_of}
use Rattle.group_commit.specs.Turns.{AreBehind}
use Rattle.event_model.specs.declared.session.Session.{Session}
use Rattle.event_model.specs.Trips.{Trip}
use Rattle.event_model.specs.Machines.{Machine}
use Rattle.interleave.specs.declared.stored.Way.{Way}
use Rattle.interleave.specs.declared.stored.Stored.{Stored}

-- a packet's way, as plain data
abbrev pub trip_of : Way → Trip
trip_of w = record { from = w.from; to = w.to; visited = w.visited.items; at = w.at; packet = w.packet; there = w.there }

-- what was posted, as plain data
abbrev pub postings_of : Stored → List Notice
postings_of s = map notice_of s.postings.items

-- the machine that stores this, beside a desk that has something due and a store in a state
abbrev pub machine_with : Stored → Option Notice → State → Bool → Machine
machine_with s due state down = record {
  starts = s.starts;
  start = s.start;
  capacity = s.capacity;
  sessions = s.sessions.items;
  asked = s.asked.items;
  taken = s.taken;
  done = s.done;
  groups = s.groups.items;
  postings = postings_of s;
  due = due;
  state = state;
  down = down;
  seen = s.seen;
  ways = map trip_of s.ways.items;
}

-- each session's last ticket, or its start where it has asked for nothing, is the last one of its requests
abbrev pub AreLasts : List ℕ → List Request → List Session → Type 0
AreLasts starts requests sessions = (s : ℕ) (x : Session) → slice_get sessions s ≡ Some x → unwrap_or x.last (last_of starts s) ≡ last_of (tickets_after starts (asked requests)) s

-- the number of a generation, or the one before it
abbrev pub newer : Option ℕ → Notice → Option ℕ
newer newest (Marked marks) = newest
newer newest Failed = newest
newer newest (Built number scheme) = Some number

-- that last tickets are behind others is one fact
pub behind_prop : (tickets ahead : List ℕ) → IsProp (AreBehind tickets ahead)
behind_prop [] [] = Unit-prop
behind_prop [] (u ∷ us) = λ x y. absurd x
behind_prop (t ∷ ts) [] = λ x y. absurd x
behind_prop (t ∷ ts) (u ∷ us) =
    let le : IsProp (t ≤ u) = le_prop in
    ×_prop le (behind_prop ts us)
