-- What holds of the fields of the ends of the queue.
use Rattle.std.specs.Prelude.{◌≡◌, ℕ, List, true, cond, map, Option, Some, None}
use Rattle.std.specs.Arc.{arc_value}
use Rattle.crossbeam_queue.specs.Passes.{view, IsPassOf}
use Rattle.requests.specs.Tickets.{Rises}
use Rattle.requests.specs.Requests.{asked_by}
use Rattle.requests.specs.declared.request.Request.{Request}
use Rattle.intake.specs.declared.queue.View.{View}
use Rattle.intake.specs.declared.queue.Sender.TheInside as ed
use Rattle.intake.specs.declared.queue.Taker.TheInside as tk
use Rattle.intake.specs.Turns.{editor}
use Rattle.intake.specs.Ends.{Sending, Taking}

-- an editor's end, by its seat in the queue
abbrev pub sender : ed.Inside → Sending
sender e = record { queue = e.pass.table_id; session = e.session; start = e.start; put = (view e.pass).put; fulls = e.misses.number }

-- its seat is one of this queue, and knows what the editor put; what counts is of this queue too
abbrev pub IsSender : ed.Inside → Type 0
IsSender e = IsPassOf (arc_value e.queue) e.pass × (view e.pass ≡ editor e.session e.start (view e.pass).put) × (e.misses.queue ≡ e.pass.table_id)

-- the editor whose seat the taker took in last: its session, and what it put
abbrev pub ended_of : View → Option (ℕ × List Request)
ended_of v = cond v.sends (Some (v.session, v.put)) None

-- the end that takes, by its seat in the queue
abbrev pub receiver : tk.Inside → Taking
receiver t = record { queue = t.pass.table_id; starts = (view t.pass).starts; first = (view t.pass).first; made = (view t.pass).made; got = (view t.pass).got; empties = t.misses.number; ended = ended_of (view t.pass) }

-- its seat is the one of this queue that takes, the tickets of what it took rise from the starts, and what counts is of this queue
abbrev pub IsTaker : tk.Inside → Type 0
IsTaker t = IsPassOf (arc_value t.queue) t.pass × ((view t.pass).takes ≡ true) × Rises (view t.pass).starts (map asked_by (view t.pass).got) × (t.misses.queue ≡ t.pass.table_id)
