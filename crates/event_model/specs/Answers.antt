-- What an event may be answered, and what the machine is then: one line an event, each by the words of the call that it stands for.
use Rattle.std.specs.Prelude.{◌≡◌, ◌≢◌, ◌⊎◌, ℕ, ◌+◌, max, min, cond, nat_le, ◌||◌, is_some, List, [], ◌∷◌, ◌++◌, length, true, false, Option, Some, None, Result, Ok, Err, slice_get, slice_set}
use Rattle.std.specs.Option.{option_map}
use Rattle.requests.specs.declared.request.Request.{Request}
use Rattle.requests.specs.Tickets.{last_of}
use Rattle.schemes.specs.declared.parts.Parts.{Parts}
use Rattle.schemes.specs.declared.packet.Packet.{Packet}
use Rattle.schemes.specs.declared.packet.Move.{Move}
use Rattle.generations.specs.declared.posting.Notice.{Notice}
use Rattle.generations.specs.declared.posting.Notice.TheVariants.{Built}
use Rattle.generations.specs.Notices.{newest_in}
use Rattle.scheme_builds.specs.Schemes.{IsSchemeOf}
use Rattle.group_commit.specs.Limits.{most_held}
use Rattle.group_commit.specs.declared.refused.DeskRefused.TheVariants.{Device, Down, Worn}
use Rattle.intake.specs.declared.outcome.SubmitRefused.{SubmitRefused}
use Rattle.intake.specs.declared.outcome.SubmitRefused.TheVariants.{QueueFull}
use Rattle.intake.specs.Outcomes.{outcome_on, refusal_on}
use Rattle.forwarders.specs.declared.refused.Refused.{Refused}
use Rattle.forwarders.specs.Answers.{hop_at}
use Rattle.event_model.specs.declared.session.Session.{Session}
use Rattle.event_model.specs.declared.event.Event.{Event}
use Rattle.event_model.specs.declared.event.Event.TheVariants.{Submit, Look, Take, Commit, Post, Rebuild, Launch, Hop}
use Rattle.event_model.specs.declared.reply.Reply.{Reply}
use Rattle.event_model.specs.declared.reply.Reply.TheVariants.{Submitted, NotSubmitted, Looked, Taken, Committed, NotCommitted, Posted, Rebuilt, NotRebuilt, Launched, NotRouted, Idle, NoActor, Memory}
use Rattle.event_model.specs.Trips.{Trip, sent, launch_by, hop_reply, hop_way}
use Rattle.event_model.specs.Machines.{Machine, held, waiting, settling, board_at, let_in, with_session, with_seen, with_posted, grouped, committed, lost}

-- a reply, and what the machine is then
pub record Answer : Type 0 where
  pub reply : Reply
  pub after : Machine

-- this reply, and then the machine is this
abbrev pub answer : Reply → Machine → Answer
answer reply after = record { reply = reply; after = after }

-- ---- editors

-- a request that the board lets in: refused where the queue is full
abbrev pub queue_by : Machine → Session → Request → Answer
queue_by m x r = cond (nat_le m.capacity (length (waiting m))) (answer (NotSubmitted QueueFull) m)
    (answer (Submitted r.ticket) (let_in m (record { seen = x.seen; last = Some r.ticket }) r))

-- where the board refuses it, so is it answered
abbrev pub unless_refused : Machine → Session → Request → Option SubmitRefused → Answer
unless_refused m x r (Some refused) = answer (NotSubmitted refused) m
unless_refused m x r None = queue_by m x r

-- a session asks: it is refused by the board that it has seen, or by the queue
abbrev pub submit_by : Machine → Request → Option Session → Answer
submit_by m r None = answer NoActor m
submit_by m r (Some x) = unless_refused m x r (refusal_on (board_at m x.seen) r.session (last_of m.starts r.session) x.last r.ticket)

-- what a request is answered, and what the machine is then
abbrev pub submit : Machine → Request → Answer
submit m r = submit_by m r (slice_get m.sessions r.session)

-- how many postings an actor has seen that looks at so many
abbrev pub further : Machine → ℕ → ℕ → ℕ
further m seen at = max seen (min at (length m.postings))

-- a session looks: what the board that it now has seen says of its last ticket
abbrev pub look_by : Machine → ℕ → ℕ → Option Session → Answer
look_by m s at None = answer NoActor m
look_by m s at (Some x) =
    answer (Looked (outcome_on (board_at m (further m x.seen at)) s x.last)) (with_session m s (record { seen = further m x.seen at; last = x.last }))

-- what a session is answered that looks at so many postings
abbrev pub look : Machine → ℕ → ℕ → Answer
look m s at = look_by m s at (slice_get m.sessions s)

-- ---- the committer

-- the first request that waits moves to the desk, unless that is full or has something to tell
abbrev pub take_by : Machine → Option Request → Answer
take_by m None = answer Idle m
take_by m (Some r) = cond (is_some m.due || nat_le most_held (length (held m))) (answer Idle m) (answer (Taken r.session r.ticket) (record m { taken = m.taken + 1 }))

-- what the committer is answered that takes one request
abbrev pub take_one : Machine → Answer
take_one m = take_by m (slice_get m.asked m.taken)

-- what is due is posted
abbrev pub post_by : Machine → Option Notice → Answer
post_by m None = answer Idle m
post_by m (Some notice) = answer Posted (with_posted (record m { due = None }) notice)

-- what the committer is answered that posts what is due
abbrev pub post : Machine → Answer
post m = post_by m m.due

-- a commit is answered as the desk answers it; Worn stands only where something of what is held is accepted, and Memory never once the device failed
abbrev pub CommitAnswers : Machine → Reply → Machine → Type 0
CommitAnswers m Idle n = (held m ≡ []) × (n ≡ m)
CommitAnswers m (Committed accepted) n = (held m ≢ []) × (m.down ≡ false) × (accepted ≡ length (settling m).accepted) × (n ≡ committed m)
CommitAnswers m (NotCommitted Device) n = (held m ≢ []) × (m.down ≡ false) × (n ≡ lost m)
CommitAnswers m (NotCommitted Down) n = (held m ≢ []) × (m.down ≡ true) × (n ≡ m)
CommitAnswers m (NotCommitted Worn) n = ((settling m).accepted ≢ []) × (m.down ≡ false) × (n ≡ grouped m)
CommitAnswers m Memory n = (held m ≢ []) × (m.down ≡ false) × (n ≡ m)
CommitAnswers m reply n = ⊥

-- the number of the newest generation
abbrev pub newest_number : List Notice → Option ℕ
newest_number log = option_map (λ g. g.0) (newest_in log)

-- a generation of the store's count is newest already; or a scheme of the store's graph by these words is posted under it
abbrev pub IsBuilt : List ℕ → Machine → Machine → Type 0
IsBuilt words m n = ((newest_number m.postings ≡ Some m.state.count) × (n ≡ m))
    ⊎ ((newest_number m.postings ≢ Some m.state.count) × ((scheme : Parts) × (IsSchemeOf m.state.graph words m.state.count scheme × (n ≡ with_posted m (Built m.state.count scheme)))))

-- what is due is posted first, also where memory then runs out; where the store is down, nothing is done
abbrev pub RebuildAnswers : List ℕ → Machine → Reply → Machine → Type 0
RebuildAnswers words m NotRebuilt n = (m.down ≡ true) × (n ≡ m)
RebuildAnswers words m (Rebuilt generation) n = (m.down ≡ false) × (generation ≡ m.state.count) × IsBuilt words (post m).after n
RebuildAnswers words m Memory n = (m.down ≡ false) × ((n ≡ m) ⊎ (n ≡ (post m).after))
RebuildAnswers words m reply n = ⊥

-- ---- forwarders

-- how many postings the forwarder has seen that looks at so many, and the machine with that
abbrev pub sees : Machine → ℕ → ℕ
sees m at = further m m.seen at

-- the machine after the forwarder has looked at so many
abbrev pub looked : Machine → ℕ → Machine
looked m at = with_seen m (sees m at)

-- a packet that is sent has a number and a way
abbrev pub launch_as : Machine → ℕ → ℕ → Result Packet Refused → Answer
launch_as m u v (Ok packet) = answer (Launched (length m.ways)) (record m { ways = m.ways ++ sent u v packet ∷ [] })
launch_as m u v (Err refused) = answer (NotRouted refused) m

-- what a packet's launch from one node to another is answered
abbrev pub launch : Machine → ℕ → ℕ → ℕ → Answer
launch m u v at = launch_as (looked m at) u v (launch_by (board_at m (sees m at)).shelf u v)

-- a packet's way goes on by what the node says where it stands
abbrev pub hop_as : Machine → ℕ → Trip → Result Move Refused → Answer
hop_as m i way move = answer (hop_reply move) (record m { ways = slice_set m.ways i (hop_way way move) })

-- what the hop of a way is answered, where there is such a way
abbrev pub hop_by : Machine → ℕ → ℕ → Option Trip → Answer
hop_by m i at None = answer NoActor m
hop_by m i at (Some way) = cond way.there (hop_as (looked m at) i way (hop_at way.at way.packet (board_at m (sees m at)).shelf)) (answer NoActor m)

-- what the hop of a packet is answered
abbrev pub hop : Machine → ℕ → ℕ → Answer
hop m i at = hop_by m i at (slice_get m.ways i)

-- ---- all events

-- this answer and no other
abbrev pub Exactly : Answer → Reply → Machine → Type 0
Exactly a reply n = (reply ≡ a.reply) × (n ≡ a.after)

-- this answer; or Memory, and then all is as it was
abbrev pub OrMemory : Answer → Machine → Reply → Machine → Type 0
OrMemory a m reply n = Exactly a reply n ⊎ ((reply ≡ Memory) × (n ≡ m))

-- this event may be answered so in m, and then the machine is n
abbrev pub Answers : Event → Machine → Reply → Machine → Type 0
Answers (Submit session ticket change) m reply n = OrMemory (submit m (record { session = session; ticket = ticket; change = change })) m reply n
Answers (Look session at) m reply n = OrMemory (look m session at) m reply n
Answers Take m reply n = Exactly (take_one m) reply n
Answers Commit m reply n = CommitAnswers m reply n
Answers Post m reply n = OrMemory (post m) m reply n
Answers (Rebuild words) m reply n = RebuildAnswers words.items m reply n
Answers (Launch from to at) m reply n = OrMemory (launch m from to at) m reply n
Answers (Hop packet at) m reply n = OrMemory (hop m packet at) m reply n

-- how many changes a reply answers for
abbrev pub number_of : Reply → ℕ
number_of (Committed accepted) = accepted
number_of reply = 0
