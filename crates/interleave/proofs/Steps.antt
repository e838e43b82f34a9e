-- What one event is answered, from what its call was answered.
use Rattle.std.proofs.Common.{◌≡◌, ◌<◌, ◌≤◌, ◌+◌, ◌-◌, ◌||◌, ℕ, Bool, true, false, cond, nat_le, is_some, length, Option, Some, None, Result, slice_get, inl, sym, ap, ◌∙◌, subst, arith}
use Rattle.std.proofs.lemmas.Bool.Decides.{nat_tests}
use Rattle.std.proofs.lemmas.List.{length-drop}
use Rattle.requests.specs.declared.request.Request.{Request}
use Rattle.requests.specs.Tickets.{last_of}
use Rattle.schemes.specs.declared.packet.Packet.{Packet}
use Rattle.generations.specs.declared.posting.Notice.{Notice}
use Rattle.group_commit.specs.Limits.{most_held}
use Rattle.intake.specs.declared.outcome.SubmitRefused.{SubmitRefused}
use Rattle.intake.specs.declared.outcome.SubmitRefused.TheVariants.{QueueFull}
use Rattle.intake.specs.Outcomes.{outcome_on, refusal_on}
use Rattle.forwarders.specs.declared.refused.Refused.{Refused}
use Rattle.forwarders.specs.Answers.{hop_at}
use Rattle.event_model.specs.declared.session.Session.{Session}
use Rattle.event_model.specs.declared.reply.Reply.{Reply}
use Rattle.event_model.specs.declared.reply.Reply.TheVariants.{Submitted, NotSubmitted, Looked, Taken, Idle, NoActor}
use Rattle.event_model.specs.Trips.{Trip, launch_by}
use Rattle.event_model.specs.Machines.{Machine, held, board_at, let_in, with_session}
use Rattle.event_model.specs.Answers.{Answer, answer, Exactly, OrMemory, submit, submit_by, unless_refused, look, look_by, further, take_one, take_by, launch, launch_as, looked, sees, hop, hop_by, hop_as}

-- it is answered as it should be
pub exactly : (a b : Answer) (reply : Reply) (n : Machine) → a ≡ b → reply ≡ b.reply → n ≡ b.after → Exactly a reply n
exactly a b reply n same r after = (r ∙ sym (ap (λ (x : Answer). x.reply) same), after ∙ sym (ap (λ (x : Answer). x.after) same))

-- .. where it may also have no memory
pub answered : (a b : Answer) (m : Machine) (reply : Reply) (n : Machine) → a ≡ b → reply ≡ b.reply → n ≡ b.after → OrMemory a m reply n
answered a b m reply n same r after = inl (exactly a b reply n same r after)

-- ---- the committer takes

pub takes : (m : Machine) (r : Request) → slice_get m.asked m.taken ≡ Some r → m.due ≡ None → length (held m) < most_held → take_one m ≡ answer (Taken r.session r.ticket) (record m { taken = m.taken + 1 })
takes m r at none room =
    let free : nat_le most_held (length (held m)) ≡ false = grind (arith, nat_tests) in
    let b : (is_some m.due || nat_le most_held (length (held m))) ≡ false = ap (λ (o : Option Notice). is_some o || nat_le most_held (length (held m))) none ∙ free in
    ap (take_by m) at ∙ ap (λ (t : Bool). cond t (answer Idle m) (answer (Taken r.session r.ticket) (record m { taken = m.taken + 1 }))) b

-- ---- an editor submits

-- the board lets it in, and the queue may be full
queued : (m : Machine) (r : Request) (x : Session) (full : Bool) → slice_get m.sessions r.session ≡ Some x → refusal_on (board_at m x.seen) r.session (last_of m.starts r.session) x.last r.ticket ≡ None
    → nat_le m.capacity (length m.asked - m.taken) ≡ full → submit m r ≡ cond full (answer (NotSubmitted QueueFull) m) (answer (Submitted r.ticket) (let_in m (record { seen = x.seen; last = Some r.ticket }) r))
queued m r x full at none is =
    ap (submit_by m r) at
    ∙ ap (unless_refused m x r) none
    ∙ ap (λ (t : Bool). cond t (answer (NotSubmitted QueueFull) m) (answer (Submitted r.ticket) (let_in m (record { seen = x.seen; last = Some r.ticket }) r))) (ap (nat_le m.capacity) (length-drop m.taken m.asked) ∙ is)

-- .. where it is
pub finds_full : (m : Machine) (r : Request) (x : Session) → slice_get m.sessions r.session ≡ Some x → refusal_on (board_at m x.seen) r.session (last_of m.starts r.session) x.last r.ticket ≡ None
    → m.capacity ≤ length m.asked - m.taken → submit m r ≡ answer (NotSubmitted QueueFull) m
finds_full m r x at none full = queued m r x true at none (grind (arith, nat_tests))

-- .. and where it has room
pub waits : (m : Machine) (r : Request) (x : Session) → slice_get m.sessions r.session ≡ Some x → refusal_on (board_at m x.seen) r.session (last_of m.starts r.session) x.last r.ticket ≡ None
    → length m.asked - m.taken < m.capacity → submit m r ≡ answer (Submitted r.ticket) (let_in m (record { seen = x.seen; last = Some r.ticket }) r)
waits m r x at none room = queued m r x false at none (grind (arith, nat_tests))

-- the board refuses it
pub refuses : (m : Machine) (r : Request) (x : Session) (refused : SubmitRefused) → slice_get m.sessions r.session ≡ Some x → refusal_on (board_at m x.seen) r.session (last_of m.starts r.session) x.last r.ticket ≡ Some refused
    → submit m r ≡ answer (NotSubmitted refused) m
refuses m r x refused at is = ap (submit_by m r) at ∙ ap (unless_refused m x r) is

-- ---- an editor looks

pub looks : (m : Machine) (s at : ℕ) (x : Session) → slice_get m.sessions s ≡ Some x
    → look m s at ≡ answer (Looked (outcome_on (board_at m (further m x.seen at)) s x.last)) (with_session m s (record { seen = further m x.seen at; last = x.last }))
looks m s at x there = ap (look_by m s at) there

-- ---- a packet is sent, and carried on

pub launches : (m : Machine) (u v at : ℕ) (sent : Result Packet Refused) → launch_by (board_at m (sees m at)).shelf u v ≡ sent → launch m u v at ≡ launch_as (looked m at) u v sent
launches m u v at sent is = ap (launch_as (looked m at) u v) is

pub hops : (m : Machine) (i at : ℕ) (way : Trip) → slice_get m.ways i ≡ Some way → way.there ≡ true → hop m i at ≡ hop_as (looked m at) i way (hop_at way.at way.packet (board_at m (sees m at)).shelf)
hops m i at way there is =
    ap (hop_by m i at) there ∙ ap (λ (t : Bool). cond t (hop_as (looked m at) i way (hop_at way.at way.packet (board_at m (sees m at)).shelf)) (answer NoActor m)) is

-- memory ran out, or the answer is that of the same with its board seen
pub either : (a b : Answer) (m : Machine) (reply : Reply) (n : Machine) → a ≡ b → OrMemory b m reply n → OrMemory a m reply n
either a b m reply n same is = subst (λ (y : Answer). OrMemory y m reply n) (sym same) is
