-- What an event came to: its reply, what the machine is then, and what was found.
use Rattle.std.proofs.Common.{◌≡◌, ◌≢◌, ⊎_elim, inl, ◌+◌, ◌||◌, cond, nat_le, ℕ, Bool, true, false, is_some, List, [], ◌∷◌, ◌++◌, length, Option, Some, None, option_to_list, slice_get, set, Result, Ok, Err, refl, sym, ap, ◌∙◌, subst, append-nil}
use Rattle.graph_edits.specs.declared.edits.Op.{Op}
use Rattle.requests.specs.Tickets.{last_of}
use Rattle.requests.specs.declared.request.Request.{Request}
use Rattle.schemes.specs.declared.parts.Parts.{Parts}
use Rattle.schemes.specs.declared.packet.Move.{Move}
use Rattle.schemes.specs.declared.packet.Move.TheVariants as packets
use Rattle.schemes.specs.Tables.{tables}
use Rattle.schemes.specs.Service.{Serves}
use Rattle.generations.specs.declared.posting.Notice.{Notice}
use Rattle.generations.specs.declared.posting.Notice.TheVariants.{Built}
use Rattle.group_commit.specs.Limits.{most_held}
use Rattle.group_commit.specs.declared.refused.DeskRefused.TheVariants.{Device, Down, Worn}
use Rattle.forwarders.specs.declared.refused.Refused.{Refused}
use Rattle.forwarders.specs.Answers.{hop_at}
use Rattle.intake.specs.declared.outcome.Outcome.{Outcome}
use Rattle.intake.specs.declared.outcome.SubmitRefused.{SubmitRefused}
use Rattle.intake.specs.declared.outcome.SubmitRefused.TheVariants.{QueueFull}
use Rattle.intake.specs.Outcomes.{outcome_on, refusal_on}
use Rattle.event_model.specs.declared.session.Session.{Session}
use Rattle.event_model.specs.declared.event.Event.{Event}
use Rattle.event_model.specs.declared.event.Event.TheVariants.{Submit, Look, Take, Commit, Post, Rebuild, Launch, Hop}
use Rattle.event_model.specs.declared.reply.Reply.{Reply}
use Rattle.event_model.specs.declared.reply.Reply.TheVariants.{Submitted, NotSubmitted, Looked, Taken, Committed, NotCommitted, Posted, Rebuilt, NotRebuilt, Launched, NotRouted, Idle, NoActor, Memory}
use Rattle.event_model.specs.Trips.{Trip, sent, launch_by, hop_reply, hop_way}
use Rattle.event_model.specs.Machines.{Machine, held, waiting, settling, board_at, let_in, with_session, with_posted, grouped, committed, lost}
use Rattle.event_model.specs.Answers.{Answer, answer, unless_refused, submit_by, submit, further, look_by, look, take_by, take_one, post_by, post, CommitAnswers, newest_number, IsBuilt, RebuildAnswers, sees, looked, launch_as, launch, hop_as, hop_by, hop, OrMemory, Answers}
use Rattle.event_laws.specs.Listed.{all_told}
use Rattle.event_laws.specs.Queues.{let_in_by}
use Rattle.event_laws.proofs.Every.{on_option, on_bool}

-- ---- what it may come to

-- why the board that a session has seen doesn't let this request in
abbrev pub refusal_of : Machine → Session → Request → Option SubmitRefused
refusal_of m x r = refusal_on (board_at m x.seen) r.session (last_of m.starts r.session) x.last r.ticket

-- what is due is posted
abbrev pub posted : Machine → Machine
posted m = record m { postings = all_told m; due = None }

-- no request, and no group, goes on by this reply
abbrev pub IsQuiet : Reply → Type 0
IsQuiet (Submitted under) = ⊥
IsQuiet (Taken session ticket) = ⊥
IsQuiet (Committed accepted) = ⊥
IsQuiet (NotCommitted Device) = ⊥
IsQuiet (NotCommitted Worn) = ⊥
IsQuiet reply = Unit {0}

-- an event of packets
abbrev pub is_route : Event → Bool
is_route (Launch from to at) = true
is_route (Hop packet at) = true
is_route event = false

-- what a submit came to
pub data Submits (m : Machine) (r : Request) : Reply → Machine → Type 0 where
  alone : Submits m r NoActor m
  lacks_memory : Submits m r Memory m
  refused : (x : Session) (e : SubmitRefused) → slice_get m.sessions r.session ≡ Some x → refusal_of m x r ≡ Some e → Submits m r (NotSubmitted e) m
  full : (x : Session) → slice_get m.sessions r.session ≡ Some x → refusal_of m x r ≡ None → Submits m r (NotSubmitted QueueFull) m
  waits : (x : Session) → slice_get m.sessions r.session ≡ Some x → refusal_of m x r ≡ None → Submits m r (Submitted r.ticket) (let_in m (record { seen = x.seen; last = Some r.ticket }) r)

-- what an event came to, which is one of packets or isn't, and the request that it let in
pub data CameTo (m : Machine) : Bool → List Request → Reply → Machine → Type 0 where
  stays : (routed : Bool) (reply : Reply) → IsQuiet reply → CameTo m routed [] reply m
  asks : (x : Session) (r : Request) → slice_get m.sessions r.session ≡ Some x → refusal_of m x r ≡ None → CameTo m false (r ∷ []) (Submitted r.ticket) (let_in m (record { seen = x.seen; last = Some r.ticket }) r)
  looks : (s : ℕ) (x : Session) (seen : ℕ) (outcome : Outcome) → slice_get m.sessions s ≡ Some x → CameTo m false [] (Looked outcome) (with_session m s (record { seen = seen; last = x.last }))
  takes : (r : Request) → slice_get m.asked m.taken ≡ Some r → m.due ≡ None → CameTo m false [] (Taken r.session r.ticket) (record m { taken = m.taken + 1 })
  commits : held m ≢ [] → m.down ≡ false → CameTo m false [] (Committed (length (settling m).accepted)) (committed m)
  loses : held m ≢ [] → m.down ≡ false → CameTo m false [] (NotCommitted Device) (lost m)
  wears : CameTo m false [] (NotCommitted Worn) (grouped m)
  posts : (reply : Reply) → IsQuiet reply → CameTo m false [] reply (posted m)
  builds : (scheme : Parts) → m.down ≡ false → newest_number (all_told m) ≢ Some m.state.count → scheme.generation ≡ m.state.count → Serves m.state.graph (tables scheme)
      → CameTo m false [] (Rebuilt m.state.count) (with_posted (posted m) (Built m.state.count scheme))
  routes : (reply : Reply) (seen : ℕ) (ways : List Trip) → IsQuiet reply → CameTo m true [] reply (record m { seen = seen; ways = ways })

-- ---- it comes to one of these

-- the answer, or Memory with nothing changed
pub or_memory : (Q : Reply → Machine → Type 0) (a : Answer) (m : Machine) (r : Reply) (n : Machine) → OrMemory a m r n → Q Memory m → Q a.reply a.after → Q r n
or_memory Q a m r n h was will =
    ⊎_elim (λ x. subst (λ (y : Answer). Q y.reply y.after) (λ i. answer (sym x.0 i) (sym x.1 i)) will) (λ x. subst (λ (y : Answer). Q y.reply y.after) (λ i. answer (sym x.0 i) (sym x.1 i)) was) h

-- an answer to an event
abbrev Comes : Machine → Event → Answer → Type 0
Comes m event a = CameTo m (is_route event) (let_in_by event a.reply) a.reply a.after

pub submits : (m : Machine) (r : Request) (reply : Reply) (n : Machine) → OrMemory (submit m r) m reply n → Submits m r reply n
submits m r reply n h = or_memory (Submits m r) (submit m r) m reply n h lacks_memory
    (on_option (λ o. Submits m r (submit_by m r o).reply (submit_by m r o).after) (slice_get m.sessions r.session) (λ _. alone)
    (λ x at. on_option (λ o. Submits m r (unless_refused m x r o).reply (unless_refused m x r o).after) (refusal_of m x r)
    (λ none.
    let by : Bool → Answer = λ b. cond b (answer (NotSubmitted QueueFull) m) (answer (Submitted r.ticket) (let_in m (record { seen = x.seen; last = Some r.ticket }) r)) in
    on_bool (λ b. Submits m r (by b).reply (by b).after) (nat_le m.capacity (length (waiting m))) (λ _. full x at none) (λ _. waits x at none))
    (λ e is. refused x e at is)))

submit_comes : (m : Machine) (s t : ℕ) (change : List Op) (reply : Reply) (n : Machine) → Submits m (record { session = s; ticket = t; change = change }) reply n
    → CameTo m false (let_in_by (Submit s t change) reply) reply n
submit_comes m s t change reply n alone = stays false NoActor tt
submit_comes m s t change reply n lacks_memory = stays false Memory tt
submit_comes m s t change reply n (refused x e at is) = stays false (NotSubmitted e) tt
submit_comes m s t change reply n (full x at none) = stays false (NotSubmitted QueueFull) tt
submit_comes m s t change reply n (waits x at none) = asks x (record { session = s; ticket = t; change = change }) at none

look_comes : (m : Machine) (s at : ℕ) → Comes m (Look s at) (look m s at)
look_comes m s at = on_option (λ o. Comes m (Look s at) (look_by m s at o)) (slice_get m.sessions s) (λ _. stays false NoActor tt)
    (λ x there. looks s x (further m x.seen at) (outcome_on (board_at m (further m x.seen at)) s x.last) there)

none_due : (o : Option Notice) (b : Bool) → (is_some o || b) ≡ false → o ≡ None
none_due None b e = refl
none_due (Some notice) b e = (let f : true ≡ false = e in cc)

take_comes : (m : Machine) → Comes m Take (take_one m)
take_comes m = on_option (λ o. Comes m Take (take_by m o)) (slice_get m.asked m.taken) (λ _. stays false Idle tt)
    (λ r at. on_bool (λ b. Comes m Take (cond b (answer Idle m) (answer (Taken r.session r.ticket) (record m { taken = m.taken + 1 })))) (is_some m.due || nat_le most_held (length (held m)))
    (λ _. stays false Idle tt)
    (λ free. takes r at (none_due m.due (nat_le most_held (length (held m))) free)))

-- what is posted is what is due, if anything is
post_is : (m : Machine) → (post m).after ≡ posted m
post_is m = on_option (λ o. (post_by m o).after ≡ posted m) m.due
    (λ none. let e : m.postings ≡ all_told m = sym (append-nil m.postings) ∙ ap (λ (d : Option Notice). m.postings ++ option_to_list d) (sym none) in λ i. record m { postings = e i; due = none i })
    (λ notice due. λ i. record m { postings = m.postings ++ option_to_list (sym due i); due = None })

-- it came to what this is
back : (m n k : Machine) (reply : Reply) → n ≡ k → CameTo m false [] reply k → CameTo m false [] reply n
back m n k reply e c = subst (CameTo m false [] reply) (sym e) c

post_comes : (m : Machine) → Comes m Post (post m)
post_comes m = on_option (λ o. Comes m Post (post_by m o)) m.due (λ _. stays false Idle tt)
    (λ notice due. back m (with_posted (record m { due = None }) notice) (posted m) Posted (λ i. record m { postings = m.postings ++ option_to_list (sym due i); due = None }) (posts Posted tt))

commit_comes : (m : Machine) (reply : Reply) (n : Machine) → CommitAnswers m reply n → CameTo m false [] reply n
commit_comes m Idle n h = back m n m Idle h.1 (stays false Idle tt)
commit_comes m (Committed accepted) n h = subst (λ (a : Answer). CameTo m false [] a.reply a.after) (λ i. answer (Committed (sym h.2 i)) (sym h.3 i)) (commits h.0 h.1)
commit_comes m (NotCommitted Device) n h = back m n (lost m) (NotCommitted Device) h.2 (loses h.0 h.1)
commit_comes m (NotCommitted Down) n h = back m n m (NotCommitted Down) h.2 (stays false (NotCommitted Down) tt)
commit_comes m (NotCommitted Worn) n h = back m n (grouped m) (NotCommitted Worn) h.2 wears
commit_comes m Memory n h = back m n m Memory h.2 (stays false Memory tt)
commit_comes m reply n h = absurd h

-- a rebuild, by any words
pub rebuild_comes : (words : List ℕ) (m : Machine) (reply : Reply) (n : Machine) → RebuildAnswers words m reply n → CameTo m false [] reply n
rebuild_comes words m NotRebuilt n h = back m n m NotRebuilt h.1 (stays false NotRebuilt tt)
rebuild_comes words m (Rebuilt generation) n h =
    let here : IsBuilt words (posted m) n = subst (λ (k : Machine). IsBuilt words k n) (post_is m) h.2 in
    ⊎_elim (λ x. back m n (posted m) (Rebuilt generation) x.1 (posts (Rebuilt generation) tt))
    (λ x. subst (λ (a : Answer). CameTo m false [] a.reply a.after) (λ i. answer (Rebuilt (sym h.1 i)) (sym x.1.1.1 i)) (builds x.1.0 h.0 x.0 x.1.1.0.given x.1.1.0.serves)) here
rebuild_comes words m Memory n h = ⊎_elim (λ e. back m n m Memory e (stays false Memory tt)) (λ e. back m n (posted m) Memory (e ∙ post_is m) (posts Memory tt)) h.1
rebuild_comes words m reply n h = absurd h

launch_comes : (m : Machine) (u v at : ℕ) → Comes m (Launch u v at) (launch m u v at)
launch_comes m u v at = elim (launch_by (board_at m (sees m at)).shelf u v) as (λ o. Comes m (Launch u v at) (launch_as (looked m at) u v o)) [
  | Ok k ↦ routes (Launched (length m.ways)) (sees m at) (m.ways ++ sent u v k ∷ []) tt
  | Err e ↦ routes (NotRouted e) (sees m at) m.ways tt
]

hop_quiet : (o : Result Move Refused) → IsQuiet (hop_reply o)
hop_quiet (Ok packets.Delivered) = tt
hop_quiet (Ok (packets.Forward port next packet)) = tt
hop_quiet (Err e) = tt

hop_comes : (m : Machine) (i at : ℕ) → Comes m (Hop i at) (hop m i at)
hop_comes m i at = elim (slice_get m.ways i) as (λ o. Comes m (Hop i at) (hop_by m i at o)) [
  | None ↦ stays true NoActor tt
  | Some w ↦
      (let o : Result Move Refused = hop_at w.at w.packet (board_at m (sees m at)).shelf in
      elim w.there as (λ b. Comes m (Hop i at) (cond b (hop_as (looked m at) i w o) (answer NoActor m))) [
        | true ↦ routes (hop_reply o) (sees m at) (set m.ways i (hop_way w o)) (hop_quiet o)
        | false ↦ stays true NoActor tt
      ])
]

-- where it may also have no memory
either : (m : Machine) (event : Event) (a : Answer) (reply : Reply) (n : Machine) → OrMemory a m reply n → Comes m event (answer Memory m) → Comes m event a → Comes m event (answer reply n)
either m event a reply n h was will = or_memory (λ q k. Comes m event (answer q k)) a m reply n h was will

pub came_to : (event : Event) (m : Machine) (reply : Reply) (n : Machine) → Answers event m reply n → CameTo m (is_route event) (let_in_by event reply) reply n
came_to (Submit s t change) m reply n h = submit_comes m s t change reply n (submits m (record { session = s; ticket = t; change = change }) reply n h)
came_to (Look s at) m reply n h = either m (Look s at) (look m s at) reply n h (stays false Memory tt) (look_comes m s at)
came_to Take m reply n h = either m Take (take_one m) reply n (inl h) (stays false Memory tt) (take_comes m)
came_to Commit m reply n h = commit_comes m reply n h
came_to Post m reply n h = either m Post (post m) reply n h (stays false Memory tt) (post_comes m)
came_to (Rebuild words) m reply n h = rebuild_comes words.items m reply n h
came_to (Launch u v at) m reply n h = either m (Launch u v at) (launch m u v at) reply n h (stays true Memory tt) (launch_comes m u v at)
came_to (Hop i at) m reply n h = either m (Hop i at) (hop m i at) reply n h (stays true Memory tt) (hop_comes m i at)
