-- The lists of a life, and a ticket that is in: it is refused as such.
use Rattle.std.proofs.Common.{◌≡◌, ◌≤◌, ℕ, Bool, true, false, cond, List, take, Option, Some, None, option_to_list, slice_get, refl, sym, ap, ◌∙◌, subst}
use Rattle.std.proofs.lemmas.List.{take-append-drop, take-take}
use Rattle.requests.specs.Tickets.{last_of, tickets_after}
use Rattle.requests.specs.declared.request.Request.{Request}
use Rattle.layout_2.specs.State.{State, asked, AreInTurn}
use Rattle.generations.specs.Notices.{marks_in}
use Rattle.generations.specs.Boards.{board_of}
use Rattle.generations.proofs.Lawfulness.{marks_append}
use Rattle.group_commit.specs.Settling.{settle}
use Rattle.intake.specs.declared.outcome.SubmitRefused.{SubmitRefused}
use Rattle.intake.specs.declared.outcome.SubmitRefused.TheVariants.{Busy, AlreadyIn}
use Rattle.intake.specs.Outcomes.{refusal_on}
use Rattle.event_model.specs.declared.session.Session.{Session}
use Rattle.event_model.specs.declared.reply.Reply.{Reply}
use Rattle.event_model.specs.declared.reply.Reply.TheVariants.{NotSubmitted}
use Rattle.event_model.specs.Machines.{Machine}
use Rattle.event_laws.specs.LaterLives.{let_in as all_let_in, answered}
use Rattle.event_laws.specs.Submits.{board_of_lists, IsLastOf, is_busy}
use Rattle.event_laws.specs.Listed.{IsListed}
use Rattle.event_laws.specs.OneLife.{life_of}
use Rattle.event_laws.specs.QueueLaws.{IsRefusedAsIn, IsOneLife, AlreadyInIsIn, InIsRefused}
use Rattle.event_laws.proofs.CameTo.{refusal_of, Submits, alone, lacks_memory, refused, full, waits, submits}
use Rattle.event_laws.proofs.Refusing.{is_there, is_refused}
use Rattle.event_laws.proofs.Listing.{is_last}

-- what is settled was taken
settled_same : (first : State) (m : Machine) → IsListed first m → take m.done (take m.taken m.asked) ≡ take m.done m.asked
settled_same first m is = take-take m.done m.taken m.asked is.lists.started

-- what was posted is the front of what was told
pub is_life : IsOneLife
is_life first m is = record {
  wide = is.wide;
  in_turn = subst (AreInTurn first.tickets) (sym (take-append-drop m.taken m.asked)) is.lists.in_turn;
  told = (marks_in (option_to_list m.due), sym (marks_append m.postings (option_to_list m.due)) ∙ (is.lists.marks ∙ ap (λ (l : List Request). (settle first l).marks) (sym (settled_same first m is))));
}

-- a session of it knows its last ticket
knows_last : (first : State) (m : Machine) (s : ℕ) (x : Session) → IsListed first m → slice_get m.sessions s ≡ Some x → IsLastOf first.tickets (all_let_in (life_of first m)) s x.last
knows_last first m s x is at =
    is_last first.tickets m.asked s x is.wide (is.last s x at) ∙ ap (λ (l : List Request). last_of (tickets_after first.tickets (asked l)) s) (sym (take-append-drop m.taken m.asked))

-- its board is the life's, and so is the store's state
as_seen : (first : State) (m : Machine) (x : Session) (r : Request) → IsListed first m → refusal_of m x r ≡ refusal_on (board_of_lists (life_of first m) x.seen) r.session (last_of first.tickets r.session) x.last r.ticket
as_seen first m x r is = λ i. refusal_on (board_of (is.starts i) (is.start i) (take x.seen m.postings)) r.session (last_of (is.starts i) r.session) x.last r.ticket

state_is : (first : State) (m : Machine) → IsListed first m → (answered (life_of first m)).state ≡ m.state
state_is first m is = ap (λ (l : List Request). (settle first l).state) (settled_same first m is) ∙ sym is.lists.state_is

pub already_in : AlreadyInIsIn
already_in first m session ticket change n is h = by (submits m r (NotSubmitted AlreadyIn) n h)
  where
    r : Request
    r = record { session = session; ticket = ticket; change = change }

    by : {k : Machine} → Submits m r (NotSubmitted AlreadyIn) k → ticket ≤ last_of m.state.tickets session
    by (refused x e at test) = subst (λ (s : State). ticket ≤ last_of s.tickets session) (state_is first m is)
        (is_there (life_of first m) (is_life first m is) session ticket x.seen x.last (knows_last first m session x is at) (sym (as_seen first m x r is) ∙ test))

-- what is refused as in
abbrev IsIn : Option SubmitRefused → Type 0
IsIn None = ⊥
IsIn (Some e) = IsRefusedAsIn (NotSubmitted e)

either_in : (busy : Bool) → IsIn (Some (cond busy Busy AlreadyIn))
either_in true = tt
either_in false = tt

low_in : (first : State) (m : Machine) (x : Session) (r : Request) → IsListed first m → slice_get m.sessions r.session ≡ Some x → r.ticket ≤ last_of m.state.tickets r.session → IsIn (refusal_of m x r)
low_in first m x r is at le =
    let life = life_of first m in
    subst IsIn (sym (as_seen first m x r is ∙ is_refused life (is_life first m is) r.session r.ticket x.seen x.last (knows_last first m r.session x is at) (subst (λ (s : State). r.ticket ≤ last_of s.tickets r.session) (sym (state_is first m is)) le)))
    (either_in (is_busy (board_of_lists life x.seen) r.session x.last))

pub in_refused : InIsRefused
in_refused first m session ticket change reply n is le h = by (submits m r reply n h)
  where
    r : Request
    r = record { session = session; ticket = ticket; change = change }

    by : {q : Reply} {k : Machine} → Submits m r q k → IsRefusedAsIn q × (k ≡ m)
    by alone = (tt, refl)
    by lacks_memory = (tt, refl)
    by (refused x e at test) = (subst IsIn test (low_in first m x r is at le), refl)
    by (full x at none) = absurd (subst IsIn none (low_in first m x r is at le))
    by (waits x at none) = absurd (subst IsIn none (low_in first m x r is at le))
