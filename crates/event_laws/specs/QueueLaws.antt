-- What the lists of a life are good for.
use Rattle.std.specs.Prelude.{◌≡◌, ◌≤◌, ℕ, List, ◌++◌, length, take, Bool}
use Rattle.requests.specs.Tickets.{sessions, last_of}
use Rattle.layout_2.specs.State.{State, asked}
use Rattle.graph_edits.specs.declared.edits.Op.{Op}
use Rattle.generations.specs.Lawful.{IsLawful}
use Rattle.group_commit.specs.Settling.{settle}
use Rattle.intake.specs.declared.outcome.SubmitRefused.TheVariants.{AlreadyIn, Busy}
use Rattle.event_laws.specs.History.{IsPrefixState, state_at}
use Rattle.event_laws.specs.LaterLives.{IsLife}
use Rattle.event_model.specs.declared.event.Event.{Event}
use Rattle.event_model.specs.declared.event.Event.TheVariants.{Submit}
use Rattle.event_model.specs.declared.reply.Reply.{Reply}
use Rattle.event_model.specs.declared.reply.Reply.TheVariants.{NotSubmitted, NoActor, Memory}
use Rattle.event_model.specs.Machines.{Machine, begun}
use Rattle.event_model.specs.Answers.{Answers, RebuildAnswers}
use Rattle.event_model.specs.Runs.{Run}
use Rattle.request_lists.specs.declared.builds.Builds.TheVariants.{InTurn}
use Rattle.request_lists.specs.Durable.{AreDurable}
use Rattle.event_laws.specs.Listed.{IsListed}
use Rattle.event_laws.specs.OneLife.{history_of, life_of}
use Rattle.event_laws.specs.Queues.{all_let_in, all_taken}
use Rattle.event_laws.specs.Acknowledged.{AreAcknowledged}

-- ---- the lists go on

-- a life begins so, with at most as many sessions as there are
abbrev pub BeginsListed : Type 0
BeginsListed = (first : State) (capacity n : ℕ) (down : Bool) → length first.tickets ≡ sessions → n ≤ sessions → IsListed first (begun capacity n first down)

-- what answers an event keeps them
abbrev pub AnswersKeep : Type 0
AnswersKeep = (first : State) (event : Event) (m : Machine) (reply : Reply) (n : Machine) → IsListed first m → Answers event m reply n → IsListed first n

-- a rebuild does
abbrev pub RebuildKeeps : Type 0
RebuildKeeps = (first : State) (words : List ℕ) (m : Machine) (reply : Reply) (n : Machine) → IsListed first m → RebuildAnswers words m reply n → IsListed first n

-- and so does a run
abbrev pub RunKeeps : Type 0
RunKeeps = (first : State) (m : Machine) (events : List Event) (replies : List Reply) (n : Machine) → IsListed first m → Run m events replies n → IsListed first n

-- ---- what was posted

-- the postings are lawful
abbrev pub PostingsAreLawful : Type 0
PostingsAreLawful = (first : State) (m : Machine) → IsListed first m → IsLawful first.tickets first.count m.postings

-- each generation among them is durable
abbrev pub PostingsAreDurable : Type 0
PostingsAreDurable = (first : State) (m : Machine) → IsListed first m → AreDurable InTurn first m.asked m.postings

-- ---- the queue

-- what was asked in all is what was asked before, followed by the requests that replies let in, in their order
abbrev pub QueueKeeps : Type 0
QueueKeeps = (m : Machine) (events : List Event) (replies : List Reply) (n : Machine) → Run m events replies n → n.asked ≡ m.asked ++ all_let_in events replies

-- what was taken from it in all is what was taken before, followed by what replies say was taken, in their order
abbrev pub TakesInOrder : Type 0
TakesInOrder = (first : State) (m : Machine) (events : List Event) (replies : List Reply) (n : Machine) → IsListed first m → Run m events replies n → asked (take n.taken n.asked) ≡ asked (take m.taken m.asked) ++ all_taken replies

-- ---- acknowledged changes

-- what is acknowledged is in every state after some of the taken requests whose count is at least the store's
abbrev pub AcknowledgedAreIn : Type 0
AcknowledgedAreIn = (first : State) (m : Machine) (at : ℕ) → IsListed first m → m.state.count ≤ (settle first (take at (take m.taken m.asked))).state.count → AreAcknowledged first (take m.taken m.asked) at m.postings

-- so it is of each prefix state that holds as many changes as the store
abbrev pub PrefixHoldsAcknowledged : Type 0
PrefixHoldsAcknowledged = (first : State) (m : Machine) (image : List ℕ) → IsListed first m → (prefix : IsPrefixState first (history_of m) m.state.count image) → AreAcknowledged first (history_of m).taken prefix.at m.postings

-- a state that holds as many accepted changes as the store had at an earlier moment of the run holds all that was posted as accepted by then
abbrev pub AcknowledgedStay : Type 0
AcknowledgedStay = (first : State) (m : Machine) (events : List Event) (replies : List Reply) (n : Machine) (at : ℕ) → IsListed first m → Run m events replies n
    → m.state.count ≤ (state_at first (take n.taken n.asked) at).count → AreAcknowledged first (take n.taken n.asked) at m.postings

-- ---- tickets that are in

-- the lists are those of a life that may be followed by others
abbrev pub IsOneLife : Type 0
IsOneLife = (first : State) (m : Machine) → IsListed first m → IsLife (life_of first m)

-- these replies say that a ticket isn't let in, whatever it is
abbrev pub IsRefusedAsIn : Reply → Type 0
IsRefusedAsIn (NotSubmitted AlreadyIn) = Unit {0}
IsRefusedAsIn (NotSubmitted Busy) = Unit {0}
IsRefusedAsIn NoActor = Unit {0}
IsRefusedAsIn Memory = Unit {0}
IsRefusedAsIn reply = ⊥

-- a ticket is refused as already in only where it is at most the last accepted one of its session
abbrev pub AlreadyInIsIn : Type 0
AlreadyInIsIn = (first : State) (m : Machine) (session ticket : ℕ) (change : List Op) (n : Machine) → IsListed first m → Answers (Submit session ticket change) m (NotSubmitted AlreadyIn) n → ticket ≤ last_of m.state.tickets session

-- and where it is at most that, it is refused so, unless the session is busy or isn't there, or memory runs out; and nothing is let in
abbrev pub InIsRefused : Type 0
InIsRefused = (first : State) (m : Machine) (session ticket : ℕ) (change : List Op) (reply : Reply) (n : Machine) → IsListed first m → ticket ≤ last_of m.state.tickets session
    → Answers (Submit session ticket change) m reply n → IsRefusedAsIn reply × (n ≡ m)
