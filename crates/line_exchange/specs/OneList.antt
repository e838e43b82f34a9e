-- What the one list of postings says of what is asked for.
use Rattle.std.specs.Prelude.{◌≡◌, ◌≢◌, ◌<◌, ◌≤◌, ℕ, List, Some, None, Result, Ok, Err, IsSome, slice_get, take}
use Rattle.std.specs.List.{Contains}
use Rattle.schemes.specs.declared.parts.Parts.{Parts}
use Rattle.schemes.specs.declared.packet.Address.{Address}
use Rattle.schemes.specs.declared.packet.Packet.{Packet}
use Rattle.schemes.specs.declared.packet.Refused as scheme
use Rattle.schemes.specs.Tables.{Tables, tables}
use Rattle.schemes.specs.Service.{address_given, decide, node_step}
use Rattle.generations.specs.Boards.{scheme_of}
use Rattle.requests.specs.Tickets.{last_of}
use Rattle.generations.specs.declared.posting.Mark.{Mark}
use Rattle.generations.specs.declared.posting.Verdict.TheVariants as verdicts
use Rattle.generations.specs.Notices.{marks_in, newest_in}
use Rattle.generations.specs.Beginnings.{Beginning, GoesOn, board_after}
use Rattle.forwarders.specs.declared.refused.Refused.TheVariants.{GenerationGone}
use Rattle.forwarders.specs.Answers.{by_name}
use Rattle.forwarders.specs.Arrivals.{IsPublished}
use Rattle.packet_ways.specs.Carried.{HoldsOf, IsAnswerBy}
use Rattle.packet_ways.specs.Standing.{Counts, IsNewest}
use Rattle.live_lines.specs.declared.asked.Asked.{Asked}
use Rattle.live_lines.specs.declared.asked.Asked.TheVariants as asks
use Rattle.live_lines.specs.declared.answer.Answer.{Answer}
use Rattle.live_lines.specs.declared.answer.Answer.TheVariants.{Settled, AlreadyIn, RefusedBefore, OldTicket, Way, NoNode, Told, Sent, Moved, NotCarried, State, Waited, BackedUp, Metrics}
use Rattle.live_lines.specs.Answers.{FitsAsked, generation_gone}
use Rattle.line_exchange.specs.Inputs.{Input}
use Rattle.line_exchange.specs.Streams.{AreEachAt, IsAskedAt}

-- ---- by a whole list

-- the session's last ticket that is in on the board after this beginning: the last one that was accepted, or where its tickets start
abbrev pub last_in : Beginning → ℕ → ℕ
last_in seen session = last_of (board_after seen).accepted session

-- after some beginning of the list the ticket was at most the session's last one that was in
abbrev pub WasIn : Beginning → ℕ → ℕ → Type 0
WasIn all session ticket = (seen : Beginning) × GoesOn seen all × (ticket ≤ last_in seen session)

-- after some beginning of the list, which has this mark, the session's ticket wasn't in
abbrev pub WasOut : Beginning → ℕ → ℕ → Mark → Type 0
WasOut all session ticket mark = (seen : Beginning) × GoesOn seen all × (last_in seen session < ticket) × Contains (marks_in seen.log) mark

-- The verdict of an edit is one of the list's marks, under the session and the ticket that are told. Of one that was refused before it is
-- that mark again, by which it isn't in; an old ticket isn't in by a mark of the session that has a later ticket.
abbrev pub IsVerdictIn : Beginning → Answer → Type 0
IsVerdictIn all (Settled mark) = Contains (marks_in all.log) mark
IsVerdictIn all (AlreadyIn session ticket) = WasIn all session ticket
IsVerdictIn all (RefusedBefore session ticket op code) = WasOut all session ticket (record { session = session; ticket = ticket; verdict = verdicts.Refused op code })
IsVerdictIn all (OldTicket session ticket) = (mark : Mark) × (mark.session ≡ session) × (ticket < mark.ticket) × WasOut all session ticket mark
IsVerdictIn all other = Unit {0}

-- a route is the way that a packet goes by the scheme that the list has for the generation; or that scheme has none, or not both nodes
abbrev pub IsRouteIn : Beginning → ℕ → ℕ → Answer → Type 0
IsRouteIn all from to (Way way) = IsAnswerBy all (record { from = from; to = to }) way
IsRouteIn all from to other = Unit {0}

-- what is asked of a generation's tables: by the scheme that the list has for the generation they give this
abbrev pub GivesIn : {A : Type 0} → Beginning → ℕ → (Tables → Result A scheme.Refused) → Result A scheme.Refused → Type 0
GivesIn all generation ask given = (p : Parts) × IsPublished all generation p × (ask (tables p) ≡ given)

-- an address is the node's own by the scheme of the address's generation; or there is a scheme that has no such node
abbrev pub IsAddressIn : Beginning → ℕ → Answer → Type 0
IsAddressIn all node (Told a) = GivesIn all a.generation (λ t. address_given t node) (Ok a)
IsAddressIn all node NoNode = (generation : ℕ) × (p : Parts) × IsPublished all generation p × (node < p.nodes → ⊥)
IsAddressIn all node other = Unit {0}

-- why a packet isn't carried is by the scheme of a generation, unless that is gone
abbrev pub IsRefusalIn : {A : Type 0} → Beginning → ℕ → (Tables → Result A scheme.Refused) → Answer → Type 0
IsRefusalIn all generation ask (NotCarried why) = why ≢ GenerationGone → (p : Parts) × IsPublished all generation p × (by_name (ask (tables p)) ≡ Err why)
IsRefusalIn all generation ask other = Unit {0}

-- a packet that is sent, or why none is, is by the scheme of the address's generation
abbrev pub IsLaunchIn : Beginning → ℕ → Address → Answer → Type 0
IsLaunchIn all from to (Sent packet) = GivesIn all to.generation (λ t. decide t from to) (Ok packet)
IsLaunchIn all from to other = IsRefusalIn all to.generation (λ t. decide t from to) other

-- what a node does with a packet is by the scheme of the packet's generation
abbrev pub IsHopIn : Beginning → ℕ → Packet → Answer → Type 0
IsHopIn all at packet (Moved move) = GivesIn all packet.generation (λ t. node_step t at packet) (Ok move)
IsHopIn all at packet other = IsRefusalIn all packet.generation (λ t. node_step t at packet) other

-- after some beginning of the list so many changes were accepted, and the newest generation was this one
abbrev pub IsStateIn : Beginning → Answer → Type 0
IsStateIn all (State count generation queue) = (seen : Beginning) × GoesOn seen all × Counts seen count × IsNewest seen generation
IsStateIn all other = Unit {0}

-- the list has the generation that was waited for
abbrev pub IsWaitedIn : Beginning → Answer → Type 0
IsWaitedIn all (Waited generation) = (p : Parts) × IsPublished all generation p
IsWaitedIn all other = Unit {0}

-- after some beginning of the list so many changes were accepted
abbrev pub IsBackupIn : Beginning → Answer → Type 0
IsBackupIn all (BackedUp count) = (seen : Beginning) × GoesOn seen all × Counts seen count
IsBackupIn all other = Unit {0}

-- .. and the newest generation was this one
abbrev pub IsMetricsIn : Beginning → Answer → Type 0
IsMetricsIn all (Metrics m) = (seen : Beginning) × GoesOn seen all × Counts seen m.value.count × IsNewest seen m.value.generation
IsMetricsIn all other = Unit {0}

-- The answer to what is asked for is what the list says. Of a session's last ticket and of tables nothing is said here, nor of how many
-- changes wait at the queue. `AreGone` says when a generation is gone.
abbrev pub IsSaidIn : Beginning → Asked → Answer → Type 0
IsSaidIn all (asks.Edit session ticket change) answer = IsVerdictIn all answer
IsSaidIn all (asks.Route from to) answer = IsRouteIn all from to answer
IsSaidIn all (asks.Address node) answer = IsAddressIn all node answer
IsSaidIn all (asks.Launch from to) answer = IsLaunchIn all from to answer
IsSaidIn all (asks.Hop at packet) answer = IsHopIn all at packet answer
IsSaidIn all asks.State answer = IsStateIn all answer
IsSaidIn all asks.Wait answer = IsWaitedIn all answer
IsSaidIn all (asks.Backup file) answer = IsBackupIn all answer
IsSaidIn all asks.Metrics answer = IsMetricsIn all answer
IsSaidIn all asked answer = Unit {0}

-- An answer to what the line at a place asks for, which a list says: `Says` tells how.
pub record IsAnswerOf (Says : Beginning → Asked → Answer → Type 0) (list : Beginning) (input : Input) (editors place : ℕ) (answer : Answer) : Type 0 where
  pub asked : Asked
  pub by : IsAskedAt input editors place asked
  pub fits : FitsAsked asked answer
  pub said : Says list asked answer

-- each answer is to the line at its place, and the list says it
abbrev pub AreAnswersIn : Beginning → Input → ℕ → List Answer → Type 0
AreAnswersIn all input editors answers = AreEachAt (IsAnswerOf IsSaidIn all input editors) answers

-- ---- generations that are gone

-- After this beginning of the list, which has a generation, this one isn't on the shelf, which has the newest four: the list hasn't got it
-- so far, or it has four later ones.
abbrev pub IsGoneAfter : Beginning → ℕ → Type 0
IsGoneAfter seen generation = IsSome (newest_in seen.log) × (scheme_of generation (board_after seen).shelf ≡ None)

-- so it is of the generation of an address or a packet that is asked for
abbrev pub IsOff : Beginning → Asked → Type 0
IsOff seen (asks.Launch from to) = IsGoneAfter seen to.generation
IsOff seen (asks.Hop at packet) = IsGoneAfter seen packet.generation
IsOff seen asked = Unit {0}

-- what the line at a place asks for is of a generation that is gone after this beginning
pub record IsOffAt (seen : Beginning) (input : Input) (editors place : ℕ) : Type 0 where
  pub asked : Asked
  pub by : IsAskedAt input editors place asked
  pub off : IsOff seen asked

-- The k-th answer tells that a generation is gone: it is so after a beginning of the list that says all answers before it. `Says` tells how.
pub record IsGoneBehind (Says : Beginning → List Answer → Type 0) (all : Beginning) (input : Input) (editors k : ℕ) (answers : List Answer) : Type 0 where
  pub seen : Beginning
  pub on : GoesOn seen all
  pub earlier : Says seen (take k answers)
  pub gone : IsOffAt seen input editors k

abbrev pub AreGone : (Beginning → List Answer → Type 0) → Beginning → Input → ℕ → List Answer → Type 0
AreGone Says all input editors answers = (k : ℕ) → slice_get answers k ≡ Some generation_gone → ∥ IsGoneBehind Says all input editors k answers ∥₁

-- ---- by a beginning of it that was seen

-- each list that goes on from here says it
abbrev pub IsSaidBy : Beginning → Asked → Answer → Type 0
IsSaidBy known asked answer = HoldsOf known (λ all. IsSaidIn all asked answer)

-- An answer to what is asked for, by what is known of the list.
pub record AnswersBy (known : Beginning) (asked : Asked) (answer : Answer) : Type 0 where
  -- it is of the kind that is asked for
  pub fits : FitsAsked asked answer
  -- each list says it that goes on from here
  pub said : IsSaidBy known asked answer
  -- it tells that a generation is gone only where that is so
  pub off : answer ≡ generation_gone → IsOff known asked

-- an answer to what the line at a place asks for, which each list says that goes on from here
abbrev pub IsSaidAt : Beginning → Input → ℕ → ℕ → Answer → Type 0
IsSaidAt known input editors place answer = IsAnswerOf IsSaidBy known input editors place answer

-- each answer is one to the line at its place
abbrev pub AreSaid : Beginning → Input → ℕ → List Answer → Type 0
AreSaid known input editors answers = AreEachAt (IsSaidAt known input editors) answers
