-- How an answer goes with those before it.
use Rattle.std.specs.Prelude.{◌≡◌, ◌+◌, ◌<◌, ◌≤◌, ℕ, List, [], ◌∷◌, Some, replicate, slice_get, take}
use Rattle.std.specs.List.{flat_map}
use Rattle.requests.specs.Tickets.{Rises, last_of, sessions, tickets_after}
use Rattle.generations.specs.Notices.{told_to}
use Rattle.generations.specs.declared.posting.Verdict.{Verdict}
use Rattle.generations.specs.declared.posting.Verdict.TheVariants.{Accepted, Refused}
use Rattle.generations.specs.Beginnings.{Beginning, GoesOn}
use Rattle.live_lines.specs.declared.answer.Answer.{Answer}
use Rattle.live_lines.specs.Answers.{generation_gone}
use Rattle.live_lines.specs.declared.answer.Answer.TheVariants.{AlreadyIn, BackedUp, OldTicket, RefusedBefore, Resumed, Settled, Waited}
use Rattle.line_exchange.specs.Measured.{CountsMore, Tells}
use Rattle.line_exchange.specs.PutLines.{NotesMore}
use Rattle.line_exchange.specs.Waits.{IsNoOlder}
use Rattle.line_exchange.specs.declared.tally.Tally.{Tally}

-- it tells that a change is accepted as the one of this number
abbrev pub TellsCount : Answer → ℕ → Type 0
TellsCount (Settled mark) count = mark.verdict ≡ Accepted count
TellsCount other count = ⊥

-- a generation that was waited for has all changes that an earlier answer tells as accepted
abbrev pub AreAwaited : List Answer → Type 0
AreAwaited answers = (before k count generation : ℕ) (earlier : Answer) → before < k → slice_get answers before ≡ Some earlier → TellsCount earlier count
    → slice_get answers k ≡ Some (Waited generation) → count ≤ generation

-- a backup has all changes that an earlier answer tells as accepted
abbrev pub AreBackedUp : List Answer → Type 0
AreBackedUp answers = (before k count held : ℕ) (earlier : Answer) → before < k → slice_get answers before ≡ Some earlier → TellsCount earlier count
    → slice_get answers k ≡ Some (BackedUp held) → count ≤ held

-- no change is told as accepted whose number is above this one
abbrev pub AreReached : ℕ → List Answer → Type 0
AreReached reached answers = (k count : ℕ) (answer : Answer) → slice_get answers k ≡ Some answer → TellsCount answer count → count ≤ reached

-- an answer behind others that reach so far, and how far it reaches with them
pub record IsReached (old : ℕ) (answer : Answer) (new : ℕ) : Type 0 where
  pub kept : old ≤ new
  pub told : (count : ℕ) → TellsCount answer count → count ≤ new
  pub awaited : (generation : ℕ) → answer ≡ Waited generation → old ≤ generation
  pub backed : (held : ℕ) → answer ≡ BackedUp held → old ≤ held

-- the session and the ticket that an answer tells as a verdict
abbrev pub told_by : Answer → List (ℕ × ℕ)
told_by (Settled mark) = told_to mark ∷ []
told_by other = []

-- .. those of all answers, in order
abbrev pub told_in : List Answer → List (ℕ × ℕ)
told_in answers = flat_map told_by answers

-- before any answer, no session has a ticket
abbrev pub no_tickets : List ℕ
no_tickets = replicate sessions 0

-- An answer behind others whose last tickets are these, and the last tickets with it.
pub record IsInTurn (old : List ℕ) (answer : Answer) (new : List ℕ) : Type 0 where
  pub rises : Rises old (told_by answer)
  pub last : new ≡ tickets_after old (told_by answer)

-- the tickets that are told as verdicts rise in each session, and these are the last ones
pub record AreInTurn (tickets : List ℕ) (answers : List Answer) : Type 0 where
  pub rises : Rises no_tickets (told_in answers)
  pub last : tickets ≡ tickets_after no_tickets (told_in answers)

-- the session and the ticket of a request that was accepted
abbrev pub accepted_as : Verdict → ℕ × ℕ → List (ℕ × ℕ)
accepted_as (Accepted count) told = told ∷ []
accepted_as (Refused op code) told = []

-- .. by an answer
abbrev pub accepted_by : Answer → List (ℕ × ℕ)
accepted_by (Settled mark) = accepted_as mark.verdict (told_to mark)
accepted_by other = []

-- .. by all answers, in order
abbrev pub accepted_in : List Answer → List (ℕ × ℕ)
accepted_in answers = flat_map accepted_by answers

-- An edit that put nothing is told so by the last tickets of its session before: `already in` of one that is at most the last one accepted,
-- `refused before` of the last one, which was refused, and `old ticket` of one in between. `resume` tells the last one accepted.
abbrev pub IsDropped : List ℕ → List ℕ → Answer → Type 0
IsDropped accepted told (AlreadyIn session ticket) = ticket ≤ last_of accepted session
IsDropped accepted told (RefusedBefore session ticket op code) = (last_of accepted session < ticket) × (ticket ≡ last_of told session)
IsDropped accepted told (OldTicket session ticket) = (last_of accepted session < ticket) × (ticket < last_of told session)
IsDropped accepted told (Resumed session ticket) = ticket ≡ last_of accepted session
IsDropped accepted told other = Unit {0}

-- each one is, by what was told before it, where the sessions' tickets start so
abbrev pub AreDropped : List ℕ → List Answer → Type 0
AreDropped starts answers = (k : ℕ) (answer : Answer) → slice_get answers k ≡ Some answer
    → IsDropped (tickets_after starts (accepted_in (take k answers))) (tickets_after no_tickets (told_in (take k answers))) answer

-- an answer more, by what was known of the list of postings
pub record Adds (old : Tally) (seen : Beginning) (answer : Answer) (new : Tally) : Type 0 where
  pub count : new.count ≡ old.count + 1
  pub reached : IsReached old.reached answer new.reached
  pub no_older : IsNoOlder old.awaited answer new.awaited
  pub in_turn : IsInTurn old.tickets answer new.tickets
  pub noted : NotesMore old.count answer old.puts new.puts old.lines new.lines
  pub dropped : IsDropped old.accepted old.tickets answer
  pub accepted : new.accepted ≡ tickets_after old.accepted (accepted_by answer)
  -- a metrics line tells what is kept of the answers before it
  pub tells : Tells old.count old.counted answer
  pub counted : CountsMore answer old.counted new.counted
  pub on : GoesOn old.known new.known
  pub covers : GoesOn seen new.known
  -- who tells that a generation is gone knows all that was known before
  pub gone : answer ≡ generation_gone → GoesOn old.known seen
