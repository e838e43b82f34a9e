-- An editor, as contracts see it.
use Rattle.std.specs.Prelude.{ℕ, ◌≡◌, ◌⊎◌, ◌+◌, List, [], ◌∷◌, Option, Some, None}
use Rattle.atomic_table.specs.Seated.{TableId}
use Rattle.requests.specs.Tickets.{last_of}
use Rattle.requests.specs.declared.request.Request.{Request}
use Rattle.generations.specs.Beginnings.{Beginning, board_after}
use Rattle.generations.specs.Knowledges.{Knowledge}
use Rattle.intake.specs.declared.editor.Editor.TheInside.{Inside}
use Rattle.intake.specs.declared.outcome.SubmitRefused.{SubmitRefused}
use Rattle.intake.specs.declared.outcome.SubmitRefused.TheVariants.{BoardShut, QueueFull}
use Rattle.intake.specs.Turns.{last_asked}
use Rattle.intake.specs.Outcomes.{outcome_on, standing_on, refusal_on}
use Rattle.intake.specs.declared.outcome.Outcome.{Outcome}
use Rattle.intake.specs.declared.outcome.Standing.{Standing}
use Rattle.intake.specs.Ends.{Sending}
use Rattle.intake.specs.Watchers.{Watching}

-- what contracts see of an editor
pub record Editing : Type 0 where
  pub queue : TableId
  pub session : ℕ
  pub start : ℕ
  -- the requests that it submitted in this opening
  pub put : List Request
  -- how often it found the queue full
  pub fulls : ℕ
  -- the postings that it saw or was told of
  pub known : Beginning

-- an editor, by its parts
abbrev pub editing : Inside → Editing
editing e = record { queue = e.sender.queue; session = e.sender.session; start = e.sender.start; put = e.sender.put; fulls = e.sender.fulls; known = e.watcher.known }

-- its watcher is of its session, and knows the last ticket of what it put
abbrev pub IsEditing : Inside → Type 0
IsEditing e = (e.watcher.session ≡ e.sender.session) × (e.watcher.last ≡ last_asked e.sender.put)

-- a session's editor with this reader, before it has submitted anything
abbrev pub editor_at : TableId → List ℕ → ℕ → Knowledge → Editing
editor_at q starts session r = record { queue = q; session = session; start = last_of starts session; put = []; fulls = 0; known = r.all }

-- an editor for each reader, of the sessions from n on, before any of them has submitted anything
abbrev pub editors_from : TableId → List ℕ → ℕ → List Knowledge → List Editing
editors_from q starts n [] = []
editors_from q starts n (r ∷ rs) = editor_at q starts n r ∷ editors_from q starts (n + 1) rs

-- the editor at this end of the queue, before it has submitted anything
abbrev pub beginner : Sending → Beginning → Editing
beginner s known = record { queue = s.queue; session = s.session; start = s.start; put = []; fulls = s.fulls; known = known }

-- the same editor, but for what it knows of the board
abbrev pub with_known : Editing → Beginning → Editing
with_known e known = record { queue = e.queue; session = e.session; start = e.start; put = e.put; fulls = e.fulls; known = known }

-- it is the same editor, whatever it submitted and knows
abbrev pub IsSameEditor : Editing → Editing → Type 0
IsSameEditor old new = (new.queue ≡ old.queue) × ((new.session ≡ old.session) × (new.start ≡ old.start))

-- the watcher that it leaves
abbrev pub watcher_of : Editing → Watching
watcher_of e = record { session = e.session; last = last_asked e.put; known = e.known }

-- what the board after all that it knows says of its last ticket
abbrev pub outcome_by : Editing → Outcome
outcome_by e = outcome_on (board_after e.known) e.session (last_asked e.put)

-- the same with the mark
abbrev pub standing_by : Editing → Standing
standing_by e = standing_on (board_after e.known) e.session (last_asked e.put)

-- what refuses a ticket of this editor, on the board after this beginning, the queue aside
abbrev pub refusal_by : Beginning → Editing → ℕ → Option SubmitRefused
refusal_by seen e ticket = refusal_on (board_after seen) e.session e.start (last_asked e.put) ticket

-- why a change wasn't submitted: the board was shut; or the board as looked at refuses it; or that lets it in, and the queue was found full
abbrev pub IsRefused : Beginning → Editing → ℕ → SubmitRefused → Type 0
IsRefused seen e ticket refusal = (refusal ≡ BoardShut) ⊎ ((refusal_by seen e ticket ≡ Some refusal) ⊎ ((refusal ≡ QueueFull) × (refusal_by seen e ticket ≡ None)))
