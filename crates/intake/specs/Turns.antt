-- The rule of the intake: what was taken, followed by what waits, has each editor's requests, in that editor's order, each
-- once, and no others; and each session's tickets rise above its start, up to the limit.
use Rattle.std.specs.Prelude.{◌≡◌, ◌⊎◌, ℕ, ◌<◌, ◌≤◌, ◌==◌, true, false, List, [], ◌∷◌, ◌++◌, length, filter, map, Option as Optional, None}
use Rattle.std.specs.List.{last_or, AllByRecursion}
use Rattle.std.specs.Option.{unwrap_or}
use mathlib.Core.Option.{Option, none, some}
use lib.ListN.{get_elem?}
use Rattle.atomic_table.specs.Seated.{TableId}
use Rattle.crossbeam_queue.specs.Fifo.{Forks}
use Rattle.graph_edits.specs.declared.edits.Op.{Op}
use Rattle.requests.specs.Tickets.{sessions, worn_limit, last_of, Rises}
use Rattle.requests.specs.Requests.{asked_by}
use Rattle.requests.specs.declared.request.Request.{Request}
use Rattle.intake.specs.declared.queue.View.{View}

-- the requests of one session, in order
abbrev pub of : ℕ → List Request → List Request
of s rs = filter (λ r. r.session == s) rs

-- a session's request under this ticket
abbrev pub request_of : ℕ → ℕ → List Op → Request
request_of session ticket change = record { session = session; ticket = ticket; change = change }

-- the ticket of the last request, where there is one
abbrev pub last_asked : List Request → Optional ℕ
last_asked rs = last_or None (map (λ r. r.ticket) rs)

-- the ticket of the last request, or the start
abbrev pub last_or_start : ℕ → List Request → ℕ
last_or_start start rs = unwrap_or (last_asked rs) start

-- a pass that takes no part
abbrev pub idle : View
idle = record { sends = false; session = 0; start = 0; put = []; takes = false; first = 0; made = 0; starts = []; next = 0; got = []; misses = [] }

-- the taker
abbrev pub taker : ℕ → ℕ → List ℕ → List Request → View
taker first made starts got = record { sends = false; session = 0; start = 0; put = []; takes = true; first = first; made = made; starts = starts; next = 0; got = got; misses = [] }

-- the taker before there is an editor, while the starts are told
abbrev pub opener : List ℕ → ℕ → View
opener starts next = record { sends = false; session = 0; start = 0; put = []; takes = true; first = 0; made = 0; starts = starts; next = next; got = []; misses = [] }

-- an editor
abbrev pub editor : ℕ → ℕ → List Request → View
editor session start put = record { sends = true; session = session; start = start; put = put; takes = false; first = 0; made = 0; starts = []; next = 0; got = []; misses = [] }

-- one request more was taken
abbrev pub taken : View → Request → View
taken v r = record { sends = v.sends; session = v.session; start = v.start; put = v.put; takes = v.takes; first = v.first; made = v.made; starts = v.starts; next = v.next; got = v.got ++ r ∷ []; misses = v.misses }

-- a pass that counts found the queue full, or empty, once more
abbrev pub missed : View → View
missed v = record { sends = v.sends; session = v.session; start = v.start; put = v.put; takes = v.takes; first = v.first; made = v.made; starts = v.starts; next = v.next; got = v.got; misses = v.misses ++ 0 ∷ [] }

-- the taker with what an editor knew that has ended
abbrev pub both : View → View → View
both v w = record { sends = true; session = w.session; start = w.start; put = w.put; takes = true; first = v.first; made = v.made; starts = v.starts; next = v.next; got = v.got; misses = v.misses }

-- no session from this one on has a request
abbrev pub AreOfEditors : ℕ → List Request → Type 0
AreOfEditors made all = (s : ℕ) → made ≤ s → of s all ≡ []

-- no session before this one has a request
abbrev pub AreFrom : ℕ → List Request → Type 0
AreFrom first all = (s : ℕ) → s < first → of s all ≡ []

-- At some moment a request waited in each place of the queue. What had been taken by then, followed by what waited, has of this
-- session just what its editor had put.
pub record HasWaited (queue : TableId) (session : ℕ) (put : List Request) : Type 0 where
  pub got : List Request
  pub waits : List Request
  pub full : length waits ≡ queue.slots
  pub own : put ≡ of session (got ++ waits)

-- what the taker knows of all that was put: of the editor that it took in, just what that one put, and of a session without an editor nothing
abbrev pub KnowsAll : View → List Request → Type 0
KnowsAll v all = ((v.sends ≡ true → v.put ≡ of v.session all) × AreFrom v.first all) × AreOfEditors v.made all

-- an editor's session is there, and starts where the starts say
abbrev pub IsSeat : List ℕ → View → Type 0
IsSeat starts v = (v.session < sessions) × ((v.session < length starts) × (v.start ≡ last_of starts v.session))

-- each editor has one pass, which knows what it has put
abbrev pub FitsEditor : List ℕ → (ℕ → Option ℕ) → List Request → ℕ → View → Type 0
FitsEditor starts seat all pass v = v.sends ≡ true → (seat v.session ≡ some pass) × (v.put ≡ of v.session all) × IsSeat starts v

-- a session has no editor: there is one for each from `first` on, up to `made`
abbrev pub LacksEditor : ℕ → ℕ → ℕ → Type 0
LacksEditor first made s = (s < first) ⊎ (made ≤ s)

-- the one taker knows the starts, what it has taken, and that no session without an editor has put anything
abbrev pub FitsTaker : ℕ → List ℕ → (ℕ → Option ℕ) → List Request → List Request → ℕ → View → Type 0
FitsTaker reader starts seat got all pass v = v.takes ≡ true → (pass ≡ reader) × (v.got ≡ got) × (v.starts ≡ starts) × ((s : ℕ) → LacksEditor v.first v.made s → (seat s ≡ none) × (of s all ≡ []))

-- no ticket is past the limit
abbrev pub AreWithin : List Request → Type 0
AreWithin rs = AllByRecursion (λ r. r.ticket ≤ worn_limit) rs

-- the rule of the queue: what was taken, followed by what waits, is of each session what its editor put, and its tickets rise from the starts up to the limit
abbrev pub Holds : List Request → List View → Type 0
Holds items views =
    (reader : ℕ) × (starts : List ℕ) × (seat : ℕ → Option ℕ) × (got : List Request)
    × ((pass : ℕ) (v : View) → get_elem? views pass ≡ some v → FitsEditor starts seat (got ++ items) pass v × FitsTaker reader starts seat got (got ++ items) pass v)
    × Rises starts (map asked_by (got ++ items))
    × AreWithin (got ++ items)

-- the rule lets a pass go on as it was beside a new one that takes no part, and lets it count
abbrev pub LetsCount : (List Request → List View → Type 0) → Type 0
LetsCount holds = (pass : ℕ) (v : View) → Forks holds pass v v idle × Forks holds pass v (missed v) idle
