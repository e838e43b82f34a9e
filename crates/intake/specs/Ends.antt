-- What contracts see of the ends of the queue.
use Rattle.std.specs.Prelude.{◌≡◌, ◌⊎◌, ◌<◌, ◌+◌, ◌++◌, ◌∷◌, ℕ, List, [], Option, Some, None, Result, MatchOption, MatchResult}
use Rattle.atomic_table.specs.Seated.{TableId}
use Rattle.requests.specs.declared.request.Request.{Request}
use Rattle.intake.specs.Turns.{of, AreFrom, AreOfEditors}

-- how often an end of this queue found it full, or empty
pub record Missing : Type 0 where
  pub queue : TableId
  pub number : ℕ

-- what contracts see of the queue's end of one editor
pub record Sending : Type 0 where
  pub queue : TableId
  pub session : ℕ
  pub start : ℕ
  pub put : List Request
  -- how often it found the queue full
  pub fulls : ℕ

-- what contracts see of the end that takes
pub record Taking : Type 0 where
  pub queue : TableId
  -- where the sessions' tickets start
  pub starts : List ℕ
  -- there is an editor for each session from this one on
  pub first : ℕ
  -- up to this one
  pub made : ℕ
  pub got : List Request
  -- how often it found the queue empty
  pub empties : ℕ
  -- the editor that was ended last: its session, and the requests that it submitted
  pub ended : Option (ℕ × List Request)

-- the end of an editor that has just been made
abbrev pub seated : TableId → ℕ → ℕ → Sending
seated queue session start = record { queue = queue; session = session; start = start; put = []; fulls = 0 }

-- it is the end of the same editor
abbrev pub IsSameSender : Sending → Sending → Type 0
IsSameSender old new = (new.queue ≡ old.queue) × ((new.session ≡ old.session) × (new.start ≡ old.start))

-- the request was put behind those before it; or it comes back, and none was put
abbrev pub PutsOrGivesBack : {A : Type 0} → List Request → List Request → Request → Result A Request → Type 0
PutsOrGivesBack old new request result = MatchResult result (λ _. new ≡ old ++ request ∷ []) (λ back. (back ≡ request) × (new ≡ old))

-- a queue that was found full is counted
abbrev pub CountsFull : {A E : Type 0} → ℕ → ℕ → Result A E → Type 0
CountsFull old new result = MatchResult result (λ _. new ≡ old) (λ _. new ≡ old + 1)

-- a queue that was found empty is counted
abbrev pub CountsEmpty : {A : Type 0} → ℕ → ℕ → Option A → Type 0
CountsEmpty old new result = MatchOption result (new ≡ old + 1) (λ _. new ≡ old)

-- it takes from the same queue, whose sessions start where they did
abbrev pub IsSameTaker : Taking → Taking → Type 0
IsSameTaker old new = (new.queue ≡ old.queue) × (new.starts ≡ old.starts)

-- the end that takes, after the end of an editor
abbrev pub with_ended : Taking → ℕ → List Request → Taking
with_ended t session put = record { queue = t.queue; starts = t.starts; first = t.first; made = t.made; got = t.got; empties = t.empties; ended = Some (session, put) }

-- all that the ended editor submitted was taken
abbrev pub HasAll : Option (ℕ × List Request) → List Request → Type 0
HasAll None got = Unit {0}
HasAll (Some editor) got = editor.1 ≡ of editor.0 got

-- these are all requests that were put: of the ended editor just those that it submitted, and of a session without an editor none
abbrev pub AreAll : Taking → List Request → Type 0
AreAll t all = (HasAll t.ended all × AreFrom t.first all) × AreOfEditors t.made all

-- what was taken and some that wait are all that was put
abbrev pub AreAllWithWaiting : Taking → Type 0
AreAllWithWaiting t = (waits : List Request) × AreAll t (t.got ++ waits)

-- What calls that take leave: the editors, and the one that was ended last. Either nothing was taken and the queue wasn't found
-- empty, or all that was put is what was taken and some that wait, and none waits where the queue was found empty.
pub record HasTaken (old new : Taking) : Type 0 where
  pub first : new.first ≡ old.first
  pub made : new.made ≡ old.made
  pub ended : new.ended ≡ old.ended
  pub all : ((new.got ≡ old.got) × (new.empties ≡ old.empties)) ⊎ ((waits : List Request) × (AreAll new (new.got ++ waits) × (old.empties < new.empties → waits ≡ [])))
