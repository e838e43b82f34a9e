-- What a metrics line tells of the answers before it.
use Rattle.std.specs.Prelude.{◌≡◌, ◌+◌, ◌<◌, ◌==◌, ℕ, List, Some, count_by, get_or, length, replicate, set, slice_get, take}
use Rattle.live_lines.specs.declared.metrics.Metrics as figures
use Rattle.live_lines.specs.declared.answer.Answer.{Answer}
use Rattle.live_lines.specs.declared.answer.Answer.TheVariants.{Metrics}
use Rattle.live_lines.specs.Metrics.{kind_of, place_of}

-- how many answers are of the kind at this place
abbrev pub how_many : ℕ → List Answer → ℕ
how_many place answers = count_by (λ answer. place_of (kind_of answer) == place) answers

-- these are their numbers, of each kind
abbrev pub AreCounted : List ℕ → List Answer → Type 0
AreCounted counted answers = (place : ℕ) → get_or counted place 0 ≡ how_many place answers

-- before any answer there is none of a kind
abbrev pub none_counted : List ℕ
none_counted = replicate 19 0

-- the numbers with an answer more
pub record CountsMore (answer : Answer) (old new : List ℕ) : Type 0 where
  pub within : place_of (kind_of answer) < length old
  pub next : new ≡ set old (place_of (kind_of answer)) (get_or old (place_of (kind_of answer)) 0 + 1)

-- a metrics line tells these numbers
abbrev pub Tells : ℕ → List ℕ → Answer → Type 0
Tells count counted (Metrics m) = (m.value.answers ≡ count) × (m.value.counted ≡ counted)
Tells count counted other = Unit {0}

-- figures are the same, but for what other lines are
pub record IsSame (old new : figures.Metrics) : Type 0 where
  pub count : new.count ≡ old.count
  pub generation : new.generation ≡ old.generation
  pub queue : new.queue ≡ old.queue
  pub commits : new.commits ≡ old.commits
  pub build : new.build ≡ old.build

-- an answer as the printer fills it in: a metrics line gets what other lines are, and another answer stays
abbrev pub IsFilled : Answer → Answer → Type 0
IsFilled (Metrics old) (Metrics new) = IsSame old.value new.value
IsFilled old new = new ≡ old

-- it tells how many answers there were before it, and how many of each kind
abbrev pub IsMeasuredBy : List Answer → Answer → Type 0
IsMeasuredBy before (Metrics m) = (m.value.answers ≡ length before) × AreCounted m.value.counted before
IsMeasuredBy before other = Unit {0}

-- each one does
abbrev pub AreMeasured : List Answer → Type 0
AreMeasured answers = (k : ℕ) (answer : Answer) → slice_get answers k ≡ Some answer → IsMeasuredBy (take k answers) answer
