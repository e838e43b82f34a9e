-- The lives that a rehearsal asks for.
use Rattle.std.specs.Prelude.{◌≡◌, ℕ, List, [], ◌∷◌}
use Rattle.disk_trait.specs.declared.plan.Plan.TheVariants as plans
use Rattle.event_model.specs.declared.event.Event.{Event}
use Rattle.event_model.specs.declared.event.Event.TheVariants as events
use Rattle.life_chain.specs.declared.life.Life.{Life}
use Rattle.value_syntax.specs.Words.{AreWords}
use Rattle.rehearsal_syntax.specs.declared.line.LifeLine.{LifeLine}
use Rattle.rehearsal_syntax.specs.declared.line.RehearsalLine.{RehearsalLine}
use Rattle.rehearsal_syntax.specs.declared.line.RehearsalLine.TheVariants as written

-- how a life opens, fails and crashes is as its line says
pub record IsSetAs (nodes : ℕ) (line : LifeLine) (life : Life) : Type 0 where
  pub sessions : life.sessions ≡ line.sessions
  pub capacity : life.capacity ≡ line.places
  pub words : AreWords line.words nodes life.words.items
  pub plan : life.plan ≡ line.plan
  pub word : life.word ≡ line.crash

-- the event is that of the line
abbrev pub IsEventOf : ℕ → RehearsalLine → Event → Type 0
IsEventOf nodes (written.Submit session ticket change) event = event ≡ events.Submit session ticket change
IsEventOf nodes (written.Look session at) event = event ≡ events.Look session at
IsEventOf nodes written.Take event = event ≡ events.Take
IsEventOf nodes written.Commit event = event ≡ events.Commit
IsEventOf nodes written.Post event = event ≡ events.Post
IsEventOf nodes (written.Rebuild words) (events.Rebuild drawn) = AreWords words nodes drawn.items
IsEventOf nodes (written.Launch from to at) event = event ≡ events.Launch from to at
IsEventOf nodes (written.Hop packet at) event = event ≡ events.Hop packet at
IsEventOf nodes line event = ⊥

-- a life that only opens
pub record IsOpening (life : Life) : Type 0 where
  pub sessions : life.sessions ≡ 1
  pub capacity : life.capacity ≡ 1
  pub words : life.words.items ≡ []
  pub events : life.events.items ≡ []
  pub plan : life.plan ≡ plans.None
  pub word : life.word ≡ 0

-- Read from the front, these lines ask for these events and then for these lives. The line of an event asks for the first event that is
-- left. A `life` line stands where no event is left: it asks for the first life, whose events are those that the lines behind it ask for.
-- Behind the last line one life is left, which only opens.
abbrev pub AskFor : ℕ → List RehearsalLine → List Event → List Life → Type 0
AskFor nodes [] [] (last ∷ []) = IsOpening last
AskFor nodes (written.Life line ∷ lines) [] (life ∷ lives) = IsSetAs nodes line life × AskFor nodes lines life.events.items lives
AskFor nodes (line ∷ lines) (event ∷ events) lives = IsEventOf nodes line event × AskFor nodes lines events lives
AskFor nodes lines events lives = ⊥

-- The lines ask for a device of so many nodes, and these lives of it.
abbrev pub AreAsked : ℕ → List RehearsalLine → List Life → Type 0
AreAsked nodes (written.Device n ∷ lines) lives = (n ≡ nodes) × AskFor nodes lines [] lives
AreAsked nodes lines lives = ⊥
