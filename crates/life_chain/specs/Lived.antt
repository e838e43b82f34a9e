-- What a report of a life says, all of it: what was answered, and on which disk.
use Rattle.std.specs.Prelude.{◌≡◌, ℕ, List, [], ◌∷◌, Option, false}
use Rattle.disk_trait.specs.declared.disk.Disk.{Ghosts}
use Rattle.layout_2.specs.State.{State}
use Rattle.layout_2.specs.Refusals.{TellsOf}
use Rattle.layout_reader.specs.declared.refusals.OpenRefused.{OpenRefused}
use Rattle.schemes.specs.declared.parts.Parts.{Parts}
use Rattle.generations.specs.declared.posting.Notice.TheVariants.{Built}
use Rattle.scheme_builds.specs.Schemes.{IsSchemeOf}
use Rattle.event_model.specs.declared.reply.Reply.{Reply}
use Rattle.event_model.specs.declared.reply.Reply.TheVariants.{Rebuilt}
use Rattle.event_model.specs.Machines.{Machine, begun}
use Rattle.event_model.specs.Answers.{RebuildAnswers}
use Rattle.event_laws.specs.Listed.{IsListed}
use Rattle.event_laws.specs.Replies.{RunRoutes}
use Rattle.interleave.specs.declared.world.World.{World}
use Rattle.interleave.specs.WorldWords.{machine_of}
use Rattle.interleave.specs.Desks.{WorldRun}
use Rattle.life_chain.specs.declared.life.Life.{Life}
use Rattle.life_chain.specs.declared.report.LifeReport.{LifeReport}
use Rattle.life_chain.specs.Reports.{opened_of, ended_with}
use Rattle.life_chain.specs.Sound.{AreEach, IsNotOpened, IsSoundIn}

-- a rebuild that is answered with a number has it from the count, and what is posted then is a scheme of the network by these words
abbrev pub IsServed : State → List ℕ → Reply → Machine → Type 0
IsServed first words (Rebuilt generation) built =
    (generation ≡ first.count) × ((scheme : Parts) × (IsSchemeOf first.graph words first.count scheme × (built.postings ≡ Built first.count scheme ∷ [])))
IsServed first words reply built = Unit {0}

-- The rebuild and the events of a life that opened to `first` were answered so, from the machine after the rebuild to the one at the end.
pub record IsAnswered (first : State) (life : Life) (report : LifeReport) (built ended : Machine) : Type 0 where
  -- the rebuild came first, and its generation is built of what was opened
  pub rebuilt : RebuildAnswers life.words.items (begun life.capacity life.sessions first false) report.rebuilt built
  pub serves : IsServed first life.words.items report.rebuilt built
  -- each reply is the answer of its event, and those to launches and hops say where packets went
  pub answers : RunRoutes first built life.events.items report.replies.items ended
  -- the report has what the machine has at the end, but for what is due then and how the store is
  pub reported : ended ≡ ended_with report ended.due ended.state ended.down
  -- the lists are kept
  pub listed : IsListed first ended

-- A sound life, with all that was answered in it, each commit by the desk over its disk.
pub record IsLived {D : Type 0} (model : Ghosts D) (by_word : D → ℕ → D → Type 0) (disk : D) (life : Life) (report : LifeReport) (left : D) : Type 0 where
  pub started : World D model
  pub worlds : List (World D model)
  pub stopped : World D model
  pub sound : IsSoundIn model by_word disk (opened_of report) life report started worlds stopped left
  pub answered : IsAnswered (opened_of report) life report (machine_of started) (machine_of stopped)
  pub ran : WorldRun started life.events.items report.replies.items worlds stopped

-- A life couldn't open, and the refusal tells of the content's front.
pub record IsRefusedOpening {D : Type 0} (model : Ghosts D) (disk : D) (refused : OpenRefused) (left : D) : Type 0 where
  pub not_opened : IsNotOpened model disk refused left
  pub front : TellsOf refused (model.view disk).content

-- each of them is so
abbrev pub AreLived : {D : Type 0} → (model : Ghosts D) → (D → ℕ → D → Type 0) → D → List Life → List LifeReport → Option OpenRefused → D → Type 0
AreLived model by_word = AreEach (IsLived model by_word) (IsRefusedOpening model)
