-- What a life is good for: what it opened to, what a crash leaves at any moment of it, and where its packets went.
use Rattle.std.specs.Prelude.{◌≡◌, ◌<◌, ℕ, List, [], ◌∷◌, Option, Some, None, IsTrue}
use Rattle.std.specs.List.{AllByRecursion}
use Rattle.disk_trait.specs.Disk.{MayLeave, IsSettled, IsSameDevice, OnlyRead}
use Rattle.disk_trait.specs.declared.disk.Disk.{Ghosts}
use Rattle.layout_2.specs.State.{State}
use Rattle.layout_2.specs.Standing.{StandsFor, StandsForNone}
use Rattle.layout_reader.specs.Refusals.{IsFormatFault, IsNoDeviceFault}
use Rattle.layout_reader.specs.declared.refusals.OpenRefused.{OpenRefused}
use Rattle.layout_reader.specs.declared.refusals.OpenRefused.TheVariants.{Device}
use Rattle.schemes.specs.declared.parts.Parts.{Parts}
use Rattle.schemes.specs.Service.{Serves}
use Rattle.schemes.specs.Tables.{tables}
use Rattle.generations.specs.declared.posting.Notice.TheVariants.{Built}
use Rattle.checkpoint.specs.StoreWords.{disk_of}
use Rattle.event_model.specs.declared.reply.Reply.{Reply}
use Rattle.event_model.specs.declared.reply.Reply.TheVariants.{Rebuilt}
use Rattle.event_model.specs.Machines.{Machine}
use Rattle.event_laws.specs.History.{Whole}
use Rattle.event_laws.specs.Queues.{all_let_in}
use Rattle.event_laws.specs.Courses.{AreRoutedWell}
use Rattle.interleave.specs.declared.world.World.{World}
use Rattle.interleave.specs.WorldWords.{machine_of, world_store, world_view}
use Rattle.interleave.specs.Crashes.{HoldsSince}
use Rattle.life_chain.specs.declared.life.Life.{Life}
use Rattle.life_chain.specs.declared.report.LifeReport.{LifeReport}
use Rattle.life_chain.specs.Groups.{nothing_given, given_by, groups_given}

-- ---- packets

-- a rebuild that is answered with a number has it from the count, and the tables that are posted then serve the network
abbrev pub ServesOpened : State → Reply → Machine → Type 0
ServesOpened first (Rebuilt generation) built =
    (generation ≡ first.count) × ((scheme : Parts) × (Serves first.graph (tables scheme) × (built.postings ≡ Built first.count scheme ∷ [])))
ServesOpened first reply built = Unit {0}

-- ---- crashes

-- the second disk is what a crash of the first left: one of the images that it may leave, all settled
pub record HasCrashed {D : Type 0} (model : Ghosts D) (disk left : D) : Type 0 where
  pub image : MayLeave (model.view disk) (model.view left).content
  pub settled : IsSettled (model.view left)
  pub ran : IsSameDevice (model.view disk) (model.view left)

-- An image that a crash leaves of a life that came to `now` stands for a prefix state of it: with all that commits had answered Ok for, and
-- all that was posted as accepted, when it had come to `was`; and with no group in part that events and replies say was given to a commit.
pub record IsSafe (first : State) (life : Life) (report : LifeReport) (was now : Machine) (image : List ℕ) : Type 0 where
  pub holds : HoldsSince first was now image
  pub whole : Whole holds.prefix.at (groups_given life.events.items report.replies.items)

-- A crash at any moment of a life leaves such an image.
pub record IsSafeAtAnyMoment {D : Type 0} (model : Ghosts D) (disk : D) (first : State) (life : Life) (report : LifeReport) (started : World D model) (worlds : List (World D model)) (stopped : World D model) : Type 0 where
  -- since the disk was handed over, where all that it might leave then stood for what was opened
  pub handed : ((image : List ℕ) → MayLeave (model.view disk) image → StandsFor first image)
      → (image : List ℕ) → (world_view stopped).left_since (model.view disk).clock image → IsSafe first life report (machine_of started) (machine_of stopped) image
  -- since the events began, and since each of them was answered
  pub since : AllByRecursion (λ was. (image : List ℕ) → (world_view stopped).left_since (world_view was).clock image → IsSafe first life report (machine_of was) (machine_of stopped) image) (started ∷ worlds)
  -- now, at the end
  pub now : (image : List ℕ) → MayLeave (world_view stopped) image → IsSafe first life report (machine_of stopped) (machine_of stopped) image

-- ---- lives

-- A life of a disk that was handed over, which opened to `first`, by the worlds in which it ran, up to the disk that its crash left.
pub record IsSoundIn {D : Type 0} (model : Ghosts D) (by_word : D → ℕ → D → Type 0) (disk : D) (first : State) (life : Life) (report : LifeReport) (started : World D model) (worlds : List (World D model)) (stopped : World D model) (left : D) : Type 0 where
  -- it opened to what the content stood for
  pub opened : StandsFor first (model.view disk).content
  -- until the events began the disk was only read, and didn't fail
  pub read : OnlyRead (model.view disk) (world_view started)
  pub served : (world_view started).failures ≡ (model.view disk).failures
  pub keeps_model : IsTrue (world_view started).keeps_model
  -- a crash at any moment leaves a prefix state
  pub safe : IsSafeAtAnyMoment model disk first life report started worlds stopped
  -- the very disk of the last world crashed, by the life's word
  pub crashed : HasCrashed model (disk_of (world_store stopped)) left
  pub word : by_word (disk_of (world_store stopped)) life.word left
  -- the requests, and how many of them were taken and settled, are those that events and replies tell
  pub asked : report.stored.asked.items ≡ all_let_in life.events.items report.replies.items
  pub taken : report.stored.taken ≡ (given_by nothing_given life.events.items report.replies.items).taken
  pub done : report.stored.done ≡ (given_by nothing_given life.events.items report.replies.items).done
  -- the first generation serves what was opened, and each packet goes over the one trip of its generation
  pub serves : ServesOpened first report.rebuilt (machine_of started)
  pub routed_well : AreRoutedWell first (machine_of stopped)

-- A life couldn't open a disk that was handed over, and only read it.
pub record IsNotOpened {D : Type 0} (model : Ghosts D) (disk : D) (refused : OpenRefused) (left : D) : Type 0 where
  pub read : OnlyRead (model.view disk) (model.view left)
  pub ran : IsSameDevice (model.view disk) (model.view left)
  -- the refusal is the device only where that failed in the opening
  pub device : refused ≡ Device → (model.view disk).failures < (model.view left).failures
  pub served : IsNoDeviceFault refused → (model.view left).failures ≡ (model.view disk).failures
  -- and that it is no store only where it stands for nothing
  pub none : IsFormatFault refused → StandsForNone (model.view disk).content

-- Lives of a disk, one after another, each of the very disk that the crash of the one before left: each report is so of its life, up to
-- all lives, or to the first that couldn't open. And this disk is left at the end.
abbrev pub AreEach : {D : Type 0} → (D → Life → LifeReport → D → Type 0) → (D → OpenRefused → D → Type 0) → D → List Life → List LifeReport → Option OpenRefused → D → Type 0
AreEach Is Refused disk [] [] None left = left ≡ disk
AreEach Is Refused disk (life ∷ lives) [] (Some refused) left = Refused disk refused left
AreEach {D = D} Is Refused disk (life ∷ lives) (report ∷ reports) refused left =
    (next : D) × (Is disk life report next × AreEach Is Refused next lives reports refused left)
AreEach Is Refused disk lives reports refused left = ⊥
