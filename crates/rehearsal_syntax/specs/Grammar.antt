-- How lines of a rehearsal are written, and which line may stand where.
use Rattle.std.specs.Prelude.{ℕ, ◌<◌, ◌≤◌, ◌^◌, List, [], ◌∷◌, ◌++◌, map, codes, decimal}
use Rattle.disk_trait.specs.declared.plan.Plan.{Plan}
use Rattle.disk_trait.specs.declared.plan.Plan.TheVariants as plans
use Rattle.value_syntax.specs.OpText.{op_text, pair_text}
use Rattle.value_syntax.specs.Scripts.{IsChange}
use Rattle.value_syntax.specs.Words.{IsWithin}
use Rattle.value_syntax.specs.declared.words.LandmarkWords.{LandmarkWords}
use Rattle.value_syntax.specs.WordsText.{IsAsked, words_text}
use Rattle.rehearsal_syntax.specs.declared.line.LifeLine.{LifeLine}
use Rattle.rehearsal_syntax.specs.declared.line.RehearsalLine.{RehearsalLine}
use Rattle.rehearsal_syntax.specs.declared.line.RehearsalLine.TheVariants.{Device, Life, Submit, Look, Take, Commit, Post, Rebuild, Launch, Hop}
use Rattle.rehearsal_syntax.specs.declared.stage.Stage.{Stage}
use Rattle.rehearsal_syntax.specs.declared.stage.Stage.TheVariants.{Empty, Made, Living}

-- ---- the words of a line

-- which call fails; nothing where none does
abbrev pub plan_words : Plan → List (List ℕ)
plan_words plans.None = []
plan_words (plans.Fail call) = (codes "fail=" ++ decimal call) ∷ []
plan_words (plans.Stop call bytes) = (codes "stop=" ++ pair_text call bytes) ∷ []

-- which call fails, and what the crash leaves
abbrev pub end_words : Plan → ℕ → List (List ℕ)
end_words plan crash = plan_words plan ++ (codes "crash=" ++ decimal crash) ∷ []

-- what stands behind `life`
abbrev pub life_fields : LifeLine → List (List ℕ)
life_fields life =
    (codes "sessions=" ++ decimal life.sessions)
    ∷ (codes "places=" ++ decimal life.places)
    ∷ (codes "words=" ++ words_text life.words)
    ∷ end_words life.plan life.crash

-- two numbers in decimal
abbrev pub pair_words : ℕ → ℕ → List (List ℕ)
pair_words a b = decimal a ∷ decimal b ∷ []

-- the words of a line
abbrev pub line_words : RehearsalLine → List (List ℕ)
line_words (Device nodes) = codes "device" ∷ decimal nodes ∷ []
line_words (Life life) = codes "life" ∷ life_fields life
line_words (Submit session ticket change) = codes "submit" ∷ decimal session ∷ decimal ticket ∷ map op_text change
line_words (Look session at) = codes "look" ∷ pair_words session at
line_words Take = codes "take" ∷ []
line_words Commit = codes "commit" ∷ []
line_words Post = codes "post" ∷ []
line_words (Rebuild words) = codes "rebuild" ∷ words_text words ∷ []
line_words (Launch from to at) = codes "launch" ∷ decimal from ∷ pair_words to at
line_words (Hop packet at) = codes "hop" ∷ pair_words packet at

-- ---- which line may stand where

-- the numbers fit their types
abbrev pub FitsPlan : Plan → Type 0
FitsPlan plans.None = Unit {0}
FitsPlan (plans.Fail call) = call < 2 ^ 64
FitsPlan (plans.Stop call bytes) = (call < 2 ^ 64) × (bytes < 2 ^ 64)

-- landmark words that a device of so many nodes has
abbrev pub AreOfDevice : ℕ → LandmarkWords → Type 0
AreOfDevice nodes words = IsAsked words × IsWithin words nodes

-- 1 to 64
abbrev pub IsFew : ℕ → Type 0
IsFew n = (1 ≤ n) × (n ≤ 64)

-- a life of a device of so many nodes
pub record IsLife (nodes : ℕ) (life : LifeLine) : Type 0 where
  pub sessions : IsFew life.sessions
  pub places : IsFew life.places
  pub words : AreOfDevice nodes life.words
  pub plan : FitsPlan life.plan
  pub crash : life.crash < 2 ^ 64

-- an event whose numbers fit their types; the landmark words are of a device of so many nodes
abbrev pub IsEvent : ℕ → RehearsalLine → Type 0
IsEvent nodes (Device n) = ⊥
IsEvent nodes (Life life) = ⊥
IsEvent nodes (Submit session ticket change) = (session < 2 ^ 8) × (ticket < 2 ^ 64) × IsChange change
IsEvent nodes (Look session at) = (session < 2 ^ 8) × (at < 2 ^ 64)
IsEvent nodes Take = Unit {0}
IsEvent nodes Commit = Unit {0}
IsEvent nodes Post = Unit {0}
IsEvent nodes (Rebuild words) = AreOfDevice nodes words
IsEvent nodes (Launch from to at) = (from < 2 ^ 16) × (to < 2 ^ 16) × (at < 2 ^ 64)
IsEvent nodes (Hop packet at) = (packet < 2 ^ 64) × (at < 2 ^ 64)

-- the first line makes a device, the second begins a life, and behind it come lives and events
abbrev pub MayStand : Stage → RehearsalLine → Type 0
MayStand Empty (Device nodes) = (1 ≤ nodes) × (nodes ≤ 16384)
MayStand Empty line = ⊥
MayStand (Made nodes) (Life life) = IsLife nodes life
MayStand (Made nodes) line = ⊥
MayStand (Living nodes) (Life life) = IsLife nodes life
MayStand (Living nodes) line = IsEvent nodes line

-- in lives of a device of any size
abbrev pub MayStandAnywhere : RehearsalLine → Type 0
MayStandAnywhere line = (nodes : ℕ) → MayStand (Living nodes) line

-- how far a rehearsal has come behind one line more
abbrev pub stage_after : Stage → RehearsalLine → Stage
stage_after Empty (Device nodes) = Made nodes
stage_after Empty line = Empty
stage_after (Made nodes) line = Living nodes
stage_after (Living nodes) line = Living nodes

-- how far it has come behind these lines
abbrev pub stage_of : Stage → List RehearsalLine → Stage
stage_of stage [] = stage
stage_of stage (line ∷ rest) = stage_of (stage_after stage line) rest

-- each line may stand where it stands
abbrev pub StandFrom : Stage → List RehearsalLine → Type 0
StandFrom stage [] = Unit {0}
StandFrom stage (line ∷ rest) = MayStand stage line × StandFrom (stage_after stage line) rest

abbrev pub IsRehearsal : List RehearsalLine → Type 0
IsRehearsal lines = StandFrom Empty lines
