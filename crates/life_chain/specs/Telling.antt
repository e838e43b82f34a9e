-- What the report of lives of one device tells.
use Rattle.std.specs.Prelude.{ℕ, List, IsTrue}
use Rattle.disk_trait.specs.declared.disk.Disk.{Ghosts}
use Rattle.layout_2.specs.State.{State}
use Rattle.layout_2.specs.Standing.{StandsFor}
use Rattle.life_chain.specs.declared.life.Life.{Life}
use Rattle.life_chain.specs.declared.report.LivesReport.{LivesReport}
use Rattle.life_chain.specs.Lived.{AreLived}
use Rattle.life_chain.specs.Chains.{IsFirst, AreChained, AreExactlyOnce, IsLastRefused}

-- the disk keeps the model
abbrev pub KeepsModel : {D : Type 0} → Ghosts D → D → Type 0
KeepsModel model disk = IsTrue (model.view disk).keeps_model

-- What the report tells of lives of a disk that keeps the model, up to the disk that is left.
pub record AreTold {D : Type 0} (model : Ghosts D) (by_word : D → ℕ → D → Type 0)
    (disk : D) (lives : List Life) (report : LivesReport) (left : D) : Type 0 where
  -- the first life opened to what the disk stood for
  pub first : IsFirst report.lives.items (model.view disk).content
  -- each next life opened to a prefix state of the one before
  pub chained : AreChained lives report.lives.items
  -- each session's ticket is in at most once, and exactly once where it is acknowledged
  pub exactly_once : AreExactlyOnce report.lives.items
  -- where the disk stood for anything, only the device or memory refuses an opening
  pub refused : (state : State) → StandsFor state (model.view disk).content → IsLastRefused report.refused
  -- each life ran as its report says, on the very disk that the crash of the one before had left: safe at any moment, and its packets arrive
  pub lived : AreLived model by_word disk lives report.lives.items report.refused left
