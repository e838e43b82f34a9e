-- What is printed of a rehearsal.
use Rattle.std.specs.Prelude.{◌≡◌, ◌≤◌, ◌-◌, ℕ, List, length}
use Rattle.disk_trait.specs.declared.disk.Disk.{Ghosts}
use Rattle.disk_trait.specs.declared.memory.MemDisk.{MemDisk}
use Rattle.layout_2.specs.State.{first_state}
use Rattle.layout_2.specs.Standing.{StandsFor}
use Rattle.life_chain.specs.declared.life.Life.{Life}
use Rattle.life_chain.specs.declared.report.LivesReport.{LivesReport}
use Rattle.life_chain.specs.Telling.{AreTold}
use Rattle.life_chain.specs.Words.{IsLeftByWord}
use Rattle.rehearsals.specs.declared.asked.Rehearsal.{Rehearsal}
use Rattle.rehearsals.specs.Reports.{report_text}

-- a device can't have so many nodes
abbrev pub IsOutOfRange : ℕ → Type 0
IsOutOfRange nodes = ¬ ((1 ≤ nodes) × (nodes ≤ 16384))

-- The report is that of these lives, of a device that was formatted for so many nodes, up to the disk that they left.
pub record IsReported {D : Type 0} (model : Ghosts D) (by_word : D → ℕ → D → Type 0) (nodes : ℕ) (lives : List Life) (report : LivesReport) (left : D) : Type 0 where
  pub disk : D
  pub formatted : StandsFor (first_state nodes) (model.view disk).content
  -- all that is promised of such lives holds of it
  pub told : AreTold model by_word disk lives report left

-- The text is that of the report of a rehearsal's lives, of a device in memory.
pub record IsRehearsed (model : Ghosts MemDisk) (rehearsal : Rehearsal) (text : List ℕ) : Type 0 where
  pub report : LivesReport
  -- the device that the lives left
  pub left : MemDisk
  -- all that is promised of such lives holds of the report
  pub reported : IsReported model IsLeftByWord rehearsal.nodes rehearsal.lives.items report left
  -- all lines of each life but the last, which only opens, and of that one what it opened to
  pub printed : text ≡ report_text (length rehearsal.lives.items - 1) report
