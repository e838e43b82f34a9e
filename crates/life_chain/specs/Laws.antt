-- What lives of a disk are good for.
use Rattle.std.specs.Prelude.{ℕ, List, ◌++◌, Option, None}
use Rattle.disk_trait.specs.declared.disk.Disk.{Ghosts}
use Rattle.layout_reader.specs.declared.refusals.OpenRefused.{OpenRefused}
use Rattle.life_chain.specs.declared.life.Life.{Life}
use Rattle.life_chain.specs.declared.report.LifeReport.{LifeReport}
use Rattle.life_chain.specs.Sound.{AreEach}
use Rattle.life_chain.specs.Lived.{AreLived, IsLived, IsRefusedOpening}
use Rattle.life_chain.specs.Chains.{AreChained, AreExactlyOnce}

-- lives, and then more lives of the disk that these left, are lives of the first disk, where this is said of each
abbrev pub GoOn : {D : Type 0} → (D → Life → LifeReport → D → Type 0) → (D → OpenRefused → D → Type 0) → Type 0
GoOn {D} Is Refused = (disk mid left : D) (lives more : List Life) (reports others : List LifeReport) (refused : Option OpenRefused)
    → AreEach Is Refused disk lives reports None mid → AreEach Is Refused mid more others refused left → AreEach Is Refused disk (lives ++ more) (reports ++ others) refused left

-- two calls are one
abbrev pub AreOne : {D : Type 0} → Ghosts D → (D → ℕ → D → Type 0) → Type 0
AreOne model by_word = GoOn (IsLived model by_word) (IsRefusedOpening model)

-- what is said of lives follows from that they are lives: each next one is one of the life before, and each ticket is in at most once
abbrev pub AreNext : {D : Type 0} → Ghosts D → (D → ℕ → D → Type 0) → Type 0
AreNext {D} model by_word = (disk left : D) (lives : List Life) (reports : List LifeReport) (refused : Option OpenRefused) → AreLived model by_word disk lives reports refused left
    → AreChained lives reports × AreExactlyOnce reports
