-- Lives of one device, one after another.
use Rattle.std.specs.Prelude.{◌≡◌, ◌≤◌, ℕ, List, [], ◌∷◌, length, map, take, Option, Some, None}
use Rattle.layout_2.specs.Standing.{StandsFor}
use Rattle.layout_reader.specs.Refusals.{IsFormatFault}
use Rattle.layout_reader.specs.declared.refusals.OpenRefused.{OpenRefused}
use Rattle.event_laws.specs.History.{state_at, Whole}
use Rattle.event_laws.specs.Acknowledged.{AreAcknowledged}
use Rattle.event_laws.specs.OnceLaws.{IsExactlyOnce}
use Rattle.life_chain.specs.declared.life.Life.{Life}
use Rattle.life_chain.specs.declared.report.LifeReport.{LifeReport}
use Rattle.life_chain.specs.Groups.{groups_given}
use Rattle.life_chain.specs.Reports.{opened_of, taken_of, posted_of, life_of}

-- the first life opened to what the first disk stood for
abbrev pub IsFirst : List LifeReport → List ℕ → Type 0
IsFirst [] content = Unit {0}
IsFirst (life ∷ rest) content = StandsFor (opened_of life) content

-- The next life opened to a prefix state of this one: the state after some of the requests that it took, no group in part, with all
-- that its commits answered Ok for, and all that it posted as accepted.
pub record IsNextOf (life : Life) (report next : LifeReport) : Type 0 where
  pub at : ℕ
  pub within : at ≤ length (taken_of report)
  pub state : opened_of next ≡ state_at (opened_of report) (taken_of report) at
  pub whole : Whole at report.stored.groups.items
  -- .. nor any that events and replies tell of
  pub given_whole : Whole at (groups_given life.events.items report.replies.items)
  pub holds : (state_at (opened_of report) (taken_of report) report.stored.done).count ≤ next.count
  pub acknowledged : AreAcknowledged (opened_of report) (taken_of report) at (posted_of report)

-- each of these lives is the next one of the life before
abbrev pub AreChained : List Life → List LifeReport → Type 0
AreChained lives [] = Unit {0}
AreChained lives (report ∷ []) = Unit {0}
AreChained [] (report ∷ (next ∷ rest)) = ⊥
AreChained (life ∷ lives) (report ∷ (next ∷ rest)) = IsNextOf life report next × AreChained lives (next ∷ rest)

-- for these lives, and each beginning of them, each ticket is in at most once, and exactly once where it is acknowledged
abbrev pub AreExactlyOnce : List LifeReport → Type 0
AreExactlyOnce [] = Unit {0}
AreExactlyOnce (life ∷ rest) = (n : ℕ) → IsExactlyOnce (life_of life) (take n (map life_of rest))

-- only the device or memory refuses an opening
abbrev pub IsLastRefused : Option OpenRefused → Type 0
IsLastRefused None = Unit {0}
IsLastRefused (Some refused) = IsFormatFault refused → ⊥
