-- What lives came to, in numbers of changes.
use Rattle.std.specs.Prelude.{◌≡◌, ◌≤◌, ◌+◌, ◌&&◌, ℕ, Bool, true, false, List, [], ◌∷◌, ◌++◌, is_none}
use Rattle.std.specs.List.{list_all, sum_by}
use Rattle.group_commit.specs.declared.refused.DeskRefused.TheVariants as desks
use Rattle.event_model.specs.declared.reply.Reply.{Reply}
use Rattle.event_model.specs.declared.reply.Reply.TheVariants.{Memory, NotCommitted}
use Rattle.event_model.specs.Answers.{number_of}
use Rattle.life_chain.specs.declared.report.LifeReport.{LifeReport}
use Rattle.life_chain.specs.declared.report.LivesReport.{LivesReport}
use Rattle.crash_trials.specs.declared.kinds.Kind.{Kind}

-- how many changes the commits with these replies answered Ok for
abbrev pub accepted_by : List Reply → ℕ
accepted_by replies = sum_by number_of replies

-- each next life found no fewer changes than the one before had found and had answered Ok for
abbrev pub AreKept : List LifeReport → Type 0
AreKept [] = Unit {0}
AreKept (report ∷ []) = Unit {0}
AreKept (report ∷ (next ∷ rest)) = (report.count + accepted_by report.replies.items ≤ next.count) × AreKept (next ∷ rest)

-- memory didn't run out for this reply
abbrev pub is_served : Reply → Bool
is_served Memory = false
is_served (NotCommitted desks.Memory) = false
is_served reply = true

-- nor for any reply of a life
abbrev pub is_all_served : LifeReport → Bool
is_all_served report = is_served report.rebuilt && list_all is_served report.replies.items

-- all lives opened, and memory ran out for none of their replies
abbrev pub is_whole : LivesReport → Bool
is_whole report = is_none report.refused && list_all is_all_served report.lives.items

-- What the last two lives of a report came to: all went on whole, and these are what the last but one found and answered Ok for, and what
-- the last one found.
pub record IsKindOf (report : LivesReport) (kind : Kind) : Type 0 where
  pub all : is_whole report ≡ true
  pub before : List LifeReport
  pub stopped : LifeReport
  pub last : LifeReport
  pub is : report.lives.items ≡ before ++ (stopped ∷ (last ∷ []))
  pub found : kind.found ≡ stopped.count
  pub acknowledged : kind.acknowledged ≡ accepted_by stopped.replies.items
  pub opened : kind.opened ≡ last.count
  -- nothing that was found or acknowledged is gone
  pub kept : kind.found + kind.acknowledged ≤ kind.opened
