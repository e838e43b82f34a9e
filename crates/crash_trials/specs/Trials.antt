-- Trials of a rehearsal with its device stopped, and their lines.
use Rattle.std.specs.Prelude.{◌≡◌, ℕ, zero, suc, ◌-◌, ◌^◌, List, [], ◌∷◌, ◌++◌, codes, decimal, length, map, min, take, true}
use Rattle.std.specs.List.{AllByRecursion, flat_map}
use Rattle.command_output.specs.Lines.{line}
use Rattle.disk_trait.specs.declared.disk.Disk.{Ghosts}
use Rattle.disk_trait.specs.declared.memory.MemDisk.{MemDisk}
use Rattle.disk_trait.specs.declared.plan.Plan.{Plan}
use Rattle.disk_trait.specs.declared.plan.Plan.TheVariants as plans
use Rattle.life_chain.specs.declared.life.Life.{Life}
use Rattle.life_chain.specs.declared.report.LivesReport.{LivesReport}
use Rattle.life_chain.specs.Words.{IsLeftByWord, any_word}
use Rattle.crash_trials.specs.declared.kinds.Kind.{Kind}
use Rattle.crash_trials.specs.declared.kinds.KindCount.{KindCount}
use Rattle.crash_trials.specs.declared.stops.Call.{Call}
use Rattle.crash_trials.specs.declared.watched.Watched.{Watched}
use Rattle.crash_trials.specs.Stops.{first_stops, stop_count}
use Rattle.crash_trials.specs.Tables.{IsTableOf, count_text}
use Rattle.crash_trials.specs.WatchedWords.{calls_made}
use Rattle.rehearsals.specs.declared.asked.Rehearsal.{Rehearsal}
use Rattle.rehearsals.specs.Rehearsed.{IsReported}
use Rattle.crash_trials.specs.declared.trial.StopFound.{StopFound}
use Rattle.crash_trials.specs.Kinds.{IsKindOf, is_whole}

-- ---- the plan of the last life that is written

-- a life whose device has this plan
abbrev pub planned : Plan → Life → Life
planned plan life = record life { plan = plan }

-- lives of which the one at this place has this plan
abbrev pub armed_at : ℕ → Plan → List Life → List Life
armed_at place plan [] = []
armed_at zero plan (life ∷ lives) = planned plan life ∷ lives
armed_at (suc place) plan (life ∷ lives) = life ∷ armed_at place plan lives

-- Lives of which the last but one has this plan: it is the last that is written, since behind it comes one that only opens.
abbrev pub armed_with : Plan → List Life → List Life
armed_with plan lives = armed_at (length lives - 2) plan lives

-- those that are written: all but the last
abbrev pub written : List Life → List Life
written lives = take (length lives - 1) lives

-- The rehearsal is the same, but that its last written life has this plan.
pub record IsArmed (plan : Plan) (old new : Rehearsal) : Type 0 where
  -- its device has as many nodes
  pub nodes : new.nodes ≡ old.nodes
  -- there are as many lives
  pub many : length new.lives.items ≡ length old.lives.items
  -- of which one has the plan
  pub lives : new.lives.items ≡ armed_with plan old.lives.items

-- ---- trials

-- How the devices of trials are seen: one in memory, and one there that also notes its calls.
pub record TrialDevices : Type 1 where
  pub memory : Ghosts MemDisk
  pub watched : Ghosts Watched

-- These lives, of a device in memory that was formatted for so many nodes, came to this.
pub record IsLivedTo (model : Ghosts MemDisk) (nodes : ℕ) (lives : List Life) (kind : Kind) : Type 0 where
  pub report : LivesReport
  pub left : MemDisk
  pub reported : IsReported model IsLeftByWord nodes lives report left
  pub told : IsKindOf report kind

-- What was found after a stop is what a rehearsal's lives came to, where the device of the last written one stops there.
abbrev pub IsStopFound : Ghosts MemDisk → Rehearsal → StopFound → Type 0
IsStopFound model rehearsal found = IsLivedTo model rehearsal.nodes (armed_with (plans.Stop found.stop.call found.stop.put) rehearsal.lives.items) found.kind

-- These are the calls that the last of these lives made: a watched device, formatted for so many nodes, had noted them when all of them had
-- gone on whole.
pub record AreCallsOf (model : Ghosts Watched) (nodes : ℕ) (lives : List Life) (calls : List Call) : Type 0 where
  pub report : LivesReport
  pub left : Watched
  pub reported : IsReported model any_word nodes lives report left
  pub all : is_whole report ≡ true
  pub noted : calls ≡ calls_made left

-- those that a rehearsal's last written life makes of a device that doesn't fail
abbrev pub AreCallsUnstopped : Ghosts Watched → Rehearsal → List Call → Type 0
AreCallsUnstopped model rehearsal calls = AreCallsOf model rehearsal.nodes (written (armed_with plans.None rehearsal.lives.items)) calls

-- ---- their lines

-- so many stops were tried, of so many
abbrev pub head_line : ℕ → ℕ → List ℕ
head_line stops of = codes "stops=" ++ (decimal stops ++ (codes " of=" ++ (decimal of ++ 10 ∷ [])))

-- the line of a row
abbrev pub count_line : KindCount → List ℕ
count_line row = line (count_text row)

-- The text of trials: how many there were, of how many stops, and a line for each row of a table of their kinds.
pub record IsTrialsText (stops : ℕ) (tried : List StopFound) (text : List ℕ) : Type 0 where
  pub rows : List KindCount
  pub table : IsTableOf (map (λ found. found.kind) tried) rows
  pub printed : text ≡ head_line (length tried) stops ++ flat_map count_line rows

-- The text is that of the trials at the first `most` stops of the calls that the last written life made of a device that doesn't fail.
pub record IsTried (devices : TrialDevices) (rehearsal : Rehearsal) (most : ℕ) (text : List ℕ) : Type 0 where
  pub calls : List Call
  pub unstopped : AreCallsUnstopped devices.watched rehearsal calls
  pub tried : List StopFound
  -- all of these stops were tried, in their order
  pub stops : map (λ found. found.stop) tried ≡ first_stops most calls
  -- each trial came to what is told of it
  pub each : AllByRecursion (IsStopFound devices.memory rehearsal) tried
  pub told : IsTrialsText (min (stop_count calls) (2 ^ 64 - 1)) tried text
