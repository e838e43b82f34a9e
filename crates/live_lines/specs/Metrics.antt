-- What a service tells a monitor of itself: of which kind an answer is, and one line of JSON.
use Rattle.std.specs.Prelude.{◌-◌, ℕ, List, [], ◌∷◌, ◌++◌, codes, decimal, get_or}
use Rattle.std.specs.List.{flat_map}
use denote.Ref.{Bor}
use Rattle.forwarders.specs.declared.refused.Refused.{Refused}
use Rattle.forwarders.specs.declared.refused.Refused.TheVariants as refused
use Rattle.generations.specs.declared.posting.Verdict.{Verdict}
use Rattle.generations.specs.declared.posting.Verdict.TheVariants as verdicts
use Rattle.live_lines.specs.declared.answer.Answer.{Answer}
use Rattle.live_lines.specs.declared.answer.Answer.TheVariants as answers
use Rattle.live_lines.specs.declared.metrics.Kind.{Kind}
use Rattle.live_lines.specs.declared.metrics.Kind.TheVariants as kind
use Rattle.live_lines.specs.declared.metrics.Metrics.{Metrics}

-- of which kind a verdict is
abbrev pub verdict_kind : Verdict → Kind
verdict_kind (verdicts.Accepted count) = kind.Accepted
verdict_kind (verdicts.Refused op code) = kind.Refused

-- .. of what isn't carried
abbrev pub refusal_kind : Refused → Kind
refusal_kind refused.GenerationGone = kind.Gone
refusal_kind refused.BoardShut = kind.NotCarried
refusal_kind refused.NoNode = kind.NotCarried
refusal_kind refused.Unreachable = kind.NotCarried
refusal_kind refused.Stray = kind.NotCarried
refusal_kind refused.Spent = kind.NotCarried

-- .. and an answer
abbrev pub kind_of : Answer → Kind
kind_of (answers.Settled mark) = verdict_kind mark.verdict
kind_of (answers.AlreadyIn session ticket) = kind.AlreadyIn
kind_of (answers.RefusedBefore session ticket op code) = kind.RefusedBefore
kind_of (answers.OldTicket session ticket) = kind.OldTicket
kind_of (answers.Resumed session ticket) = kind.Resume
kind_of (answers.Way way) = kind.Route
kind_of answers.NoNode = kind.Address
kind_of (answers.Told address) = kind.Address
kind_of (answers.Sent packet) = kind.Launch
kind_of (answers.Moved move) = kind.Hop
kind_of (answers.NotCarried why) = refusal_kind why
kind_of (answers.Unread refused) = kind.Unread
kind_of (answers.State count generation queue) = kind.State
kind_of (answers.Waited generation) = kind.Wait
kind_of (answers.Tables generation tables bytes greatest) = kind.Tables
kind_of answers.TablesFailed = kind.Tables
kind_of (answers.BackedUp count) = kind.Backup
kind_of (answers.NoBackup why) = kind.Backup
kind_of (answers.Metrics metrics) = kind.Metrics
kind_of answers.NoSession = kind.NotUnderstood
kind_of answers.NotOps = kind.NotUnderstood
kind_of answers.NotUnderstood = kind.NotUnderstood

-- the place of a kind among the counts
abbrev pub place_of : Kind → ℕ
place_of kind.Accepted = 0
place_of kind.Refused = 1
place_of kind.AlreadyIn = 2
place_of kind.RefusedBefore = 3
place_of kind.OldTicket = 4
place_of kind.Resume = 5
place_of kind.Route = 6
place_of kind.Address = 7
place_of kind.Launch = 8
place_of kind.Hop = 9
place_of kind.NotCarried = 10
place_of kind.Gone = 11
place_of kind.State = 12
place_of kind.Wait = 13
place_of kind.Tables = 14
place_of kind.Backup = 15
place_of kind.Metrics = 16
place_of kind.Unread = 17
place_of kind.NotUnderstood = 18

-- how many answers of a kind are told
abbrev pub told : Metrics → Kind → ℕ
told m k = get_or m.counted (place_of k) 0

-- a name and a number, as they stand behind another one in an object of JSON
abbrev pub pair_text : List ℕ × ℕ → List ℕ
pair_text (name, number) = codes ", \"" ++ (name ++ (codes "\": " ++ decimal number))

-- a number under a name that is lent
abbrev pub named : Bor (List ℕ) × ℕ → List ℕ × ℕ
named (name, number) = (name.now, number)

-- the numbers that are told, each under its name, in their order; of the changes that count the newest generation lacks those behind its number
abbrev pub pairs_of : Metrics → List (List ℕ × ℕ)
pairs_of m =
    (codes "accepted", told m kind.Accepted)
    ∷ (codes "refused", told m kind.Refused)
    ∷ (codes "already_in", told m kind.AlreadyIn)
    ∷ (codes "refused_before", told m kind.RefusedBefore)
    ∷ (codes "old_ticket", told m kind.OldTicket)
    ∷ (codes "resume", told m kind.Resume)
    ∷ (codes "route", told m kind.Route)
    ∷ (codes "address", told m kind.Address)
    ∷ (codes "launch", told m kind.Launch)
    ∷ (codes "hop", told m kind.Hop)
    ∷ (codes "not_carried", told m kind.NotCarried)
    ∷ (codes "gone", told m kind.Gone)
    ∷ (codes "state", told m kind.State)
    ∷ (codes "wait", told m kind.Wait)
    ∷ (codes "tables", told m kind.Tables)
    ∷ (codes "backup", told m kind.Backup)
    ∷ (codes "metrics", told m kind.Metrics)
    ∷ (codes "unread", told m kind.Unread)
    ∷ (codes "not_understood", told m kind.NotUnderstood)
    ∷ (codes "count", m.count)
    ∷ (codes "generation", m.generation)
    ∷ (codes "lacks", m.count - m.generation)
    ∷ (codes "queue", m.queue)
    ∷ (codes "commits", m.commits.count)
    ∷ (codes "commit_least_us", m.commits.least)
    ∷ (codes "commit_median_us", m.commits.median)
    ∷ (codes "commit_greatest_us", m.commits.greatest)
    ∷ (codes "build_us", m.build)
    ∷ (codes "waiting", m.waiting)
    ∷ []

-- the line
abbrev pub metrics_text : Metrics → List ℕ
metrics_text m = codes "{\"answers\": " ++ (decimal m.answers ++ (flat_map pair_text (pairs_of m) ++ codes "}"))
