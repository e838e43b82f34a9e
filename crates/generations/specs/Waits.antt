-- What a writer keeps: nothing, or one posting, in the log of updates or beside it.
use Rattle.std.specs.Prelude.{◌≡◌, ◌∷◌, [], List}
use Rattle.generations.specs.Notices.{notice_of}
use Rattle.generations.specs.declared.replica.Update.{Update}
use Rattle.generations.specs.declared.writer.Waiting.{Waiting}
use Rattle.generations.specs.declared.writer.Waiting.TheVariants.{Nothing, Outside, Logged}
use Rattle.generations.specs.Beginnings.{Beginning, Extends}

-- the update is what comes behind all that was posted
abbrev pub IsLast : Beginning → Beginning → Update → Type 0
IsLast posted all update = Extends posted (notice_of update.posting) all × (update.history ≡ all)

-- it is the one that is in the log of updates
abbrev pub IsPending : Beginning → Beginning → List Update → Type 0
IsPending posted all pending = (update : Update) × IsLast posted all update × (pending ≡ update ∷ [])

-- how what is kept goes with what was posted, with all, and with the log of updates
abbrev pub IsWaiting : Beginning → Beginning → List Update → Waiting → Type 0
IsWaiting posted all pending Nothing = (all ≡ posted) × (pending ≡ [])
IsWaiting posted all pending (Outside update) = IsLast posted all update × (pending ≡ [])
IsWaiting posted all pending Logged = IsPending posted all pending
