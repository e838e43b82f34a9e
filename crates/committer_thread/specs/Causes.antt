-- Why threads stop where the committer is refused something.
use Rattle.committer.specs.declared.refused.RoundRefused.{RoundRefused}
use Rattle.committer.specs.declared.refused.RoundRefused.TheVariants as rounds
use Rattle.committer.specs.declared.refused.RebuildRefused.{RebuildRefused}
use Rattle.committer.specs.declared.refused.RebuildRefused.TheVariants as rebuilds
use Rattle.service_actors.specs.declared.stop_cause.StopCause.{StopCause}
use Rattle.service_actors.specs.declared.stop_cause.StopCause.TheVariants as cause

-- at a round
abbrev pub round_cause : RoundRefused → StopCause
round_cause rounds.Device = cause.Device
round_cause rounds.Down = cause.Device
round_cause rounds.Memory = cause.Memory
round_cause rounds.Board = cause.Board
round_cause rounds.Worn = cause.Worn

-- and at a rebuild
abbrev pub rebuild_cause : RebuildRefused → StopCause
rebuild_cause rebuilds.Memory = cause.Memory
rebuild_cause rebuilds.Down = cause.Device
rebuild_cause rebuilds.Board = cause.Board
