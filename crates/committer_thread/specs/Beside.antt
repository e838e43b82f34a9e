-- Builds that go on beside the rounds.
use Rattle.std.specs.Prelude.{◌≡◌, ◌≤◌, ◌<◌, ℕ, List, [], length, take, IfErr, IfSome, OnOk, Option, Result, ◌≢◌}
use Rattle.std.specs.Arc.{arc_value}
use Rattle.requests.specs.declared.request.Request.{Request}
use Rattle.layout_2.specs.State.{State}
use Rattle.checkpoint.specs.StoreWords.{state_of}
use Rattle.generations.specs.Beginnings.{Opening}
use Rattle.group_commit.specs.Settling.{settle}
use Rattle.request_lists.specs.declared.builds.Builds.TheVariants.{Beside}
use Rattle.committer.specs.declared.committer.Committer.{Committer}
use Rattle.committer.specs.Answers.{StaysPut}
use Rattle.committer.specs.CommitterWords.{begun_of, got_of, posts_of, store_of}
use Rattle.committer.specs.Listed.{StaysListedSo}
use Rattle.service_actors.specs.declared.graphs.GenerationGraph.{GenerationGraph}
use Rattle.service_actors.specs.declared.stop_cause.StopCause.{StopCause}
use Rattle.service_actors.specs.declared.stop_cause.StopCause.TheVariants.{Device}
use Rattle.committer_thread.specs.declared.beside.Build.{Build}
use Rattle.committer_thread.specs.declared.committing.RebuildSchedule.{RebuildSchedule}
use Rattle.committer_thread.specs.Kept.{IsOnCourse}
use Rattle.committer_thread.specs.Pace.{IsShown}
use Rattle.committer_thread.specs.Tables.{IsGraphOf}

-- what is being built
abbrev pub graph_of : Build → GenerationGraph
graph_of build = arc_value build.thread.promise.of.value

-- From a state on, a beginning of these requests led to what is being built.
pub record IsOnWay (first : State) (got : List Request) (newest : Option ℕ) (of : GenerationGraph) : Type 0 where
  pub at : ℕ
  pub within : at ≤ length got
  pub of_state : IsGraphOf (settle first (take at got)).state of
  pub ahead : IfSome newest (λ n. n < of.generation)

-- From its beginning on a committer settled all that it took, its newest generation has this number, and what is being built is of a state that
-- a beginning of it led to.
pub record GoesBeside {D R : Type 0} {V : _} (first now : Committer D R V) (rebuilds : RebuildSchedule) : Type 0 where
  pub begun : got_of first ≡ []
  pub from : begun_of now ≡ state_of (store_of first)
  pub on : IsOnCourse Beside first now
  pub shown : IsShown rebuilds.newest now
  pub reached : IfSome rebuilds.newest (λ n. n ≤ (state_of (store_of now)).count)
  pub building : IfSome rebuilds.building (λ build. IsOnWay (state_of (store_of first)) (got_of now) rebuilds.newest (graph_of build))

-- so it goes from some beginning on
abbrev pub DoesGoBeside : {D R : Type 0} {V : _} → Committer D R V → RebuildSchedule → Type 0
DoesGoBeside {D} {R} {V} now rebuilds = (first : Committer D R V) × GoesBeside first now rebuilds

-- as the committer and the builds went before, from a beginning on, they go now, where nothing refused it
abbrev pub GoesOnBeside : {D R T : Type 0} {V : _} → Committer D R V → Committer D R V → RebuildSchedule → RebuildSchedule → Result T StopCause → Type 0
GoesOnBeside {D} {R} {T} {V} old new before after result = (first : Committer D R V) → GoesBeside first old before → OnOk result (GoesBeside first new after)

-- .. and what was taken stays one list, whatever came
abbrev pub ListsBeside : {D R : Type 0} {V : _} → Committer D R V → Committer D R V → RebuildSchedule → Type 0
ListsBeside {D} {R} {V} old new before = (first : Committer D R V) → GoesBeside first old before → StaysListedSo Beside first new

-- What a committer did where nothing was taken or committed.
pub record OnlyPosts {D R T : Type 0} {V : _} (board : Opening) (old new : Committer D R V) (result : Result T StopCause) : Type 0 where
  pub opening : OnOk result ((posts_of new).opening ≡ board)
  pub stays : StaysPut old new
  pub not_device : IfErr result (λ cause. cause ≢ Device)
