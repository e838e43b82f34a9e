-- What a run says of crashes.
use Rattle.std.specs.Prelude.{◌++◌, ℕ, List, map, IsTrue}
use Rattle.layout_2.specs.State.{State}
use Rattle.event_laws.specs.Acknowledged.{AreAcknowledged}
use Rattle.event_laws.specs.Happenings.{Happens}
use Rattle.event_laws.specs.History.{IsPrefixState}
use Rattle.event_laws.specs.OneLife.{history_of}
use Rattle.event_laws.specs.Runs.{IsRun, moment_of}
use Rattle.event_model.specs.declared.event.Event.{Event}
use Rattle.event_model.specs.declared.reply.Reply.{Reply}
use Rattle.event_model.specs.Answers.{number_of}
use Rattle.event_model.specs.Machines.{Machine}
use Rattle.interleave.specs.declared.world.World.{World}
use Rattle.interleave.specs.WorldWords.{lists_of, machine_of, world_view}
use Rattle.interleave.specs.Desks.{WorldRun}

-- An image stands for a prefix state of what the machine has come to by now: with all that commits had answered Ok for when it was
-- that other one, and all that was posted as accepted by then.
pub record HoldsSince (first : State) (was now : Machine) (image : List ℕ) : Type 0 where
  pub prefix : IsPrefixState first (history_of now) was.state.count image
  pub acknowledged : AreAcknowledged first (history_of now).taken prefix.at was.postings

-- a crash at a moment since the world was that other one, up to now, leaves such an image
abbrev pub IsSafeSince : {D : Type 0} {V : _} → State → World D V → World D V → Type 0
IsSafeSince first now was = (image : List ℕ) → (world_view now).left_since (world_view was).clock image → HoldsSince first (machine_of was) (machine_of now) image

-- on a disk that keeps the model, one of five things happened to it and to the history
abbrev pub WorldHappens : {D : Type 0} {V : _} → World D V → Reply → World D V → Type 0
WorldHappens old reply new = IsTrue (world_view old).keeps_model → Happens (world_view old) (world_view new) (lists_of old) (lists_of new) (number_of reply)

-- where a world stands, as a moment
abbrev pub moment_at : {D : Type 0} {V : _} → World D V → ℕ × ℕ
moment_at w = moment_of (world_view w) (lists_of w)

-- There is a world after each event of a run.
pub record HasWorlds {D : Type 0} {V : _} (old : World D V) (events : List Event) (replies : List Reply) (new : World D V) : Type 0 where
  pub each : List (World D V)
  -- each event leads from one of them to the next, and the last one is the new one
  pub steps : WorldRun old events replies each new
  -- on a disk that keeps the model a run of the store goes on over their moments
  pub goes_on : IsTrue (world_view old).keeps_model → (first : State) (before : List (ℕ × ℕ)) → IsRun first (world_view old) (lists_of old) before
      → IsRun first (world_view new) (lists_of new) (before ++ map (λ w. moment_at w) each)
