-- What a run says of its desk and its disk.
use Rattle.std.specs.Prelude.{◌≡◌, ◌≢◌, ◌⊎◌, ◌<◌, ℕ, List, [], ◌∷◌, IsTrue, true}
use Rattle.disk_trait.specs.Disk.{IsSameDevice}
use Rattle.checkpoint.specs.StoreWords.{view_of, is_down, IsDurable, HasAppended, HasRolled, HasRolledAndAppended, HasRoomFor, LacksRoomFor}
use Rattle.group_commit.specs.declared.refused.DeskRefused.TheVariants.{Device, Down, Worn}
use Rattle.group_commit.specs.declared.desk.Desk.{Desk}
use Rattle.group_commit.specs.DeskWords.{store_of, held_of, settled_of, IsPastLimits}
use Rattle.event_model.specs.declared.event.Event.{Event}
use Rattle.event_model.specs.declared.event.Event.TheVariants.{Commit}
use Rattle.event_model.specs.declared.reply.Reply.{Reply}
use Rattle.event_model.specs.declared.reply.Reply.TheVariants.{Committed, NotCommitted, Idle, Memory}
use Rattle.interleave.specs.declared.world.World.{World}
use Rattle.interleave.specs.WorldWords.{desk_of, world_store, world_view}
use Rattle.interleave.specs.Events.{WorldAnswers}

-- how often a desk's disk has failed
abbrev pub failures_of : {D : Type 0} {V : _} → Desk D V → ℕ
failures_of desk = (view_of (store_of desk)).failures

-- A commit was answered Ok: the disk has not failed in it and keeps what the store holds, the group is past no limit, and what was
-- accepted of it is in the journal as one record, behind the others or first after a roll. Where nothing is accepted the store stays.
pub record HasCommitted {D : Type 0} {V : _} (old new : Desk D V) : Type 0 where
  pub served : failures_of new ≡ failures_of old
  pub durable : IsTrue (view_of (store_of old)).keeps_model → IsDurable (store_of new)
  pub within : IsPastLimits old → ⊥
  pub none : (settled_of old).accepted ≡ [] → store_of new ≡ store_of old
  pub appended : (settled_of old).accepted ≢ [] → HasRoomFor (store_of old) (settled_of old).accepted → HasAppended (store_of old) (store_of new) (settled_of old).accepted
  pub rolled : (settled_of old).accepted ≢ [] → LacksRoomFor (store_of old) (settled_of old).accepted → HasRolledAndAppended (store_of old) (store_of new) (settled_of old).accepted

-- What a commit of this desk may be answered, and how the desk is then. Device stands only where the disk has failed in the very commit,
-- Down only where it had failed before, Worn only where the group is past a limit; but for Device and a roll before Memory, what is
-- refused leaves the store.
abbrev pub DeskCommits : {D : Type 0} {V : _} → Desk D V → Reply → Desk D V → Type 0
DeskCommits old Idle new = (held_of old ≡ []) × (new ≡ old)
DeskCommits old (Committed accepted) new = HasCommitted old new
DeskCommits old (NotCommitted Device) new = failures_of old < failures_of new
DeskCommits old (NotCommitted Down) new = (is_down (store_of old) ≡ true) × (store_of new ≡ store_of old)
DeskCommits old (NotCommitted Worn) new = IsPastLimits old × (store_of new ≡ store_of old)
DeskCommits old Memory new = (store_of new ≡ store_of old) ⊎ (LacksRoomFor (store_of old) (settled_of old).accepted × HasRolled (store_of old) (store_of new))
DeskCommits old reply new = ⊥

-- an event of a world: a commit is answered by the desk, and at all other events the store stays, with its disk
pub record WorldStep {D : Type 0} {V : _} (event : Event) (old : World D V) (reply : Reply) (new : World D V) : Type 0 where
  -- its disk is the same device
  pub ran : IsSameDevice (world_view old) (world_view new)
  -- the store stays but at a commit
  pub still : event ≢ Commit → world_store new ≡ world_store old
  -- which the desk answers
  pub commits : event ≡ Commit → DeskCommits (desk_of old) reply (desk_of new)
  -- the reply is one that the event may be answered
  pub answers : WorldAnswers event old reply new

-- so it is at each event in turn, with a world after each
abbrev pub WorldRun : {D : Type 0} {V : _} → World D V → List Event → List Reply → List (World D V) → World D V → Type 0
WorldRun old [] [] [] new = new ≡ old
WorldRun old (event ∷ events) (reply ∷ replies) (next ∷ worlds) new = WorldStep event old reply next × WorldRun next events replies worlds new
WorldRun old events replies worlds new = ⊥
