-- What one event does to a world.
use Rattle.std.specs.Prelude.{◌≡◌}
use Rattle.event_model.specs.declared.event.Event.{Event}
use Rattle.event_model.specs.declared.reply.Reply.{Reply}
use Rattle.event_model.specs.Answers.{Answer, Answers, OrMemory, number_of}
use Rattle.interleave.specs.declared.world.World.{World}
use Rattle.interleave.specs.WorldWords.{desk_of, lists_of, machine_of, world_store}

-- the event may be answered so in the world, and then that is the new one
abbrev pub WorldAnswers : {D : Type 0} {V : _} → Event → World D V → Reply → World D V → Type 0
WorldAnswers event old reply new = Answers event (machine_of old) reply (machine_of new)

-- it is answered so; or Memory, and then all is as it was
abbrev pub WorldOrMemory : {D : Type 0} {V : _} → Answer → World D V → Reply → World D V → Type 0
WorldOrMemory answer old reply new = OrMemory answer (machine_of old) reply (machine_of new)

-- The store has no part in it.
pub record LeavesStore {D : Type 0} {V : _} (old : World D V) (reply : Reply) (new : World D V) : Type 0 where
  -- it is as it was, with its disk
  pub store : world_store new ≡ world_store old
  -- nothing was taken or settled
  pub lists : lists_of new ≡ lists_of old
  -- the reply answers for no change
  pub number : number_of reply ≡ 0

-- The desk has no part in it.
pub record LeavesDesk {D : Type 0} {V : _} (old : World D V) (reply : Reply) (new : World D V) : Type 0 where
  -- it is as it was, with its store
  pub desk : desk_of new ≡ desk_of old
  -- nothing was taken or settled
  pub lists : lists_of new ≡ lists_of old
  -- the reply answers for no change
  pub number : number_of reply ≡ 0
