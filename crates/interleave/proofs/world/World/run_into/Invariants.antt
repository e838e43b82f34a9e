use Rattle.std.proofs.Common.{◌≤◌, ◌+◌, ◌-◌, take, length, vec_len, vec_capacity}
use Rattle.disk_trait.specs.Disk.{IsSameDevice}
use Rattle.interleave.specs.WorldWords.{world_view}
use Rattle.interleave.specs.Crashes.{HasWorlds}
use Rattle.interleave.proofs.world.World.run_into.Given as goal

abbrev pub invariant-loop-event : goal.invariant-loop-event
invariant-loop-event g l = record {
  room : vec_len l.replies + (length l.events - l.event-index) ≤ vec_capacity l.replies;
  ran : IsSameDevice (world_view l.fn.self) (world_view l.self);
  worlds : HasWorlds l.fn.self (take l.event-index l.events) l.replies.items l.self;
}
