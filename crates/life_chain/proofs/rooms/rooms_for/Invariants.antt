use Rattle.std.proofs.Common.{take}
use Rattle.life_chain.specs.Rooms.{HaveRooms}
use Rattle.life_chain.proofs.rooms.rooms_for.Given as goal

abbrev pub invariant-loop-life : goal.invariant-loop-life
invariant-loop-life l = HaveRooms l.rooms.items (take l.life-index l.lives)
