use Rattle.std.proofs.Common.{◌+◌, ◌-◌, ◌≤◌, IsTrue, None, take, drop, length, vec_len, vec_capacity}
use Rattle.life_chain.specs.Rooms.{HaveRooms}
use Rattle.life_chain.specs.Lived.{AreLived}
use Rattle.life_chain.proofs.chain.lives_in.Given as goal

abbrev pub invariant-loop-life : goal.invariant-loop-life
invariant-loop-life g l = record {
  room : HaveRooms l.rooms.items (drop l.life-index l.lives);
  spare : vec_len l.reports + (length l.lives - l.life-index) ≤ vec_capacity l.reports;
  model : IsTrue (g.D.Disk.view l.fn.disk).keeps_model → IsTrue (g.D.Disk.view l.disk).keeps_model;
  lived : IsTrue (g.D.Disk.view l.fn.disk).keeps_model → AreLived g.D.Disk g.C.Crash.by_word l.fn.disk (take l.life-index l.lives) l.reports.items None l.disk;
}
