use Rattle.std.proofs.Common.{◌≡◌, take}
use Rattle.std.specs.Arc.{arc_value}
use Rattle.crossbeam_queue.specs.Passes.{view, IsPassOf}
use Rattle.intake.specs.Turns.{opener}
use Rattle.intake.proofs.queue.tell_all.Given as goal

abbrev pub invariant-loop-start : goal.invariant-loop-start
invariant-loop-start l = record {
  pass : IsPassOf (arc_value l.queue) l.pass;
  table : l.pass.table_id ≡ l.initial.pass.table_id;
  view : view l.pass ≡ opener (take l.start-index l.starts) 0;
}
