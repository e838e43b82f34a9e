use Rattle.std.proofs.Common.{◌≡◌, ◌+◌, ◌++◌, [], vec_len}
use Rattle.intake.specs.Editors.{editors_from}
use Rattle.intake.proofs.open.open_intake.Given as goal

abbrev pub invariant-loop-session : goal.invariant-loop-session
invariant-loop-session l = record {
  count : vec_len l.readers + l.session ≡ l.count;
  queue : l.taker.queue ≡ l.initial.taker.queue;
  starts : l.taker.starts ≡ l.initial.taker.starts;
  first : l.taker.first ≡ 0;
  made : l.taker.made ≡ l.session;
  got : l.taker.got ≡ [];
  empties : l.taker.empties ≡ 0;
  each : l.editors.items ++ editors_from l.initial.taker.queue l.starts l.session l.readers.items ≡ editors_from l.initial.taker.queue l.starts 0 l.initial.readers.items;
}
