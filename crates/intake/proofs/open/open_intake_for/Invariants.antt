use Rattle.std.proofs.Common.{◌≡◌, []}
use Rattle.intake.proofs.open.open_intake_for.Given as goal

abbrev pub invariant-loop : goal.invariant-loop
invariant-loop l = record {
  queue : l.taker.queue ≡ l.initial.taker.queue;
  starts : l.taker.starts ≡ l.initial.taker.starts;
  first : l.taker.first ≡ l.counter;
  made : l.taker.made ≡ l.counter;
  got : l.taker.got ≡ [];
  empties : l.taker.empties ≡ 0;
}
