use Rattle.std.proofs.Common.{◌≡◌, ◌+◌, ◌*◌, ◌^◌, ◌<◌, ◌++◌, length}
use Rattle.std.specs.List.{AllByRecursion}
use Rattle.layout_2.specs.State.{tickets_text}
use Rattle.layout_2.specs.Layout.{sessions}
use Rattle.layout_2.proofs.tickets.tickets_of.Given as goal

abbrev pub invariant-loop : goal.invariant-loop
invariant-loop l = record {
  len : length l.tickets.items ≡ l.counter;
  long : length l.rest + 8 * l.counter ≡ 8 * sessions;
  words : AllByRecursion (λ ticket. ticket < 2 ^ 64) l.tickets.items;
  text : tickets_text l.tickets.items ++ l.rest ≡ l.bytes;
}
