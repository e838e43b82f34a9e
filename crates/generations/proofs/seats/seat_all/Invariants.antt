use Rattle.std.proofs.Common.{◌≡◌, All, vec_len}
use Rattle.generations.specs.Knowledges.{all_seen}
use Rattle.generations.specs.Writes.{IsSameWriter}
use Rattle.generations.proofs.seats.seat_all.Given as goal

abbrev pub invariant-loop : goal.invariant-loop
invariant-loop l = record {
  same : IsSameWriter l.initial.writer l.writer;
  count : vec_len l.all ≡ l.counter;
  each : All (λ r. r ≡ all_seen l.history) l.all.items;
}
