use Rattle.std.proofs.Common.{◌≡◌, ◌-◌, length}
use Rattle.byte_forms.specs.Reading.{items_at}
use Rattle.byte_forms.proofs.Loops.{with_front}
use Rattle.byte_forms.proofs.lists.few_of.Given as goal

abbrev pub invariant-loop : goal.invariant-loop
invariant-loop g l = record {
  same : with_front l.items.items (items_at g.F.Form.form.at (l.count - l.counter) l.rest) ≡ items_at g.F.Form.form.at l.count l.bytes;
  many : length l.items.items ≡ l.counter;
}
