use Rattle.std.proofs.Common.{◌≤◌}
use Rattle.table_view.proofs.Lists.{IsReading}
use Rattle.table_view.proofs.item.list_in_order.Given as goal

abbrev pub invariant-loop : goal.invariant-loop
invariant-loop g l = record {
  reading : IsReading g.F.Form.form.at g.F.Item.key (g.F.Item.IsGood l.ports) l.limit l.count l.counter l.least l.initial.rest l.rest;
  fits : l.least ≤ 65536;
}
