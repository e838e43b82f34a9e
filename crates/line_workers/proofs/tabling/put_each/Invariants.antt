use Rattle.std.proofs.Common.{◌≡◌, ◌≤◌, ◌*◌, ◌^◌}
use Rattle.generations.specs.Beginnings.{GoesOn}
use Rattle.line_workers.specs.Tables.{HasPutFirst}
use Rattle.line_workers.proofs.tabling.put_each.Given as goal

abbrev pub invariant-loop-node : goal.invariant-loop-node
invariant-loop-node g l = record {
  on : GoesOn l.fn.reader.all l.reader.all;
  put : HasPutFirst l.reader.all l.newest l.node l.folder (g.T.TableFiles.puts l.fn.tables) (g.T.TableFiles.puts l.tables) l.totals;
  count : l.totals.tables ≡ l.node;
  room : l.totals.bytes ≤ l.totals.tables * 2 ^ 64;
}
