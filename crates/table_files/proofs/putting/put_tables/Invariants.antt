use Rattle.std.proofs.Common.{◌≡◌, ◌≤◌, ◌*◌, ◌^◌, take}
use Rattle.table_files.specs.Files.{HasPut}
use Rattle.table_files.specs.Tables.{AreInOrder, IsTotalOf, files_of}
use Rattle.table_files.proofs.putting.put_tables.Given as goal

abbrev pub invariant-loop-node : goal.invariant-loop-node
invariant-loop-node g l = record {
  put : HasPut (g.T.TableFiles.puts l.fn.tables) (g.T.TableFiles.puts l.tables) (files_of l.scheme l.folder (take l.node-index l.nodes));
  order : AreInOrder l.scheme (take l.node-index l.nodes);
  totals : IsTotalOf l.totals (files_of l.scheme l.folder (take l.node-index l.nodes));
  count : l.totals.tables ≡ l.node-index;
  room : l.totals.bytes ≤ l.totals.tables * 2 ^ 64;
}
