use Rattle.std.proofs.Common.{◌≡◌, drop}
use Rattle.router_lines.specs.Shelves.{table_in}
use Rattle.router_lines.proofs.shelf.table_of.Given as goal

abbrev pub invariant-loop-table : goal.invariant-loop-table
invariant-loop-table l = table_in l.tables l.generation ≡ table_in (drop l.table-index l.tables) l.generation
