use Rattle.std.proofs.Common.{◌≡◌, take}
use Rattle.router_lines.specs.Shelves.{generations_of}
use Rattle.router_lines.proofs.shelf.generations_in.Given as goal

abbrev pub invariant-loop-table : goal.invariant-loop-table
invariant-loop-table l = l.generations.items ≡ generations_of (take l.table-index l.tables)
