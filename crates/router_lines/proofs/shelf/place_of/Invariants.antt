use Rattle.std.proofs.Common.{ℕ, ◌-◌, ◌<◌, ◌≤◌, get_or, length}
use Rattle.router_table.specs.Table.{Table}
use Rattle.router_lines.proofs.shelf.place_of.Given as goal

abbrev pub invariant-loop-place : goal.invariant-loop-place
invariant-loop-place l = record {
  within : l.place ≤ length l.tables;
  older : (k : ℕ) (d : Table) → k < l.place → (get_or l.tables k d).head.generation < l.generation;
}

abbrev pub decreases-loop-place : goal.decreases-loop-place
decreases-loop-place l = length l.tables - l.place
