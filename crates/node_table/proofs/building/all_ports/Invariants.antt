use Rattle.std.proofs.Common.{◌≡◌, ◌<◌, ℕ, List, length}
use Rattle.std.specs.declared.vec.Vec.{Vec}
use Rattle.graph_edits.specs.Edges.{Network}
use Rattle.schemes.specs.Tables.{items_at}
use Rattle.schemes.specs.Ports.{neighbours}
use Rattle.node_table.proofs.building.all_ports.Given as goal

pub record ArePorts (A : Type 0) (m : Network) (lists : List (Vec ℕ A)) (n : ℕ) : Type 0 where
  pub size : length lists ≡ n
  pub each : (x : ℕ) → x < n → items_at lists x ≡ neighbours m x

abbrev pub invariant-loop-x : goal.invariant-loop-x
invariant-loop-x l = ArePorts _ l.graph l.all.items l.x
