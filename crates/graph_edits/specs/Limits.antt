-- The limits of a network. These numbers stand here alone; the code's constants are proved equal to them.
use Rattle.std.specs.Prelude.{ℕ}

-- the most nodes that a network may have
abbrev pub most_nodes : ℕ
most_nodes = 16384

-- the most edges
abbrev pub most_edges : ℕ
most_edges = 65536

-- the greatest weight of an edge
abbrev pub greatest_weight : ℕ
greatest_weight = 1000000

-- the most ops in a change
abbrev pub most_ops : ℕ
most_ops = 16
