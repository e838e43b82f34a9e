-- What rows are made of, and how a directory lists them.
use Rattle.std.specs.Prelude.{◌≡◌, ℕ, List}
use Rattle.std.specs.List.{All, Contains}
use Rattle.distances.specs.declared.reach.Reached.{Reached}
use Rattle.heavy_labels.specs.declared.numbered_member.NumberedMember.{NumberedMember}
use Rattle.schemes.specs.declared.parts.Listed.{Listed}
use Rattle.node_table.specs.RowLists.{Row, nodes_in, nodes_numbered}

-- the row of a member
pub record IsRowOf (r : ℕ) (k : Reached) (n : NumberedMember) (w : Row) : Type 0 where
  pub reached : w.node ≡ k.node
  pub numbered : w.node ≡ n.node
  pub root : w.entry.root ≡ r
  pub distance : w.entry.distance ≡ k.distance
  pub parent : w.entry.parent ≡ k.parent
  pub tree_record : w.entry.tree_record ≡ n.tree_record
  pub label : w.label ≡ n.label

-- a row is made of one of what was reached and one of what was numbered
abbrev pub IsRowFrom : ℕ → List Reached → List NumberedMember → Row → Type 0
IsRowFrom r ks ns w = (k : Reached) × (n : NumberedMember) × (Contains ks k × Contains ns n × IsRowOf r k n w)

-- a row for each of what was numbered, in its order
pub record IsRowList (r : ℕ) (ks : List Reached) (ns : List NumberedMember) (ws : List Row) : Type 0 where
  pub each : All (IsRowFrom r ks ns) ws
  pub nodes : nodes_in ws ≡ nodes_numbered ns

-- a row in its root's directory
abbrev pub listed_row : Row → Listed
listed_row w = record { node = w.node; label = w.label }
