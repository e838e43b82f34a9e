-- An entry, as contracts see it.
use Rattle.std.specs.Prelude.{ℕ, Option}
use Rattle.heavy_labels.specs.declared.tree_record.Record.{Record}

-- a node's distance from a root, the root, the node's parent in the root's tree, and its record there
pub record Entry : Type 0 where
  pub distance : ℕ
  pub root : ℕ
  pub parent : Option ℕ
  pub tree_record : Record
