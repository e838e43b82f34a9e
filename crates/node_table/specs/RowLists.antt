-- Rows of one root's tree, a row for each member.
use Rattle.std.specs.Prelude.{ℕ, ◌<◌, ◌==◌, cond, Option, Some, None, List, [], ◌∷◌, length, map, slice_index, slice_index_or}
use Rattle.std.specs.List.{All}
use Rattle.std.specs.Option.{option_map}
use Rattle.distances.specs.declared.reach.Reached.{Reached}
use Rattle.distances.specs.declared.linked.Linked.{Linked}
use Rattle.heavy_labels.specs.Label.{Label}
use Rattle.heavy_labels.specs.declared.numbered_member.NumberedMember.{NumberedMember}
use Rattle.schemes.specs.Entry.{Entry}

-- a member of a root's tree, with its entry for the root and its label
pub record Row : Type 0 where
  pub node : ℕ
  pub entry : Entry
  pub label : Label

-- the nodes that were reached
abbrev pub nodes_linked : List Linked → List ℕ
nodes_linked ks = map (λ k. k.reached.node) ks

-- the nodes that were numbered
abbrev pub nodes_numbered : List NumberedMember → List ℕ
nodes_numbered ns = map (λ n. n.node) ns

-- what stands for a place past the end
abbrev pub nobody : Linked
nobody = record { reached = record { distance = 0; node = 0; parent = None }; up = None; down = None }

-- what was reached at the place that the table has for a node
abbrev pub reached_at : List Linked → List ℕ → ℕ → Reached
reached_at ks table x = (slice_index_or ks (slice_index table x) nobody).reached

-- the entry of a numbered member for the root r
abbrev pub entry_by : ℕ → List Linked → List ℕ → NumberedMember → Entry
entry_by r ks table n = record { distance = (reached_at ks table n.node).distance; root = r; parent = (reached_at ks table n.node).parent; tree_record = n.tree_record }

-- the row of a numbered member
abbrev pub row_by : ℕ → List Linked → List ℕ → NumberedMember → Row
row_by r ks table n = record { node = n.node; entry = entry_by r ks table n; label = n.label }

-- the rows of what was numbered, in its order
abbrev pub rows_by : ℕ → List Linked → List ℕ → List NumberedMember → List Row
rows_by r ks table ns = map (row_by r ks table) ns

-- Each numbered node has a place in the table, and there it was reached.
pub record AreReached (ks : List Linked) (table : List ℕ) (ns : List NumberedMember) : Type 0 where
  pub places : All (λ n. n.node < length table) ns
  pub reached : All (λ n. slice_index table n.node < length ks) ns

-- the nodes of rows
abbrev pub nodes_in : List Row → List ℕ
nodes_in ws = map (λ w. w.node) ws

-- the row of a node
abbrev pub row_at : List Row → ℕ → Option Row
row_at [] x = None
row_at (w ∷ ws) x = cond (w.node == x) (Some w) (row_at ws x)

-- the entry of a node
abbrev pub entry_in : List Row → ℕ → Option Entry
entry_in ws x = option_map (λ w. w.entry) (row_at ws x)

-- the label of a node
abbrev pub label_in : List Row → ℕ → Option Label
label_in ws x = option_map (λ w. w.label) (row_at ws x)
