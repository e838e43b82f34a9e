-- Members that are numbered one after the other, each by its parent's label.
use Rattle.std.specs.Prelude.{◌≡◌, ℕ, ◌+◌, ◌*◌, ◌^◌, ◌<◌, ◌≤◌, ◌==◌, cond, Bool, None, Option, List, [], length, get_or, slice_index}
use Rattle.route_tree.specs.Rose.{Tree, tree_size, no_trees}
use Rattle.route_tree.specs.declared.member.Member.{Member}
use Rattle.heavy_labels.specs.Label.{Label}
use Rattle.heavy_labels.specs.Numbering.{lights_at}
use Rattle.heavy_labels.specs.Numbered.{Brief, brief}
use Rattle.heavy_labels.specs.ByNode.{nobody, tree_of}

-- the root of a tree with its label
abbrev pub tree_brief : Tree → Label → Brief
tree_brief t l = brief t.node t.up t.down t.below l.first l.lights

-- what stands for a listed member past the end
abbrev pub no_brief : Brief
no_brief = brief 0 None None no_trees 0 []

-- the port to a heavy child by its place, where 0 stands for no child
abbrev pub port_or_none : List Member → ℕ → Option ℕ
port_or_none ms h = cond (h == 0) None (get_or ms h nobody).down

-- the label of a child, whose number is so far ahead, under its parent's
abbrev pub label_below : Label → ℕ → Bool → Option ℕ → Label
label_below l ahead heavy down = record { first = l.first + ahead; lights = lights_at heavy l.lights down }

-- l is the label of the member at i: the root's, or one that follows from its parent's label; it leaves room for its tree
pub record IsLabelAt (ms : List Member) (above heavy ahead : List ℕ) (i : ℕ) (over l : Label) : Type 0 where
  pub root : i ≡ 0 → l ≡ record { first = 0; lights = [] }
  pub below : 0 < i → l ≡ label_below over (slice_index ahead i) (slice_index heavy (slice_index above i) == i) (get_or ms i nobody).down
  pub fits : l.first + tree_size (tree_of ms i) ≤ length ms
  pub few : (tree_size (tree_of ms i) + 1) * 2 ^ length l.lights ≤ length ms + 1

-- the label that is listed for the parent of the member at i
abbrev pub label_over : List ℕ → List Brief → ℕ → Label
label_over above all i = (get_or all (slice_index above i) no_brief).1.1

-- the first n members are listed, each with its label, in their order
pub record AreFlat (ms : List Member) (above heavy ahead : List ℕ) (n : ℕ) (all : List Brief) : Type 0 where
  pub length_is : length all ≡ n
  pub is : (i : ℕ) → i < n → get_or all i no_brief ≡ tree_brief (tree_of ms i) (get_or all i no_brief).1.1
  pub labels : (i : ℕ) → i < n → IsLabelAt ms above heavy ahead i (label_over above all i) (get_or all i no_brief).1.1
