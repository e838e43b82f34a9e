-- What a router keeps of a generation, and when that is what the tables of all nodes say of it.
use Rattle.std.specs.Prelude.{◌≡◌, ℕ, false, Option, None, List, map, option_map, slice_get}
use Rattle.heavy_labels.specs.Label.{Label}
use Rattle.schemes.specs.declared.packet.Address.{Address}
use Rattle.schemes.specs.Entry.{Entry}
use Rattle.schemes.specs.declared.parts.Listed.{Listed}
use Rattle.schemes.specs.declared.parts.Parts.{Parts}
use Rattle.schemes.specs.Service.{home_of}
use Rattle.schemes.specs.Tables.{Tables, directory_at, entries_at, ports_at, tables}
use Rattle.router_table.specs.declared.head.Head.{Head}
use Rattle.router_table.specs.declared.tree_entry.TreeEntry.{TreeEntry}
use Rattle.router_table.specs.Items.{item_at}

-- What a router keeps: who it is, its neighbours port by port, its entries, one for each tree that it is in, and its directory.
pub record Table : Type 0 where
  pub head : Head
  pub ports : List ℕ
  pub entries : List TreeEntry
  pub directory : List Listed

-- where the router is to be found
abbrev pub address_of : Head → Address
address_of h = record { generation = h.generation; node = h.node; home = h.home }

-- the entry for a root, and the member of a directory
abbrev pub entry_for : Table → ℕ → Option TreeEntry
entry_for a root = item_at (λ e. e.root) root a.entries

abbrev pub label_for : Table → ℕ → Option Label
label_for a node = option_map (λ m. m.label) (item_at (λ m. m.node) node a.directory)

-- an entry, as tables of all nodes have it
abbrev pub shown_entry : TreeEntry → Entry
shown_entry e = record { distance = 0; root = e.root; parent = None; tree_record = e.tree_record }

-- tables of all nodes that say the same of the router
abbrev pub shown : Table → Tables
shown a = record {
  nodes = a.head.nodes;
  generation = a.head.generation;
  landmark = λ _. false;
  over = λ _ port. slice_get a.ports port;
  nearest = λ _. option_map (λ h. record { landmark = h.landmark; distance = 0 }) a.head.home;
  entry = λ _ root. option_map shown_entry (entry_for a root);
  listed = λ _ node. label_for a node;
  home = λ _. option_map (λ h. h.label) a.head.home;
}

-- a table says of its node what tables of all nodes say of it
pub record IsTableOf (t : Tables) (x : ℕ) (a : Table) : Type 0 where
  pub node : a.head.node ≡ x
  pub nodes : a.head.nodes ≡ t.nodes
  pub generation : a.head.generation ≡ t.generation
  pub home : a.head.home ≡ home_of (t.nearest x) (t.home x)
  pub ports : (port : ℕ) → slice_get a.ports port ≡ t.over x port
  pub records : (root : ℕ) → option_map (λ e. e.tree_record) (entry_for a root) ≡ option_map (λ e. e.tree_record) (t.entry x root)
  pub labels : (node : ℕ) → label_for a node ≡ t.listed x node

-- an entry without its distance and its parent
abbrev pub tree_entry : Entry → TreeEntry
tree_entry e = record { root = e.root; tree_record = e.tree_record }

-- the table of a node, as the lists of a scheme have it
abbrev pub table_at : Parts → ℕ → Table
table_at p x = record {
  head = record { generation = p.generation; nodes = p.nodes; node = x; home = home_of ((tables p).nearest x) ((tables p).home x) };
  ports = ports_at p x;
  entries = map tree_entry (entries_at p x);
  directory = directory_at p x;
}
