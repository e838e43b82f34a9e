-- Tables that are in order.
use Rattle.std.specs.Prelude.{ℕ, ◌<◌, ◌^◌, Option, IfSome, length}
use Rattle.std.specs.List.{All}
use Rattle.heavy_labels.specs.declared.tree_record.Record.{Record}
use Rattle.schemes.specs.declared.packet.Home.{Home}
use Rattle.packet_bytes.specs.Spelling.{IsLabel}
use Rattle.router_table.specs.declared.head.Head.{Head}
use Rattle.router_table.specs.Items.{AreInOrder}
use Rattle.router_table.specs.Table.{Table}

-- a landmark, where there is one, is a node, in numbers that fit their places
abbrev pub IsHomeAmong : ℕ → Option Home → Type 0
IsHomeAmong nodes home = IfSome home (λ at. (at.landmark < nodes) × IsLabel at.label)

-- a node of the network, in numbers that fit their places
pub record IsHead (h : Head) : Type 0 where
  pub generation : h.generation < 2 ^ 64
  pub nodes : h.nodes < 2 ^ 16
  pub node : h.node < h.nodes
  pub home : IsHomeAmong h.nodes h.home

-- a port, where there is one, is one of so many
abbrev pub IsPort : ℕ → Option ℕ → Type 0
IsPort many port = IfSome port (λ p. p < many)

-- a record of a node with so many ports, in numbers that fit their places
pub record IsRecord (many : ℕ) (r : Record) : Type 0 where
  pub first : r.first < 2 ^ 16
  pub last : r.last < 2 ^ 16
  pub heavy_last : r.heavy_last < 2 ^ 16
  pub parent_port : IsPort many r.parent_port
  pub heavy_port : IsPort many r.heavy_port
  pub light_depth : r.light_depth < 2 ^ 8

-- Neighbours, roots and members strictly ascend and are nodes, and each record's ports are the node's.
pub record AreLists (nodes : ℕ) (a : Table) : Type 0 where
  pub ports : AreInOrder (λ port. port) nodes a.ports
  pub entries : AreInOrder (λ e. e.root) nodes a.entries
  pub directory : AreInOrder (λ m. m.node) nodes a.directory
  pub records : All (λ e. IsRecord (length a.ports) e.tree_record) a.entries
  pub labels : All (λ m. IsLabel m.label) a.directory

-- a table in order
pub record IsTable (a : Table) : Type 0 where
  pub head : IsHead a.head
  pub lists : AreLists a.head.nodes a
