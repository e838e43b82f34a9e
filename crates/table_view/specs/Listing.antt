-- Lists in bytes that are in order.
use Rattle.std.specs.Prelude.{◌≡◌, ℕ, List, [], Option, Some, length}
use Rattle.std.specs.List.{All}
use Rattle.std.specs.Int.{w16}
use Rattle.packet_bytes.specs.Spelling.{IsLabel}
use Rattle.byte_forms.specs.Reading.{list_at, number_at}
use Rattle.router_table.specs.declared.head.Head.{Head}
use Rattle.router_table.specs.EntryForm.{entry_at}
use Rattle.router_table.specs.Items.{AreInOrder}
use Rattle.router_table.specs.MemberForm.{member_at}
use Rattle.router_table.specs.Order.{IsRecord, IsTable}
use Rattle.router_table.specs.Spelling.{body_text}
use Rattle.router_table.specs.Table.{Table}

-- a list in order stands at the front: so many items, each good, whose numbers rise below a limit, and the bytes behind them
pub record IsListIn {X : Type 0} (found : List ℕ → Option (X × List ℕ)) (key : X → ℕ) (good : X → Type 0) (limit : ℕ) (bytes : List ℕ) (count : ℕ) (rest : List ℕ) : Type 0 where
  pub items : List X
  pub read : list_at found bytes ≡ Some (items, rest)
  pub many : length items ≡ count
  pub order : AreInOrder key limit items
  pub each : All good items

-- the ports, the entries and the members of a table, in a network of so many nodes; entries of a node with so many ports
abbrev pub ArePortsIn : ℕ → List ℕ → ℕ → List ℕ → Type 0
ArePortsIn nodes bytes count rest = IsListIn (number_at w16) (λ port. port) (λ port. Unit {0}) nodes bytes count rest

abbrev pub AreEntriesIn : ℕ → ℕ → List ℕ → ℕ → List ℕ → Type 0
AreEntriesIn nodes ports bytes count rest = IsListIn entry_at (λ e. e.root) (λ e. IsRecord ports e.tree_record) nodes bytes count rest

abbrev pub AreMembersIn : ℕ → List ℕ → ℕ → List ℕ → Type 0
AreMembersIn nodes bytes count rest = IsListIn member_at (λ m. m.node) (λ m. IsLabel m.label) nodes bytes count rest

-- the lists of a table with this head, in order, and nothing behind them
pub record AreListsIn (bytes : List ℕ) (h : Head) : Type 0 where
  pub port_count : ℕ
  pub entry_count : ℕ
  pub member_count : ℕ
  pub after_ports : List ℕ
  pub after_entries : List ℕ
  pub ports : ArePortsIn h.nodes bytes port_count after_ports
  pub entries : AreEntriesIn h.nodes port_count after_ports entry_count after_entries
  pub members : AreMembersIn h.nodes after_entries member_count []

-- the body of a table in order
pub record IsBody (body : List ℕ) : Type 0 where
  pub table : Table
  pub fits : IsTable table
  pub text : body ≡ body_text table
