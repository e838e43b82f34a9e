-- How many items there are in order, and that what is in order has bytes.
use Rattle.std.proofs.Common.{ℕ, ◌^◌, ◌<◌, ◌≤◌, length, map, List, Option, IfSome, arith}
use Rattle.std.specs.List.{AllByRecursion}
use Rattle.std.proofs.lemmas.List.{length-map}
use Rattle.std.proofs.lemmas.List.Elements.{All-map, recursion_from_All}
use Rattle.std.proofs.lemmas.Map.Keys.{sorted_from_strictly_increasing}
use Rattle.std.proofs.lemmas.Map.Views.{length-le_from_below}
use Rattle.std.proofs.lemmas.Option.{IfSome_then}
use Rattle.heavy_labels.specs.declared.tree_record.Record.{Record}
use Rattle.schemes.specs.declared.parts.Listed.{Listed}
use Rattle.router_table.specs.declared.tree_entry.TreeEntry.{TreeEntry}
use Rattle.router_table.specs.EntryForm.{EntryFits, HasBytes}
use Rattle.router_table.specs.Items.{AreInOrder}
use Rattle.router_table.specs.MemberForm.{MemberFits}
use Rattle.router_table.specs.Order.{IsRecord, IsTable}
use Rattle.router_table.specs.Reading.{lists_form}
use Rattle.router_table.specs.Spelling.{no_port}
use Rattle.router_table.specs.Table.{Table}

-- numbers that ascend below a limit are no more than it
pub few : {X : Type 0} (key : X → ℕ) (limit : ℕ) (xs : List X) → AreInOrder key limit xs → length xs ≤ limit
few key limit xs ok =
    let few_keys = length-le_from_below limit (map key xs) (sorted_from_strictly_increasing (map key xs) ok.ascend) (All-map (λ n. n < limit) key xs ok.below) in
    omega (arith, length-map xs key, few_keys)

port_fits : (many : ℕ) (o : Option ℕ) → many ≤ no_port → IfSome o (λ p. p < many) → IfSome o (λ p. p < no_port)
port_fits many o le fits = IfSome_then o fits (λ p below. omega (arith, le, below))

pub has_bytes : (many : ℕ) (r : Record) → many ≤ no_port → IsRecord many r → HasBytes r
has_bytes many r le fits =
    (fits.first, (fits.last, (fits.heavy_last, (port_fits many r.parent_port le fits.parent_port, (port_fits many r.heavy_port le fits.heavy_port, fits.light_depth)))))

module _ (a : Table) (ok : IsTable a) where
  nodes : a.head.nodes < 2 ^ 16
  nodes = ok.head.nodes

  pub few_ports : length a.ports < 2 ^ 16
  few_ports = omega (arith, few (λ (port : ℕ). port) a.head.nodes a.ports ok.lists.ports, nodes)

  pub few_entries : length a.entries < 2 ^ 16
  few_entries = omega (arith, few (λ (e : TreeEntry). e.root) a.head.nodes a.entries ok.lists.entries, nodes)

  pub few_members : length a.directory < 2 ^ 16
  few_members = omega (arith, few (λ (m : Listed). m.node) a.head.nodes a.directory ok.lists.directory, nodes)

  pub ports_fit : AllByRecursion (λ n. n < 2 ^ 16) a.ports
  ports_fit = recursion_from_All (λ n. n < 2 ^ 16) a.ports (λ k d lt. omega (arith, ok.lists.ports.below k d lt, nodes))

  pub entries_fit : AllByRecursion EntryFits a.entries
  entries_fit = recursion_from_All EntryFits a.entries (λ k d lt. (omega (arith, ok.lists.entries.below k d lt, nodes), has_bytes (length a.ports) _ (omega (arith, few_ports)) (ok.lists.records k d lt)))

  pub members_fit : AllByRecursion MemberFits a.directory
  members_fit = recursion_from_All MemberFits a.directory (λ k d lt. (omega (arith, ok.lists.directory.below k d lt, nodes), ok.lists.labels k d lt))

  pub lists_fit : lists_form.Fits (a.ports, a.entries, a.directory)
  lists_fit = ((few_ports, ports_fit), ((few_entries, entries_fit), (few_members, members_fit)))
