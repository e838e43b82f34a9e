-- What a router does with a packet, by the fields of both.
use Rattle.std.proofs.Common.{◌≡◌, ℕ, ◌+◌, ◌-◌, ◌*◌, ◌<◌, ◌≤◌, ◌==◌, nat_lt, true, false, List, [], ◌++◌, take, drop, Some, None, refl, sym, ap, ◌∙◌, arith}
use Rattle.std.specs.Prelude.{Err, slice_get}
use Rattle.std.proofs.lemmas.Bool.{le-ltb, lt-ltb}
use Rattle.std.proofs.lemmas.List.{append-nil, take_at}
use Rattle.std.proofs.lemmas.Option.{get_or_from_slice_get, none-some, same_Some, slice_get_within}
use Rattle.heavy_labels.specs.Label.{Label}
use Rattle.heavy_labels.specs.Numbering.{Step, step}
use Rattle.heavy_labels.specs.Stepped.{record_of}
use Rattle.schemes.specs.declared.packet.Packet.{Packet}
use Rattle.schemes.specs.declared.packet.Refused.TheVariants.{Stray}
use Rattle.schemes.specs.Service.{move_by}
use Rattle.packet_bytes.specs.Spelling.{SpellsPacket}
use Rattle.router_table.specs.declared.tree_entry.TreeEntry.{TreeEntry}
use Rattle.router_table.specs.Handing.{hopped}
use Rattle.router_table.specs.EntryForm.{entry_at, entry_is_form}
use Rattle.router_table.specs.Spelling.{SpellsTable, entry_text}
use Rattle.router_table.specs.Table.{Table, entry_for, shown}
use Rattle.byte_forms.specs.Reading.{u16_of}
use Rattle.table_view.specs.Parts.{DoRise, PartsOf, light_of, parts_at, port_of, root_of}
use Rattle.table_view.proofs.Entries.{AreEntriesOf, IsEntryAt, entries_of, port_out}
use Rattle.table_view.proofs.Packets.{destination_is, first_is, hops_are, light_is, root_is}
use Rattle.table_view.proofs.Places.{its_parts, node_in, nodes_in, parts_text}

-- the bytes of the entry at a place, as a slice has them
abbrev pub entry_bytes : ℕ → List ℕ → List ℕ
entry_bytes at entries = take (at + 13 - at) (drop at entries)

module _ (bytes packet : List ℕ) (p : PartsOf) (a : Table) (k : Packet) (found : parts_at bytes ≡ Some p) (spelled : SpellsTable bytes a) (carried : SpellsPacket packet k) where
  parts : p ≡ parts_text a
  parts = its_parts bytes a p spelled found

  entries : AreEntriesOf a p.3 p.4
  entries = entries_of a spelled.fits p parts

  nodes_are : u16_of p.0 16 ≡ a.head.nodes
  nodes_are = ap (λ (q : PartsOf). u16_of q.0 16) parts ∙ nodes_in a.head spelled.fits.head

  -- the router is the destination
  pub arrives : (node destination : ℕ) → node ≡ u16_of p.0 18 → destination ≡ u16_of packet 8 → (node == destination) ≡ (a.head.node == k.destination)
  arrives node destination n d = rw (n ∙ ap (λ (q : PartsOf). u16_of q.0 18) parts ∙ node_in a.head spelled.fits.head, d ∙ destination_is packet k carried) refl

  pub ports_are : (q : ℕ) → port_of p.2 p.1 q ≡ slice_get a.ports q
  ports_are = port_out a spelled.fits p parts

  -- the first port leads to one of the nodes
  pub first_inside : (n : ℕ) → port_of p.2 p.1 0 ≡ Some n → n < u16_of p.0 16
  first_inside n is =
      let there : slice_get a.ports 0 ≡ Some n = sym (ports_are 0) ∙ is in
      omega (arith, nodes_are, spelled.fits.lists.ports.below 0 0 (slice_get_within a.ports 0 n there), get_or_from_slice_get a.ports 0 n 0 there)

  inside : nat_lt a.head.node a.head.nodes ≡ true
  inside = lt-ltb a.head.node a.head.nodes spelled.fits.head.node

  -- a packet with too many hops left
  pub too_many : u16_of p.0 16 ≤ u16_of packet 14 → hopped a k ≡ Err Stray
  too_many le =
      let past : nat_lt k.hops_left a.head.nodes ≡ false = le-ltb k.hops_left a.head.nodes (omega (arith, le, nodes_are, hops_are packet k carried)) in
      rw (inside, past) refl

  module _ (less : u16_of packet 14 < u16_of p.0 16) where
    few : nat_lt k.hops_left a.head.nodes ≡ true
    few = lt-ltb k.hops_left a.head.nodes (omega (arith, less, nodes_are, hops_are packet k carried))

    -- a packet for the tree of a root for which there is no entry
    pub no_root : (root : ℕ) → root ≡ u16_of packet 10 → (DoRise p.4 p.3 → (i : ℕ) → i < p.3 → root_of p.4 i ≡ root → ⊥) → hopped a k ≡ Err Stray
    no_root root at missing =
        let none : entry_for a k.root ≡ None = entries.none k.root (λ i l same. missing entries.rise i l (same ∙ sym (at ∙ root_is packet k carried))) in
        rw (inside, few, none) refl

    module _ (place : ℕ) (lt : place < p.3) (is : root_of p.4 place ≡ u16_of packet 10) where
      at : IsEntryAt a k.root (drop (13 * place) p.4)
      at = entries.at place k.root lt (is ∙ root_is packet k carried)

      -- it is read
      entry_there : entry_at (entry_bytes (13 * place) p.4) ≡ Some (at.entry, [])
      entry_there =
          let size : 13 * place + 13 - 13 * place ≡ 13 = omega arith in
          let text : entry_bytes (13 * place) p.4 ≡ entry_text at.entry ++ [] =
          ap (λ n. take n (drop (13 * place) p.4)) size ∙ ap (take 13) at.text ∙ take_at (entry_text at.entry) at.behind 13 refl ∙ sym (append-nil (entry_text at.entry)) in
          ap entry_at text ∙ entry_is_form.again at.entry [] at.fits

      pub no_bytes : entry_at (entry_bytes (13 * place) p.4) ≡ None → ⊥
      no_bytes none = none-some _ (sym none ∙ entry_there)

      -- and gives the step
      pub hop_is : (e : TreeEntry) (rest : List ℕ) (s : Step) → entry_at (entry_bytes (13 * place) p.4) ≡ Some (e, rest)
          → ((l : Label) → l.first ≡ u16_of packet 12 → slice_get l.lights e.tree_record.light_depth ≡ light_of packet e.tree_record.light_depth → s ≡ step (record_of e.tree_record) l)
          → hopped a k ≡ move_by (shown a) a.head.node k s
      hop_is e rest s read stepped =
          let same : e ≡ at.entry = ap (λ (x : TreeEntry × List ℕ). x.0) (same_Some {A = TreeEntry × List ℕ} _ _ (sym read ∙ entry_there)) in
          let step_is : s ≡ step (record_of e.tree_record) k.label = stepped k.label (sym (first_is packet k carried)) (light_is packet k carried e.tree_record.light_depth) in
          let move : hopped a k ≡ move_by (shown a) a.head.node k (step (record_of at.entry.tree_record) k.label) = rw (inside, few, at.there) refl in
          move ∙ ap (λ (f : TreeEntry). move_by (shown a) a.head.node k (step (record_of f.tree_record) k.label)) (sym same) ∙ ap (move_by (shown a) a.head.node k) (sym step_is)
