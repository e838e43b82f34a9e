-- What a router launches, by the parts of its table.
use Rattle.std.proofs.Common.{◌≡◌, ℕ, ◌-◌, ◌<◌, ◌≤◌, nat_lt, true, false, List, Option, Some, None, refl, sym, ap, ◌∙◌, arith}
use Rattle.std.specs.Prelude.{Result, Ok, Err, option_map}
use Rattle.std.proofs.lemmas.Bool.{le-ltb, lt-ltb}
use Rattle.std.proofs.lemmas.Option.{same_Some}
use Rattle.heavy_labels.specs.Label.{Label}
use Rattle.schemes.specs.declared.packet.Address.{Address}
use Rattle.schemes.specs.declared.packet.Home.{Home}
use Rattle.schemes.specs.declared.packet.Packet.{Packet}
use Rattle.schemes.specs.declared.packet.Refused.{Refused}
use Rattle.schemes.specs.declared.packet.Refused.TheVariants.{NoNode, Unreachable}
use Rattle.schemes.specs.declared.parts.Listed.{Listed}
use Rattle.schemes.specs.Service.{packet_by}
use Rattle.byte_forms.specs.Reading.{list_at}
use Rattle.router_table.specs.declared.head.Head.{Head}
use Rattle.router_table.specs.Handing.{launched}
use Rattle.router_table.specs.Items.{item_at}
use Rattle.router_table.specs.MemberForm.{member_at}
use Rattle.router_table.specs.Order.{IsHead}
use Rattle.router_table.specs.Spelling.{SpellsTable, head_text}
use Rattle.router_table.specs.Table.{Table, entry_for, label_for, shown}
use Rattle.table_view.specs.Parts.{DoRise, PartsOf, parts_at, root_of}
use Rattle.table_view.proofs.Entries.{AreEntriesOf, entries_of}
use Rattle.table_view.proofs.Places.{head_read, its_parts, members_read}

module _ (bytes : List ℕ) (p : PartsOf) (a : Table) (found : parts_at bytes ≡ Some p) (spelled : SpellsTable bytes a)
    (h : Head) (read : (g : Head) → IsHead g → p.0 ≡ head_text g → Some h ≡ Some g) (to : Address) where
  is : h ≡ a.head
  is = same_Some h a.head (head_read bytes p a found spelled (Some h) read)

  inside : nat_lt a.head.node a.head.nodes ≡ true
  inside = lt-ltb a.head.node a.head.nodes spelled.fits.head.node

  nodes_are : h.nodes ≡ a.head.nodes
  nodes_are = ap (λ (g : Head). g.nodes) is

  pub too_far : h.nodes ≤ to.node → Some (Err NoNode) ≡ Some (launched a to)
  too_far le =
      let past : nat_lt to.node a.head.nodes ≡ false = le-ltb to.node a.head.nodes (omega (arith, le, nodes_are)) in
      rw (inside, past) refl

  -- what a look-up in the directory gave
  module _ (lt : to.node < h.nodes) (o : Option Label) (told : (ms : List Listed) (rest : List ℕ) → list_at member_at p.5 ≡ Some (ms, rest) → Some o ≡ Some (option_map (λ m. m.label) (item_at (λ m. m.node) to.node ms))) where
    near : nat_lt to.node a.head.nodes ≡ true
    near = lt-ltb to.node a.head.nodes (omega (arith, lt, nodes_are))

    listed : label_for a to.node ≡ o
    listed = sym (same_Some {A = Option Label} _ _ (told a.directory _ (members_read bytes p a found spelled)))

    -- the packet that is made
    made : (root : Head → ℕ) (l : Label) → record { generation = h.generation; destination = to.node; root = root h; label = l; hops_left = h.nodes - 1 } ≡ packet_by (shown a) to.node (root a.head) l
    made root l = λ i. record { generation = (is i).generation; destination = to.node; root = root (is i); label = l; hops_left = (is i).nodes - 1 }

    sent : (k : Packet) (root : Head → ℕ) (l : Label) → k ≡ record { generation = h.generation; destination = to.node; root = root h; label = l; hops_left = h.nodes - 1 } → launched a to ≡ Ok (packet_by (shown a) to.node (root a.head) l) → Some (Ok k) ≡ Some (launched a to)
    sent k root l e launch = ap (λ (j : Packet). Some (Ok j)) (e ∙ made root l) ∙ ap (λ (r : Result Packet Refused). Some r) (sym launch)

    pub by_directory : (l : Label) (k : Packet) → o ≡ Some l → k ≡ record { generation = h.generation; destination = to.node; root = h.node; label = l; hops_left = h.nodes - 1 } → Some (Ok k) ≡ Some (launched a to)
    by_directory l k some e = sent k (λ g. g.node) l e (rw (inside, near, listed ∙ some) refl)

    module _ (unlisted : o ≡ None) where
      none : label_for a to.node ≡ None
      none = listed ∙ unlisted

      entries : AreEntriesOf a p.3 p.4
      entries = entries_of a spelled.fits p (its_parts bytes a p spelled found)

      pub homeless : to.home ≡ None → Some (Err Unreachable) ≡ Some (launched a to)
      homeless no_home = rw (inside, near, none, no_home) refl

      pub no_tree : (home : Home) → to.home ≡ Some home → (DoRise p.4 p.3 → (i : ℕ) → i < p.3 → root_of p.4 i ≡ home.landmark → ⊥) → Some (Err Unreachable) ≡ Some (launched a to)
      no_tree home at missing =
          let no_entry : entry_for a home.landmark ≡ None = entries.none home.landmark (missing entries.rise) in
          rw (inside, near, none, at, no_entry) refl

      pub by_home : (home : Home) (place : ℕ) (k : Packet) → to.home ≡ Some home → place < p.3 → root_of p.4 place ≡ home.landmark
          → k ≡ record { generation = h.generation; destination = to.node; root = home.landmark; label = home.label; hops_left = h.nodes - 1 } → Some (Ok k) ≡ Some (launched a to)
      by_home home place k at l root e = sent k (λ g. home.landmark) home.label e (rw (inside, near, none, at, (entries.at place home.landmark l root).there) refl)
