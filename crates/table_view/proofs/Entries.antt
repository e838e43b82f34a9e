-- What the entries and the ports of a table are in bytes.
use Rattle.std.proofs.Common.{◌≡◌, ◌≢◌, ℕ, suc, ◌*◌, ◌<◌, List, [], ◌∷◌, ◌++◌, length, get_or, drop, Some, None, refl, sym, ap, ◌∙◌, subst, arith, inl, inr}
use Rattle.std.specs.Prelude.{slice_get}
use Rattle.std.specs.List.{flat_map}
use Rattle.std.proofs.lemmas.Bool.{cases_lt, le-ltb, lt-ltb}
use Rattle.std.proofs.lemmas.Option.{slice_get-get_or, slice_get_past}
use Rattle.router_table.specs.declared.tree_entry.TreeEntry.{TreeEntry}
use Rattle.router_table.specs.Order.{IsTable}
use Rattle.router_table.specs.Refusals.{entry_size}
use Rattle.router_table.specs.Spelling.{entry_text, number, record_text}
use Rattle.router_table.specs.Table.{Table, entry_for}
use Rattle.router_table.proofs.Fits.{few_ports, has_bytes}
use Rattle.router_table.specs.EntryForm.{EntryFits}
use Rattle.router_table.proofs.Searching.{first_at, none_at, rises}
use Rattle.byte_forms.specs.Reading.{u16_of}
use Rattle.table_view.specs.Parts.{DoRise, PartsOf, port_of, root_of}
use Rattle.router_table.proofs.FormTexts.{length_entry, length_number}
use Rattle.table_view.proofs.Places.{item_front, parts_text, u16_item}

-- the entry for a root, which stands at the front of these bytes
pub record IsEntryAt (a : Table) (root : ℕ) (bytes : List ℕ) : Type 0 where
  pub entry : TreeEntry
  pub there : entry_for a root ≡ Some entry
  pub behind : List ℕ
  pub text : bytes ≡ entry_text entry ++ behind
  pub fits : EntryFits entry

-- So many entries of a table: their roots rise, a root that stands nowhere has none, and where a root stands is its entry.
pub record AreEntriesOf (a : Table) (count : ℕ) (bytes : List ℕ) : Type 0 where
  pub rise : DoRise bytes count
  pub none : (root : ℕ) → ((i : ℕ) → i < count → root_of bytes i ≢ root) → entry_for a root ≡ None
  pub at : (place root : ℕ) → place < count → root_of bytes place ≡ root → IsEntryAt a root (drop (entry_size * place) bytes)

-- an item of a list that has one
some_of : {X : Type 0} (xs : List X) (i : ℕ) → i < length xs → X
some_of [] i lt = absurd (omega (arith, lt))
some_of (x ∷ xs) i lt = x

module _ (a : Table) (ok : IsTable a) where
  root_is : (i : ℕ) (d : TreeEntry) → i < length a.entries → root_of (flat_map entry_text a.entries) i ≡ (get_or a.entries i d).root
  root_is i d lt =
      let e = get_or a.entries i d in
      u16_item entry_text entry_size length_entry a.entries i d lt e.root (record_text e.tree_record) (omega (arith, ok.lists.entries.below i d lt, ok.head.nodes)) refl

  rises_by : (i j : ℕ) (d : TreeEntry) → i < j → j < length a.entries → (get_or a.entries i d).root < (get_or a.entries j d).root
  rises_by = rises (λ (e : TreeEntry). e.root) 0 a.entries ok.lists.entries.ascend

  all_entries : AreEntriesOf a (length a.entries) (flat_map entry_text a.entries)
  all_entries = record {
    rise = λ i j l lt. (
        let d = some_of a.entries j lt in
        omega (arith, root_is i d (omega (arith, l, lt)), root_is j d lt, rises_by i j d l lt));
    none = λ root missing. none_at (λ (e : TreeEntry). e.root) root a.entries (λ j d lt same. missing j lt (root_is j d lt ∙ same));
    at = λ place root lt is. (
        let d = some_of a.entries place lt in
        let key : (get_or a.entries place d).root ≡ root = sym (root_is place d lt) ∙ is in
        record {
          entry = get_or a.entries place d;
          there = first_at (λ (e : TreeEntry). e.root) root a.entries place d lt key (λ j l same. (let up = rises_by j place d l lt in omega (arith, up, key, same)));
          behind = flat_map entry_text (drop (suc place) a.entries);
          text = item_front entry_text entry_size length_entry a.entries place d lt;
          fits = (omega (arith, ok.lists.entries.below place d lt, ok.head.nodes), has_bytes (length a.ports) _ (omega (arith, few_ports a ok)) (ok.lists.records place d lt));
        });
  }

  all_ports : (q : ℕ) → port_of (flat_map number a.ports) (length a.ports) q ≡ slice_get a.ports q
  all_ports q = elim (cases_lt q (length a.ports)) [
    | inl lt ↦ (
        let port : u16_of (flat_map number a.ports) (2 * q) ≡ get_or a.ports q 0 = u16_item number 2 length_number a.ports q 0 lt (get_or a.ports q 0) [] (omega (arith, ok.lists.ports.below q 0 lt, ok.head.nodes)) refl in
        rw (lt-ltb q (length a.ports) lt, port) (sym (slice_get-get_or a.ports q 0 lt)))
    | inr le ↦ rw (le-ltb q (length a.ports) le) (sym (slice_get_past a.ports q le))
  ]

  module _ (p : PartsOf) (parts : p ≡ parts_text a) where
    pub entries_of : AreEntriesOf a p.3 p.4
    entries_of = subst (λ (q : PartsOf). AreEntriesOf a q.3 q.4) (sym parts) all_entries

    -- the neighbour behind a port
    pub port_out : (q : ℕ) → port_of p.2 p.1 q ≡ slice_get a.ports q
    port_out q = ap (λ (x : PartsOf). port_of x.2 x.1 q) parts ∙ all_ports q
