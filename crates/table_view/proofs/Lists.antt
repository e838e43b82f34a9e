-- Lists in bytes, and whether they are in order.
use Rattle.std.proofs.Common.{◌≡◌, ℕ, zero, suc, ◌+◌, ◌-◌, ◌^◌, ◌<◌, ◌≤◌, false, List, [], ◌∷◌, ◌++◌, length, get_or, map, Option, Some, None, refl, sym, ap, subst, ◌∙◌, append-nil, arith, ◌↔◌}
use Rattle.std.specs.Prelude.{IsTrue}
use Rattle.std.specs.Int.{w16}
use Rattle.std.specs.List.{All, AllByRecursion}
use Rattle.std.proofs.lemmas.Bool.{false≢true}
use Rattle.std.proofs.lemmas.Option.{none-some, same_Some}
use Rattle.packet_bytes.specs.Spelling.{IsLabel}
use Rattle.byte_forms.specs.Forms.{FormOf, IsForm, list_text}
use Rattle.byte_forms.specs.FormLaws.{bind_some, list_is_form, u16_is_form}
use Rattle.byte_forms.specs.Reading.{number_at, items_at, list_at}
use Rattle.router_table.specs.declared.head.Head.{Head}
use Rattle.router_table.specs.EntryForm.{entry_at, entry_is_form}
use Rattle.router_table.specs.Items.{AreInOrder}
use Rattle.router_table.specs.MemberForm.{member_at, member_is_form}
use Rattle.router_table.specs.Order.{IsRecord, IsTable}
use Rattle.router_table.specs.Spelling.{entry_text, lists_text, member_text}
use Rattle.router_table.specs.Table.{Table}
use Rattle.router_table.proofs.Fits.{entries_fit, few_entries, few_members, few_ports, members_fit, ports_fit}
use Rattle.router_table.proofs.Searching.{next_rises}
use Rattle.table_view.specs.Listing.{AreEntriesIn, AreListsIn, AreMembersIn, ArePortsIn, IsListIn}

-- what isn't so is told as false
pub not_so : {X : Type 0} → (X → ⊥) → IsTrue false ↔ X
not_so none = (λ yes. absurd (false≢true yes), λ x. absurd (none x))

module _ {X : Type 0} (found : List ℕ → Option (X × List ℕ)) where
  -- the first of so many items that are read, and the others behind it
  pub next_of : (n : ℕ) (bytes : List ℕ) (xs : List X) (rest : List ℕ) → items_at found (suc n) bytes ≡ Some (xs, rest)
      → (x : X × List ℕ) × (others : List X) × (found bytes ≡ Some x) × (items_at found n x.1 ≡ Some (others, rest)) × (xs ≡ x.0 ∷ others)
  unfolding items_at
  next_of n bytes xs rest read =
      let a = bind_some (found bytes) _ (xs, rest) read in
      let b = bind_some (items_at found n a.0.1) _ (xs, rest) a.2 in
      let same = same_Some {A = List X × List ℕ} (a.0.0 ∷ b.0.0, b.0.1) (xs, rest) b.2 in
      (a.0, b.0.0, a.1, b.1 ∙ ap (λ (y : List X × List ℕ). Some (b.0.0, y.1)) same, sym (ap (λ (y : List X × List ℕ). y.0) same))

  items_many : (n : ℕ) (bytes : List ℕ) (xs : List X) (rest : List ℕ) → items_at found n bytes ≡ Some (xs, rest) → length xs ≡ n
  unfolding items_at
  items_many zero bytes xs rest read = sym (ap (λ (y : List X × List ℕ). length y.0) (same_Some {A = List X × List ℕ} ([], bytes) (xs, rest) read))
  items_many (suc n) bytes xs rest read = (let next = next_of n bytes xs rest read in ap (λ (ys : List X). length ys) next.4 ∙ ap suc (items_many n next.0.1 next.1 rest next.3))

module _ {X : Type 0} (found : List ℕ → Option (X × List ℕ)) (key : X → ℕ) (good : X → Type 0) (limit : ℕ) where
  -- ---- item by item

  -- items rise so from the least number that may come
  abbrev pub Rise : ℕ → List X → Type 0
  Rise least [] = Unit {0}
  Rise least (x ∷ xs) = (least ≤ key x) × (key x < limit) × good x × Rise (key x + 1) xs

  -- so many items are read that rise so
  pub record Are (least n : ℕ) (bytes rest : List ℕ) : Type 0 where
    pub items : List X
    pub read : items_at found n bytes ≡ Some (items, rest)
    pub rise : Rise least items

  -- the item that is found at the front is the first one
  first_is : (least m : ℕ) (bytes after rest : List ℕ) (x : X) → found bytes ≡ Some (x, after) → Are least (suc m) bytes rest → (least ≤ key x) × (key x < limit) × good x × Are (key x + 1) m after rest
  first_is least m bytes after rest x there is =
      let next = next_of found m bytes is.items rest is.read in
      let rise : Rise least (next.0.0 ∷ next.1) = subst (Rise least) next.4 is.rise in
      subst (λ (y : X × List ℕ). (least ≤ key y.0) × (key y.0 < limit) × good y.0 × Are (key y.0 + 1) m y.1 rest) (same_Some {A = X × List ℕ} next.0 (x, after) (sym next.2 ∙ there)) (rise.0, rise.1, rise.2, record { items = next.1; read = next.3; rise = rise.3 })

  none_first : (least m : ℕ) (bytes rest : List ℕ) → found bytes ≡ None → Are least (suc m) bytes rest → ⊥
  none_first least m bytes rest none is = (let next = next_of found m bytes is.items rest is.read in none-some next.0 (sym none ∙ next.2))

  one_more : (least m : ℕ) (bytes after rest : List ℕ) (x : X) → found bytes ≡ Some (x, after) → (least ≤ key x) × (key x < limit) × good x → Are (key x + 1) m after rest → Are least (suc m) bytes rest
  unfolding items_at
  one_more least m bytes after rest x there may is = record { items = x ∷ is.items; read = rw (there, is.read) refl; rise = (may.0, may.1, may.2, is.rise) }

  -- what is left to read stands for the whole list
  abbrev pub IsReading : ℕ → ℕ → ℕ → List ℕ → List ℕ → Type 0
  IsReading count counter least items bytes = (rest : List ℕ) → Are 0 count items rest ↔ Are least (count - counter) bytes rest

  pub at_first : (count : ℕ) (items : List ℕ) → IsReading count 0 0 items items
  at_first count items rest = (let e : count ≡ count - 0 = omega arith in subst (λ n. Are 0 count items rest ↔ Are 0 n items rest) e (λ all. all, λ all. all))

  module _ (count counter least : ℕ) (items bytes : List ℕ) (reading : IsReading count counter least items bytes) where
    those_left : counter < count → (rest : List ℕ) → Are 0 count items rest → Are least (suc (count - (counter + 1))) bytes rest
    those_left lt rest all = (let e : count - counter ≡ suc (count - (counter + 1)) = omega (arith, lt) in subst (λ n. Are least n bytes rest) e ((reading rest).0 all))

    pub ends : counter < count → found bytes ≡ None → (rest : List ℕ) → Are 0 count items rest → ⊥
    ends lt none rest all = none_first least (count - (counter + 1)) bytes rest none (those_left lt rest all)

    module _ (x : X) (after : List ℕ) (lt : counter < count) (read : found bytes ≡ Some (x, after)) where
      pub stops : ((least ≤ key x) × (key x < limit) × good x → ⊥) → (rest : List ℕ) → Are 0 count items rest → ⊥
      stops bad rest all = (let is = first_is least (count - (counter + 1)) bytes after rest x read (those_left lt rest all) in bad (is.0, is.1, is.2))

      pub goes_on : (least ≤ key x) × (key x < limit) × good x → IsReading count (counter + 1) (key x + 1) items after
      goes_on may rest =
          let e : count - counter ≡ suc (count - (counter + 1)) = omega (arith, lt) in (
            λ all. (first_is least (count - (counter + 1)) bytes after rest x read (those_left lt rest all)).3,
            λ more. (reading rest).1 (subst (λ n. Are least n bytes rest) (sym e) (one_more least (count - (counter + 1)) bytes after rest x read may more)),
          )

    pub is_done : count ≤ counter → Are 0 count items bytes
    unfolding items_at
    is_done le = (let none : count - counter ≡ 0 = omega (arith, le) in (reading bytes).1 (record { items = []; read = rw none refl; rise = tt }))

  -- ---- the list

  ascend_of : (least : ℕ) (xs : List X) → Rise least xs → (i : ℕ) → suc i < length (map key xs) → get_or (map key xs) i 0 < get_or (map key xs) (suc i) 0
  ascend_of least [] rise i lt = absurd (omega (arith, lt))
  ascend_of least (x ∷ []) rise i lt = absurd (omega (arith, lt))
  ascend_of least (x ∷ y ∷ ys) rise zero lt = omega (arith, rise.3.0)
  ascend_of least (x ∷ y ∷ ys) rise (suc i) lt = ascend_of (key x + 1) (y ∷ ys) rise.3 i (omega (arith, lt))

  all_of : (least : ℕ) (xs : List X) → Rise least xs → All (λ x. (key x < limit) × good x) xs
  all_of least [] rise k d lt = absurd (omega (arith, lt))
  all_of least (x ∷ xs) rise zero d lt = (rise.1, rise.2)
  all_of least (x ∷ xs) rise (suc k) d lt = all_of (key x + 1) xs rise.3 k d (omega (arith, lt))

  rise_of : (least : ℕ) (xs : List X) → ((d : X) → 0 < length xs → least ≤ key (get_or xs 0 d)) → ((i : ℕ) (d : X) → suc i < length xs → key (get_or xs i d) < key (get_or xs (suc i) d)) → All (λ x. key x < limit) xs → All good xs → Rise least xs
  rise_of least [] first up below ok = tt
  rise_of least (x ∷ xs) first up below ok = (
    first x (omega arith),
    below 0 x (omega arith),
    ok 0 x (omega arith),
    rise_of (key x + 1) xs (λ d lt. (let next = up 0 d (omega (arith, lt)) in omega (arith, next))) (λ i d lt. up (suc i) d (omega (arith, lt))) (λ k d lt. below (suc k) d (omega (arith, lt))) (λ k d lt. ok (suc k) d (omega (arith, lt))),
  )

  pub no_count : (bytes : List ℕ) → number_at w16 bytes ≡ None → (n : ℕ) (rest : List ℕ) → IsListIn found key good limit bytes n rest → ⊥
  unfolding list_at
  no_count bytes none n rest is = none-some (is.items, rest) (rw none at is.read)

  module _ (bytes : List ℕ) (count : ℕ) (items : List ℕ) (number : number_at w16 bytes ≡ Some (count, items)) where
    pub no_list : ((rest : List ℕ) → Are 0 count items rest → ⊥) → (n : ℕ) (rest : List ℕ) → IsListIn found key good limit bytes n rest → ⊥
    unfolding list_at
    no_list none n rest is = none rest (record {
      items = is.items;
      read = rw number at is.read;
      rise = rise_of 0 is.items (λ d lt. omega arith) (λ i d lt. (
          let e : i + 1 ≡ suc i = omega arith in
          subst (λ j. key (get_or is.items i d) < key (get_or is.items j d)) e (next_rises key 0 is.items is.order.ascend i d (omega (arith, lt))))) is.order.below is.each;
    })

    pub a_list : (rest : List ℕ) → Are 0 count items rest → IsListIn found key good limit bytes count rest
    unfolding list_at
    a_list rest all = record {
      items = all.items;
      read = rw number all.read;
      many = items_many found count items all.items rest all.read;
      order = record {
        ascend = λ i lt. (
            let e : suc i ≡ i + 1 = omega arith in
            subst (λ j. get_or (map key all.items) i 0 < get_or (map key all.items) j 0) e (ascend_of 0 all.items all.rise i (omega (arith, lt))));
        below = λ k d lt. (all_of 0 all.items all.rise k d lt).0;
      };
      each = λ k d lt. (all_of 0 all.items all.rise k d lt).1;
    }

  -- two readings of one list
  pub one_list : (bytes : List ℕ) (n m : ℕ) (s t : List ℕ) → IsListIn found key good limit bytes n s → IsListIn found key good limit bytes m t → (n ≡ m) × (s ≡ t)
  one_list bytes n m s t a b =
      let same = same_Some {A = List X × List ℕ} (a.items, s) (b.items, t) (sym a.read ∙ b.read) in
      (sym a.many ∙ ap (λ (y : List X × List ℕ). length y.0) same ∙ b.many, ap (λ (y : List X × List ℕ). y.1) same)

-- ---- the text of a list in order

list_in_text : {X : Type 0} {form : FormOf X} (is_form : IsForm form) (key : X → ℕ) (good : X → Type 0) (limit : ℕ) (xs : List X) (rest : List ℕ) → length xs < 2 ^ 16 → AllByRecursion form.Fits xs → AreInOrder key limit xs → All good xs
    → IsListIn form.at key good limit (list_text form.text xs ++ rest) (length xs) rest
list_in_text is_form key good limit xs rest few fits order ok = record { items = xs; read = (list_is_form is_form).again xs rest (few, fits); many = refl; order = order; each = ok }

-- the lists of a table in order stand in their text
pub lists_in_text : (a : Table) → IsTable a → AreListsIn (lists_text a.ports a.entries a.directory) a.head
unfolding lists_text
lists_in_text a ok =
    let members = list_text member_text a.directory in
    record {
      port_count = length a.ports;
      entry_count = length a.entries;
      member_count = length a.directory;
      after_ports = list_text entry_text a.entries ++ members;
      after_entries = members;
      ports = list_in_text u16_is_form (λ port. port) (λ port. Unit {0}) a.head.nodes a.ports (list_text entry_text a.entries ++ members) (few_ports a ok) (ports_fit a ok) ok.lists.ports (λ k d lt. tt);
      entries = list_in_text entry_is_form (λ e. e.root) (λ e. IsRecord (length a.ports) e.tree_record) a.head.nodes a.entries members (few_entries a ok) (entries_fit a ok) ok.lists.entries ok.lists.records;
      members = subst (λ (t : List ℕ). AreMembersIn a.head.nodes t (length a.directory) []) (append-nil members)
          (list_in_text member_is_form (λ m. m.node) (λ m. IsLabel m.label) a.head.nodes a.directory [] (few_members a ok) (members_fit a ok) ok.lists.directory ok.lists.labels);
    }

-- where one list of a table ends the next one begins
module _ (bytes : List ℕ) (h : Head) (count : ℕ) (rest : List ℕ) (ports : ArePortsIn h.nodes bytes count rest) (is : AreListsIn bytes h) where
  pub its_entries : AreEntriesIn h.nodes count rest is.entry_count is.after_entries
  its_entries =
      let same = one_list (number_at w16) (λ port. port) (λ port. Unit {0}) h.nodes bytes is.port_count count is.after_ports rest is.ports ports in
      subst (λ (n : ℕ). AreEntriesIn h.nodes n rest is.entry_count is.after_entries) same.0 (subst (λ (t : List ℕ). AreEntriesIn h.nodes is.port_count t is.entry_count is.after_entries) same.1 is.entries)

  module _ (entry_count : ℕ) (after : List ℕ) (entries : AreEntriesIn h.nodes count rest entry_count after) where
    pub its_members : AreMembersIn h.nodes after is.member_count []
    its_members =
        let same = one_list entry_at (λ e. e.root) (λ e. IsRecord count e.tree_record) h.nodes rest is.entry_count entry_count is.after_entries after its_entries entries in
        subst (λ (t : List ℕ). AreMembersIn h.nodes t is.member_count []) same.1 is.members

    pub nothing_left : (member_count : ℕ) (last : List ℕ) → AreMembersIn h.nodes after member_count last → length last ≡ 0
    nothing_left member_count last members = ap length (one_list member_at (λ m. m.node) (λ m. IsLabel m.label) h.nodes after member_count is.member_count last [] members its_members).1
