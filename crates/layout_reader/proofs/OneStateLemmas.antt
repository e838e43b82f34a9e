-- An image stands for at most one state.
use Rattle.std.proofs.Common.{◌≡◌, ◌≢◌, inl, inr, ℕ, zero, suc, ◌+◌, ◌^◌, ◌<◌, ◌≤◌, List, ◌++◌, length, get_or, take, drop, Some, refl, sym, ◌∙◌, ap, subst, arith, append_assoc}
use Rattle.std.specs.Int.{w64, to_be_bytes, from_be_bytes}
use Rattle.std.specs.FinMap.{entries, same_entries_map}
use Rattle.std.proofs.lemmas.List.{take_at, drop_at, take-append-drop}
use Rattle.std.proofs.lemmas.Nat.{from_be_bytes-to_be_bytes_8}
use Rattle.std.proofs.lemmas.Bool.{cases_eq}
use Rattle.byte_forms.specs.FormLaws.{apart, items_is_form}
use Rattle.graph_edits.specs.Edges.{EdgeMap}
use Rattle.requests.specs.Tickets.{worn_limit}
use Rattle.journal.specs.Forms.{EntryForm}
use Rattle.journal.specs.Records.{Spells, entries_of}
use Rattle.journal.proofs.Lists.{one_list}
use Rattle.layout_reader.specs.Heads.{other}
use Rattle.layout_reader.specs.EdgeTexts.{edges_text}
use Rattle.layout_reader.specs.Sizes.{slot_start, journal_of, epoch_at}
use Rattle.layout_reader.specs.Forms.{LayoutForm, IsLayoutForm}
use Rattle.layout_reader.specs.State.{State, state_with, after, state_text, checkpoint_text, IsLawful}
use Rattle.layout_reader.specs.Standing.{StandsBy, StandsFor}
use Rattle.layout_reader.proofs.Codes.{Head, head_is_form, edge_is_form}
use Rattle.layout_reader.proofs.Results.{some_is}
use Rattle.layout_reader.proofs.Folds.{after_count}
use Rattle.layout_reader.proofs.Maps.{all_edges, edges_fit}

-- two different slots are each other's other
pub other_is : (i j : ℕ) → i < 2 → j < 2 → i ≢ j → j ≡ other i
other_is zero zero li lj differ = absurd (differ refl)
other_is zero (suc zero) li lj differ = refl
other_is (suc zero) zero li lj differ = refl
other_is (suc zero) (suc zero) li lj differ = absurd (differ refl)
other_is zero (suc (suc j)) li lj differ = absurd (omega (arith, lj))
other_is (suc zero) (suc (suc j)) li lj differ = absurd (omega (arith, lj))
other_is (suc (suc i)) j li lj differ = absurd (omega (arith, li))

-- what makes a state's text show where it ends
pub record IsBase {E T : Type 0} {F : EntryForm E} (form : LayoutForm F T) (state : State T) : Type 0 where
  pub count : state.count < 2 ^ 64
  pub lawful : IsLawful form.sizes state.graph
  pub tickets : form.AreTickets state.tickets

module _ {E T : Type 0} {F : EntryForm E} (form : LayoutForm F T) (laws : IsLayoutForm form) where
  -- the texts of tickets show where they end
  pub tickets_apart : (ts us : T) (x y : List ℕ) → form.AreTickets ts → form.AreTickets us → form.tickets_text ts ++ x ≡ form.tickets_text us ++ y → (ts ≡ us) × (x ≡ y)
  tickets_apart ts us x y are_t are_u same =
      let n = form.sizes.tickets_len in
      let t = form.tickets_text ts in
      let u = form.tickets_text us in
      let wide_t = laws.wide ts are_t in
      let wide_u = laws.wide us are_u in
      let text : t ≡ u = sym (take_at t x n wide_t) ∙ ap (take n) same ∙ take_at u y n wide_u in
      (laws.same ts us are_t are_u text, sym (drop_at t x n wide_t) ∙ ap (drop n) same ∙ drop_at u y n wide_u)

  -- a checkpoint's text shows epoch and state
  pub text_apart : (epoch later : ℕ) (s t : State T) (x y : List ℕ) → epoch < 2 ^ 64 → later < 2 ^ 64 → IsBase form s → IsBase form t → checkpoint_text form epoch s ++ x ≡ checkpoint_text form later t ++ y → (epoch ≡ later) × (s ≡ t)
  text_apart epoch later s t x y le ll is_s is_t same =
      let es = entries s.graph.edges in
      let fs = entries t.graph.edges in
      let text_s = edges_text s.graph.edges in
      let text_t = edges_text t.graph.edges in
      let few_s : s.graph.nodes < 2 ^ 16 = omega (arith, is_s.lawful.few_nodes, laws.fit.nodes) in
      let few_t : t.graph.nodes < 2 ^ 16 = omega (arith, is_t.lawful.few_nodes, laws.fit.nodes) in
      let head = apart head_is_form (epoch, (s.count, (s.graph.nodes, length es))) (later, (t.count, (t.graph.nodes, length fs))) ((form.tickets_text s.tickets ++ text_s) ++ x) ((form.tickets_text t.tickets ++ text_t) ++ y)
      (le, (is_s.count, (few_s, omega (arith, is_s.lawful.few_edges, laws.fit.edges)))) (ll, (is_t.count, (few_t, omega (arith, is_t.lawful.few_edges, laws.fit.edges)))) same in
      let tickets = tickets_apart s.tickets t.tickets (text_s ++ x) (text_t ++ y) is_s.tickets is_t.tickets (sym (append_assoc (form.tickets_text s.tickets) text_s x) ∙ head.1 ∙ append_assoc (form.tickets_text t.tickets) text_t y) in
      let all_s = edges_fit s.graph.nodes (omega (arith, few_s)) es (all_edges s.graph.nodes s.graph.edges is_s.lawful.each) in
      let all_t = edges_fit t.graph.nodes (omega (arith, few_t)) fs (all_edges t.graph.nodes t.graph.edges is_t.lawful.each) in
      let list : es ≡ fs = (apart (items_is_form edge_is_form (length fs)) es fs x y (ap (λ (h : Head). h.1.1.1) head.0, all_s) (refl, all_t) tickets.1).0 in
      let edges = same_entries_map s.graph.edges t.graph.edges list in
      let same_state : s ≡ t =
      ap (λ (h : Head). state_with h.1.0 (record { nodes = h.1.1.0; edges = s.graph.edges }) s.tickets) head.0
      ∙ ap (λ (m : EdgeMap). state_with t.count (record { nodes = t.graph.nodes; edges = m }) s.tickets) edges ∙ ap (λ (ts : T). state_with t.count t.graph ts) tickets.0 in
      (ap (λ (h : Head). h.0) head.0, same_state)

  module _ (slot epoch : ℕ) (base : State T) (groups : List (List E)) (image : List ℕ) (by : StandsBy form slot epoch base groups image) where
    pub behind : drop (slot_start form.sizes slot + 1) image ≡ checkpoint_text form epoch base ++ drop (length (checkpoint_text form epoch base)) (drop (slot_start form.sizes slot + 1) image)
    behind =
        let text = checkpoint_text form epoch base in
        sym (take-append-drop (length text) (drop (slot_start form.sizes slot + 1) image)) ∙ ap (λ (l : List ℕ). l ++ drop (length text) (drop (slot_start form.sizes slot + 1) image)) by.text

    pub epoch_there : epoch_at form.sizes slot image ≡ epoch
    epoch_there =
        let rest = drop (length (checkpoint_text form epoch base)) (drop (slot_start form.sizes slot + 1) image) in
        let behind_epoch = state_text form.tickets_text base in
        ap (from_be_bytes w64) (ap (take 8) (behind ∙ append_assoc (to_be_bytes w64 epoch) behind_epoch rest) ∙ take_at (to_be_bytes w64 epoch) (behind_epoch ++ rest) 8 refl) ∙ from_be_bytes-to_be_bytes_8 epoch (omega (arith, by.epoch_fits))

  module _ (slot epoch : ℕ) (base : State T) (groups : List (List E)) (slot' epoch' : ℕ) (base' : State T) (groups' : List (List E)) (image : List ℕ) (is : slot < 2) (is' : slot' < 2)
      (a : StandsBy form slot epoch base groups image) (b : StandsBy form slot' epoch' base' groups' image) where
    crossed : slot' ≡ other slot → slot ≡ other slot' → ⊥
    crossed is_b is_a =
        let first = a.older (ap (λ k. get_or image (slot_start form.sizes k) 0) (sym is_b) ∙ b.gate) in
        let second = b.older (ap (λ k. get_or image (slot_start form.sizes k) 0) (sym is_a) ∙ a.gate) in
        let eb = ap (λ k. epoch_at form.sizes k image) (sym is_b) ∙ epoch_there slot' epoch' base' groups' image b in
        let ea = ap (λ k. epoch_at form.sizes k image) (sym is_a) ∙ epoch_there slot epoch base groups image a in
        let less : epoch' < epoch = subst (λ k. k < epoch) eb first in
        let more : epoch < epoch' = subst (λ k. k < epoch') ea second in
        omega (arith, less, more)

    -- one slot is in use
    pub one_slot : slot ≡ slot'
    one_slot = elim (cases_eq slot slot') [
      | inl same ↦ same
      | inr different ↦ absurd (crossed (other_is slot slot' is is' different) (other_is slot' slot is' is (λ e. different (sym e))))
    ]

    -- with one checkpoint, and one list of records
    pub same_parts : base.count < 2 ^ 64 → base'.count < 2 ^ 64 → (base ≡ base') × (groups ≡ groups')
    same_parts fits fits' =
        let same = sym (behind slot epoch base groups image a) ∙ ap (λ k. drop (slot_start form.sizes k + 1) image) one_slot ∙ behind slot' epoch' base' groups' image b in
        let texts = text_apart epoch epoch' base base' _ _ (omega (arith, a.epoch_fits)) (omega (arith, b.epoch_fits)) (record { count = fits; lawful = a.lawful; tickets = a.tickets }) (record { count = fits'; lawful = b.lawful; tickets = b.tickets }) same in
        let records_b = subst (λ k. Spells F (journal_of form.sizes k) groups' image) (sym one_slot) b.records in
        (texts.1, one_list F laws.entries_form (journal_of form.sizes slot) groups groups' image a.records records_b)

  pub base_fits : (state : State T) (image : List ℕ) (is : StandsFor form state image) → is.base.count < 2 ^ 64
  base_fits state image is = let sum = after_count form is.base state (entries_of is.groups) is.folds in omega (arith, sum, is.count_fits)

  -- what stands there stands for nothing but what it leads to
  pub leads_to : (slot epoch : ℕ) (base : State T) (groups : List (List E)) (image : List ℕ) → slot < 2 → base.count ≤ worn_limit → StandsBy form slot epoch base groups image → (state : State T) → StandsFor form state image → after form base (entries_of groups) ≡ Some state
  leads_to slot epoch base groups image lt fits by state is =
      let same = same_parts slot epoch base groups is.slot is.epoch is.base is.groups image lt is.is_slot by is.by (omega (arith, fits)) (base_fits state image is) in
      ap (λ (u : State T). after form u (entries_of groups)) same.0 ∙ ap (λ gs. after form is.base (entries_of gs)) same.1 ∙ is.folds

  pub one_state : (s t : State T) (image : List ℕ) → StandsFor form s image → StandsFor form t image → s ≡ t
  one_state s t image a b =
      let first = leads_to a.slot a.epoch a.base a.groups image a.is_slot (let sum = after_count form a.base s (entries_of a.groups) a.folds in omega (arith, sum, a.count_fits)) a.by t b in
      some_is s t (sym a.folds ∙ first)
