-- A checkpoint's text as its head, its tickets and its edges.
use Rattle.std.proofs.Common.{◌≡◌, ℕ, ◌+◌, ◌*◌, ◌^◌, ◌<◌, ◌≤◌, List, ◌++◌, length, take, drop, refl, sym, ◌∙◌, ap, subst, arith}
use Rattle.std.specs.Int.{w16, to_be_bytes, from_be_bytes}
use Rattle.std.specs.FinMap.{entries}
use Rattle.std.proofs.lemmas.List.{take_at, drop_at, take-take, drop-take, drop-drop}
use Rattle.std.proofs.lemmas.Nat.{from_be_bytes-to_be_bytes_2}
use Rattle.byte_forms.specs.FormLaws.{one_value}
use Rattle.disk_trait.specs.Disk.{bytes_at}
use Rattle.disk_trait.specs.Places.{both}
use Rattle.requests.specs.Tickets.{worn_limit}
use Rattle.journal.specs.Forms.{EntryForm}
use Rattle.journal.specs.Records.{entries_of}
use Rattle.layout_reader.specs.EdgeTexts.{edges_text}
use Rattle.layout_reader.specs.Heads.{head_text, HasHeadIn, IsNewestIn}
use Rattle.layout_reader.specs.Refusals.{version_of, header_with}
use Rattle.layout_reader.specs.Sizes.{slot_room, slot_start, header}
use Rattle.layout_reader.specs.Forms.{LayoutForm, IsLayoutForm}
use Rattle.layout_reader.specs.State.{State}
use Rattle.layout_reader.specs.Slots.{HasCheckpoint}
use Rattle.layout_reader.specs.Standing.{StandsBy, StandsFor}
use Rattle.layout_reader.proofs.Texts.{length_text}
use Rattle.layout_reader.proofs.Codes.{Head, head_is_form}
use Rattle.layout_reader.proofs.Folds.{after_count}
use Rattle.layout_reader.proofs.OneStateLemmas.{behind}
use Rattle.layout_reader.proofs.NewestLemmas.{same_slot}

-- how many edges
abbrev pub size_of : {T : Type 0} → State T → ℕ
size_of base = length (entries base.graph.edges)

abbrev pub own_head : {T : Type 0} → ℕ → State T → List ℕ
own_head epoch base = head_text epoch base.count base.graph.nodes (size_of base)

-- the numbers of a head are those of the checkpoint that stands there
pub record IsSameHead {T : Type 0} (epoch count nodes edges epoch' : ℕ) (base : State T) : Type 0 where
  pub same_epoch : epoch ≡ epoch'
  pub same_count : count ≡ base.count
  pub same_nodes : nodes ≡ base.graph.nodes
  pub same_edges : edges ≡ size_of base

-- the header tells the number of nodes
pub same_nodes : (digit n m : ℕ) (image : List ℕ) → n < 2 ^ 16 → m < 2 ^ 16 → bytes_at image 0 10 ≡ header_with (version_of digit) n → bytes_at image 0 10 ≡ header_with (version_of digit) m → n ≡ m
same_nodes digit n m image ln lm is_n is_m =
    let same : to_be_bytes w16 n ≡ to_be_bytes w16 m = ap (drop 8) (sym is_n ∙ is_m) in
    sym (from_be_bytes-to_be_bytes_2 n ln) ∙ ap (from_be_bytes w16) same ∙ from_be_bytes-to_be_bytes_2 m lm

module _ {E T : Type 0} {F : EntryForm E} (form : LayoutForm F T) (laws : IsLayoutForm form) where
  module _ (slot epoch' : ℕ) (base : State T) (groups : List (List E)) (image : List ℕ) (by : StandsBy form slot epoch' base groups image) where
    own_head_there : bytes_at image (slot_start form.sizes slot + 1) 22 ≡ own_head epoch' base
    own_head_there = ap (take 22) (behind form laws slot epoch' base groups image by) ∙ refl

    behind_head : bytes_at image (slot_start form.sizes slot + 23) (form.sizes.tickets_len + 8 * size_of base) ≡ form.tickets_text base.tickets ++ edges_text base.graph.edges
    behind_head =
        let n = form.sizes.tickets_len + 8 * size_of base in
        let start = slot_start form.sizes slot in
        let e = ap (λ k. bytes_at image (start + 1) k) (length_text form epoch' base (laws.wide base.tickets by.tickets)) ∙ both image (start + 1) 22 n in
        let all : bytes_at image (start + 1) 22 ++ bytes_at image (start + 1 + 22) n ≡ own_head epoch' base ++ (form.tickets_text base.tickets ++ edges_text base.graph.edges) = sym e ∙ by.text in
        ap (λ k. bytes_at image k n) (omega arith)
        ∙ sym (drop_at (bytes_at image (start + 1) 22) (bytes_at image (start + 1 + 22) n) 22 (ap length own_head_there))
        ∙ ap (drop 22) all

    pub tickets_there : bytes_at image (slot_start form.sizes slot + 23) form.sizes.tickets_len ≡ form.tickets_text base.tickets
    tickets_there =
        let n = form.sizes.tickets_len in
        sym (take-take n (n + 8 * size_of base) (drop (slot_start form.sizes slot + 23) image) (omega arith)) ∙ ap (take n) behind_head
        ∙ take_at (form.tickets_text base.tickets) (edges_text base.graph.edges) n (laws.wide base.tickets by.tickets)

    pub edges_there : bytes_at image (slot_start form.sizes slot + 23 + form.sizes.tickets_len) (8 * size_of base) ≡ edges_text base.graph.edges
    edges_there =
        let n = form.sizes.tickets_len in
        let from = slot_start form.sizes slot + 23 in
        ap (λ (l : List ℕ). take (8 * size_of base) l) (ap (λ k. drop k image) (omega arith) ∙ sym (drop-drop n from image))
        ∙ sym (drop-take n (8 * size_of base) (drop from image)) ∙ ap (drop n) behind_head
        ∙ drop_at (form.tickets_text base.tickets) (edges_text base.graph.edges) n (laws.wide base.tickets by.tickets)

    pub same_head : (gate epoch count nodes edges : ℕ) → epoch < 2 ^ 64 → count < 2 ^ 64 → nodes < 2 ^ 16 → edges < 2 ^ 32 → base.count < 2 ^ 64 → HasHeadIn (slot_room form.sizes) slot gate epoch count nodes edges image → IsSameHead epoch count nodes edges epoch' base
    same_head gate epoch count nodes edges le lc ln lm lb head =
        let same : head_text epoch count nodes edges ≡ own_head epoch' base = sym head.text ∙ own_head_there in
        let theirs : Head = (epoch, (count, (nodes, edges))) in
        let ours : Head = (epoch', (base.count, (base.graph.nodes, size_of base))) in
        let both : theirs ≡ ours = one_value head_is_form theirs ours (le, (lc, (ln, lm)))
        (omega (arith, by.epoch_fits), (lb, (omega (arith, by.lawful.few_nodes, laws.fit.nodes), omega (arith, by.lawful.few_edges, laws.fit.edges)))) same in
        record { same_epoch = ap (λ (h : Head). h.0) both; same_count = ap (λ (h : Head). h.1.0) both; same_nodes = ap (λ (h : Head). h.1.1.0) both; same_edges = ap (λ (h : Head). h.1.1.1) both }

  -- a head, tickets and edges behind it are a checkpoint's text
  pub has_text : (slot gate epoch : ℕ) (base : State T) (edges nodes : ℕ) (image : List ℕ) → HasHeadIn (slot_room form.sizes) slot gate epoch base.count nodes edges image → nodes ≡ base.graph.nodes → edges ≡ size_of base → form.AreTickets base.tickets
      → bytes_at image (slot_start form.sizes slot + 23) form.sizes.tickets_len ≡ form.tickets_text base.tickets → bytes_at image (slot_start form.sizes slot + 23 + form.sizes.tickets_len) (8 * edges) ≡ edges_text base.graph.edges → HasCheckpoint form slot epoch base image
  has_text slot gate epoch base edges nodes image head is_n is_m are tickets text =
      let w = form.sizes.tickets_len in
      let start = slot_start form.sizes slot in
      let n = 8 * size_of base in
      let ours : bytes_at image (start + 1) 22 ≡ own_head epoch base = head.text ∙ ap (λ k. head_text epoch base.count k edges) is_n ∙ ap (λ k. head_text epoch base.count base.graph.nodes k) is_m in
      let last : bytes_at image (start + 1 + 22 + w) n ≡ edges_text base.graph.edges =
      ap (λ k. bytes_at image k n) (omega arith) ∙ ap (λ k. bytes_at image (start + 23 + w) (8 * k)) (sym is_m) ∙ text in
      let first : bytes_at image (start + 1 + 22) w ≡ form.tickets_text base.tickets = ap (λ k. bytes_at image k w) (omega arith) ∙ tickets in
      ap (λ k. bytes_at image (start + 1) k) (length_text form epoch base (laws.wide base.tickets are)) ∙ both image (start + 1) 22 (w + n)
      ∙ ap (λ (l : List ℕ). l ++ bytes_at image (start + 1 + 22) (w + n)) ours
      ∙ ap (λ (l : List ℕ). own_head epoch base ++ l)
      (both image (start + 1 + 22) w n ∙ ap (λ (l : List ℕ). l ++ bytes_at image (start + 1 + 22 + w) n) first ∙ ap (λ (l : List ℕ). form.tickets_text base.tickets ++ l) last)

  module _ (slot other_gate gate epoch count nodes edges size : ℕ) (image : List ℕ) (lt : slot < 2) (newest : IsNewestIn (slot_room form.sizes) slot other_gate image) (head : HasHeadIn (slot_room form.sizes) slot gate epoch count nodes edges image)
      (le : epoch < 2 ^ 64) (lc : count < 2 ^ 64) (ln : nodes < 2 ^ 16) (lm : edges < 2 ^ 32)
      (few : size ≤ form.sizes.most_nodes) (front : bytes_at image 0 10 ≡ header form.sizes size) (state : State T) (is : StandsFor form state image) where
    by_here : StandsBy form slot is.epoch is.base is.groups image
    by_here = subst (λ k. StandsBy form k is.epoch is.base is.groups image) (same_slot form laws slot other_gate image lt newest state is) is.by

    small : is.base.count ≤ worn_limit
    small = let sum = after_count form is.base state (entries_of is.groups) is.folds in omega (arith, sum, is.count_fits)

    theirs : IsSameHead epoch count nodes edges is.epoch is.base
    theirs = same_head slot is.epoch is.base is.groups image by_here gate epoch count nodes edges le lc ln lm (omega (arith, small)) head

    pub their_nodes : is.base.graph.nodes ≡ size
    their_nodes = same_nodes form.sizes.digit is.base.graph.nodes size image (omega (arith, is.by.lawful.few_nodes, laws.fit.nodes)) (omega (arith, few, laws.fit.nodes)) is.by.head front

    -- the head of what stands there is sound
    pub sound_head : (epoch ≤ worn_limit) × (count ≤ worn_limit) × (nodes ≡ size) × (edges ≤ form.sizes.most_edges)
    sound_head = (
      omega (arith, theirs.same_epoch, is.by.epoch_fits),
      omega (arith, theirs.same_count, small),
      theirs.same_nodes ∙ their_nodes,
      omega (arith, theirs.same_edges, is.by.lawful.few_edges),
    )

    -- and so are its edges
    pub their_edges : bytes_at image (slot_start form.sizes slot + 23 + form.sizes.tickets_len) (8 * edges) ≡ edges_text is.base.graph.edges
    their_edges = ap (λ k. bytes_at image (slot_start form.sizes slot + 23 + form.sizes.tickets_len) (8 * k)) theirs.same_edges ∙ edges_there slot is.epoch is.base is.groups image by_here

    -- and its tickets
    pub their_tickets : form.tickets_text is.base.tickets ≡ bytes_at image (slot_start form.sizes slot + 23) form.sizes.tickets_len
    their_tickets = sym (tickets_there slot is.epoch is.base is.groups image by_here)
