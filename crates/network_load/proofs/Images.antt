-- The bytes of a device of which the front is written over.
use Rattle.std.proofs.Common.{◌≡◌, ◌≢◌, inl, ℕ, ◌+◌, ◌≤◌, List, [], ◌++◌, length, get_or, take, drop, sym, ◌∙◌, ap, ap₂, subst, arith, length-append, length-drop, append_assoc, lit≤}
use Rattle.std.specs.FinMap.{len, len-entries}
use Rattle.std.proofs.lemmas.List.{take_at, drop_at, drop-take, drop-drop, length-take-le}
use Rattle.disk_trait.specs.Disk.{Torn, bytes_at, overwritten}
use Rattle.disk_trait.specs.Places.{above, below, both, byte_above, byte_below, written}
use Rattle.graph_edits.specs.Edges.{Network, most_nodes}
use Rattle.layout_reader.specs.Heads.{head_text}
use Rattle.layout_2.specs.Layout.{device_len, header, journal_of, sessions, slot_start, worn_limit}
use Rattle.layout_2.specs.Records.{Spells, still_spells}
use Rattle.layout_2.specs.Standing.{StandsFor}
use Rattle.layout_2.specs.State.{AreTickets, IsEdge, IsLawful, State, checkpoint_text, edges_text, state_with, tickets_text}
use Rattle.layout_2.specs.TicketTexts.{tickets_wide}
use Rattle.layout_2.proofs.Folds.{after-nil}
use Rattle.checkpoint.specs.Whole.{IsFreshWith, without_tickets}
use Rattle.checkpoint.proofs.Wholes.{no_tickets}

-- a write tears its range alone
torn_by : (old bytes : List ℕ) (at : ℕ) → at + length bytes ≤ length old → Torn at (length bytes) old (overwritten old at bytes)
torn_by old bytes at fits =
    let front : length (take at old) ≡ at = length-take-le at old (omega arith) in
    record {
      as_long = omega (arith, length-append (take at old ++ bytes) (drop (at + length bytes) old), length-append (take at old) bytes, length-drop (at + length bytes) old, front);
      before = ap (take at) (append_assoc (take at old) bytes (drop (at + length bytes) old)) ∙ take_at (take at old) (bytes ++ drop (at + length bytes) old) at front;
      after = drop_at (take at old ++ bytes) (drop (at + length bytes) old) (at + length bytes) (omega (arith, length-append (take at old) bytes, front));
    }

-- both writes fit
pub room_for : (old head front : List ℕ) → length old ≡ device_len → length head ≡ 10 → length front ≡ 534 → 4097 + length front ≤ length (overwritten old 0 head)
room_for old head front long is_head is_front = omega (arith, long, is_head, is_front, (torn_by old head 0 (omega (arith, long, is_head))).as_long)

-- the front of a checkpoint's text, and its edges
abbrev pub front_with : ℕ → Network → List ℕ → List ℕ
front_with count g tickets = head_text 1 count g.nodes (len g.edges) ++ tickets_text tickets

text_is : (count : ℕ) (g : Network) (tickets : List ℕ) → checkpoint_text 1 (state_with count g tickets) ≡ front_with count g tickets ++ edges_text g.edges
text_is count g tickets =
    ap (λ n. head_text 1 count g.nodes n ++ (tickets_text tickets ++ edges_text g.edges)) (sym (len-entries g.edges))
    ∙ sym (append_assoc (head_text 1 count g.nodes (len g.edges)) (tickets_text tickets) (edges_text g.edges))

pub front_wide : (count : ℕ) (g : Network) (tickets : List ℕ) → length tickets ≡ sessions → length (front_with count g tickets) ≡ 534
front_wide count g tickets wide = omega (arith, length-append (head_text 1 count g.nodes (len g.edges)) (tickets_text tickets), tickets_wide tickets wide)

module _ (count nodes : ℕ) (g : Network) (tickets old head front : List ℕ) (was : IsFreshWith (without_tickets count g) old) (within : g.nodes ≤ nodes) (few : nodes ≤ most_nodes) (are : AreTickets tickets)
    (is_head : head ≡ header nodes) (is_front : front ≡ head_text 1 count nodes (len g.edges) ++ tickets_text tickets) where
  abbrev larger : Network
  larger = record { nodes = nodes; edges = g.edges }

  abbrev state : State
  state = state_with count larger tickets

  abbrev mid : List ℕ
  mid = overwritten old 0 head

  abbrev new : List ℕ
  new = overwritten mid 4097 front

  abbrev size : ℕ
  size = length (edges_text g.edges)

  lawful : IsLawful larger
  lawful = record {
    some_nodes = omega (arith, was.first.lawful.some_nodes, within);
    few_nodes = few;
    few_edges = was.first.lawful.few_edges;
    each = λ pair weight there. let edge : IsEdge g.nodes (pair, weight) = was.first.lawful.each pair weight there in (edge.0, omega (arith, edge.1, within), edge.2, edge.3);
  }

  wide_head : length head ≡ 10
  wide_head = ap length is_head

  wide_front : length front ≡ 534
  wide_front = ap length is_front ∙ front_wide count larger tickets are.wide

  wide_text : length (checkpoint_text 1 state) ≡ 534 + size
  wide_text = ap length (text_is count larger tickets) ∙ length-append (front_with count larger tickets) (edges_text g.edges) ∙ ap (λ n. n + size) (front_wide count larger tickets are.wide)

  torn_head : Torn 0 10 old mid
  torn_head = subst (λ n. Torn 0 n old mid) wide_head (torn_by old head 0 (omega (arith, wide_head, was.first.as_long)))

  torn_front : Torn 4097 534 mid new
  torn_front = subst (λ n. Torn 4097 n mid new) wide_front (torn_by mid front 4097 (omega (arith, wide_front, torn_head.as_long, was.first.as_long)))

  head_there : bytes_at new 0 10 ≡ header nodes
  head_there = below mid new 4097 534 0 10 torn_front (omega arith) ∙ ap (bytes_at mid 0) (sym wide_head) ∙ written old 0 head (omega arith) ∙ is_head

  gate_there : get_or new (slot_start 0) 0 ≡ 1
  gate_there = byte_below mid new 4097 534 (slot_start 0) 0 torn_front (omega arith) ∙ byte_above old mid 0 10 (slot_start 0) 0 torn_head (omega arith) ∙ was.first.gate

  other_there : get_or new (slot_start 1) 0 ≢ 1
  other_there one = was.second (sym (byte_above old mid 0 10 (slot_start 1) 0 torn_head (omega arith)) ∙ sym (byte_above mid new 4097 534 (slot_start 1) 0 torn_front (omega arith)) ∙ one)

  old_text : bytes_at old 4097 (534 + size) ≡ front_with count g (without_tickets count g).tickets ++ edges_text g.edges
  old_text =
      let wide : length (checkpoint_text 1 (without_tickets count g)) ≡ 534 + size = ap length (text_is count g (without_tickets count g).tickets) ∙ length-append (front_with count g (without_tickets count g).tickets) (edges_text g.edges) ∙ ap (λ n. n + size) (front_wide count g (without_tickets count g).tickets no_tickets.wide) in
      ap (bytes_at old 4097) (sym wide) ∙ was.first.text ∙ text_is count g (without_tickets count g).tickets

  old_edges : bytes_at old 4631 size ≡ edges_text g.edges
  old_edges =
      ap (take size) (sym (drop-drop 534 4097 old)) ∙ sym (drop-take 534 size (drop 4097 old)) ∙ ap (drop 534) old_text
      ∙ drop_at (front_with count g (without_tickets count g).tickets) (edges_text g.edges) 534 (front_wide count g (without_tickets count g).tickets no_tickets.wide)

  edges_there : bytes_at new 4631 size ≡ edges_text g.edges
  edges_there = above mid new 4097 534 4631 size torn_front (omega arith) ∙ above old mid 0 10 4631 size torn_head (omega arith) ∙ old_edges

  front_there : bytes_at new 4097 534 ≡ front_with count larger tickets
  front_there = ap (bytes_at new 4097) (sym wide_front) ∙ written mid 4097 front (omega (arith, torn_head.as_long, was.first.as_long)) ∙ is_front

  text_there : bytes_at new 4097 (length (checkpoint_text 1 state)) ≡ checkpoint_text 1 state
  text_there =
      ap (bytes_at new 4097) wide_text ∙ both new 4097 534 size
      ∙ ap₂ (λ (x y : List ℕ). x ++ y) front_there edges_there ∙ sym (text_is count larger tickets)

  spells_there : Spells (journal_of 0) [] new
  spells_there = still_spells (journal_of 0) [] mid new 4097 534 torn_front (inl (omega arith)) (still_spells (journal_of 0) [] old mid 0 10 torn_head (inl (omega arith)) was.first.records)

  pub fresh_with : IsFreshWith state new
  fresh_with = record {
    first = record {
      as_long = torn_front.as_long ∙ torn_head.as_long ∙ was.first.as_long;
      head = head_there;
      gate = gate_there;
      text = text_there;
      lawful = lawful;
      tickets = are;
      epoch_fits = lit≤ tt;
      older = λ is_open. absurd (other_there is_open);
      records = spells_there;
    };
    second = other_there;
  }

-- an image that is fresh stands for its state
pub fresh_stands : (state : State) (image : List ℕ) → state.count ≤ worn_limit → IsFreshWith state image → StandsFor state image
fresh_stands state image fits is = record {
  slot = 0;
  epoch = 1;
  base = state;
  groups = [];
  is_slot = omega arith;
  by = is.first;
  folds = after-nil state;
  in_turn = (tt, tt);
  count_fits = fits;
}
