-- What the steps of a whole write leave.
use Rattle.std.proofs.Common.{◌≡◌, ◌≢◌, inl, inr, ⊎_elim, ℕ, zero, suc, ◌+◌, ◌-◌, ◌<◌, ◌≤◌, List, [], length, get_or, take, drop, replicate, Some, refl, sym, ◌∙◌, ap, subst, arith, add-zero, lit<, lit≤, get_or-drop}
use Rattle.std.specs.FinMap.{get, len-entries}
use Rattle.std.specs.List.{AllByRecursion}
use Rattle.std.specs.Prelude.{Result, Ok, Err, OnOk, IsTrue, false}
use Rattle.std.proofs.lemmas.Bool.{cases_eq}
use Rattle.std.proofs.lemmas.List.{take-take, take_at, drop_at, drop-take, get_or-replicate}
use Rattle.disk_trait.specs.Disk.{DiskView, MayLeave, IsSettled, LeavesOnly, weaker, joined, Torn, IsTornFrom, HasTextBehind, IsPublishing, IsPublished, bytes_at}
use Rattle.disk_trait.specs.Places.{below, byte_above, byte_below, byte_of, wider}
use Rattle.graph_edits.specs.Edges.{Network, IsSound, most_edges, weight_in}
use Rattle.graph_edits.proofs.EdgeRows.{pair_in_order}
use Rattle.layout_2.specs.Layout.{worn_limit, checkpoint_room, device_len, header, journal_start, sessions, slot_room, slot_start, slots_start}
use Rattle.layout_2.specs.State.{State, state_with, checkpoint_text, IsEdge, IsLawful, AreTickets}
use Rattle.layout_2.specs.Standing.{StandsFor, StandsForNone}
use Rattle.layout_2.proofs.Texts.{text_fits}
use Rattle.layout_2.proofs.Folds.{after-nil}
use Rattle.layout_2.specs.Records.{entries_of}
use Rattle.checkpoint.specs.declared.store.Store.{Store}
use Rattle.checkpoint.specs.StoreWords.{is_down, state_of, view_of}
use Rattle.checkpoint.specs.Rolling.{area_text, padding}
use Rattle.checkpoint.proofs.Turns.{sound_after}
use Rattle.checkpoint.specs.Written.{HoldsFresh}
use Rattle.checkpoint.specs.Whole.{IsFreshWith, IsForeign, IsAllForeign, IsShut, IsWritten, IsWriting, StandsForNoneOr}

-- ---- what an image stands for

pub foreign_none : (image : List ℕ) → IsForeign image → StandsForNone image
foreign_none image foreign state is =
    let front : (n : ℕ) → n ≤ 10 → bytes_at image 0 n ≡ take n (header is.base.graph.nodes) = λ n le. sym (take-take n 10 image le) ∙ ap (take n) is.by.head in
    foreign ((omega (arith, is.by.as_long), front 6 (lit≤ tt)), sym (drop-take 6 2 image) ∙ ap (drop 6) (front 8 (lit≤ tt)))

pub shut_none : (image : List ℕ) → IsShut image → StandsForNone image
shut_none image shut state is = by is.slot is.is_slot is.by.gate
  where
    by : (slot : ℕ) → slot < 2 → get_or image (slot_start slot) 0 ≡ 1 → ⊥
    by zero _ is_open = shut.0 is_open
    by (suc zero) _ is_open = shut.1 is_open
    by (suc (suc k)) lt _ = absurd (omega (arith, lt))

-- a graph's network is within the limits
lawful_of : (g : Network) → IsSound g → IsLawful g
lawful_of g sound = record {
  some_nodes = sound.nodes_fit.0;
  few_nodes = sound.nodes_fit.1;
  few_edges = subst (λ k. k ≤ most_edges) (len-entries g.edges) sound.edges_fit;
  each = λ pair weight is. edge pair.0 pair.1 weight is;
}
  where
    edge : (a b w : ℕ) → get g.edges (a, b) ≡ Some w → IsEdge g.nodes ((a, b), w)
    edge a b w is =
        let lt = sound.ordered a b w is in
        let there : weight_in g a b ≡ Some w = ap (get g.edges) (pair_in_order a b lt) ∙ is in
        (lt, (sound.within a b w there).1, (sound.weighted a b w there).0, (sound.weighted a b w there).1)

pub no_tickets : AreTickets (replicate sessions 0)
no_tickets = record { wide = refl; fit = zeros sessions }
  where
    zeros : (n : ℕ) → AllByRecursion (λ ticket. ticket ≤ worn_limit) (replicate n 0)
    zeros zero = tt
    zeros (suc n) = (omega arith, zeros n)

-- the last tickets of a store that is up are those of a state, if its device keeps the model
pub are_tickets : {D : Type 0} {V : _} → (s : Store D V) → IsTrue (view_of s).keeps_model → is_down s ≡ false → MayLeave (view_of s) (view_of s).content → AreTickets s.tickets
are_tickets s model up present =
    let kept = s.kept model up in
    let base = state_with s.base_count.value s.base.value s.base_tickets.value in
    sound_after base (state_of s) (entries_of s.journal.groups) kept.folds kept.in_turn (kept.each (view_of s).content present).stands.tickets

module _ (state : State) (sound : IsSound state.graph) (are : AreTickets state.tickets) (fits : state.count ≤ worn_limit) (text : List ℕ) (is : IsLawful state.graph → text ≡ area_text 1 state) where
  abbrev graph : Network
  graph = state.graph

  abbrev size : ℕ
  size = length (checkpoint_text 1 state)

  lawful : IsLawful graph
  lawful = lawful_of graph sound

  room : size < checkpoint_room
  room = text_fits 1 state are.wide lawful

  front : take size text ≡ checkpoint_text 1 state
  front = ap (take size) (is lawful) ∙ take_at (checkpoint_text 1 state) (padding (checkpoint_text 1 state)) size refl

  last : get_or text 528383 1 ≡ 0
  last =
      ap (λ (l : List ℕ). get_or l 528383 1) (is lawful)
      ∙ ap (λ k. get_or (area_text 1 state) k 1) (let e : 528383 ≡ size + (528383 - size) = omega (arith, room) in e)
      ∙ sym (get_or-drop size (area_text 1 state) (528383 - size) 1)
      ∙ ap (λ (l : List ℕ). get_or l (528383 - size) 1) (drop_at (checkpoint_text 1 state) (padding (checkpoint_text 1 state)) size refl)
      ∙ get_or-replicate (checkpoint_room - size) (528383 - size) 0 1 (omega (arith, room))

  last_byte : (image : List ℕ) → IsWritten graph.nodes text image → get_or image (journal_start 0) 1 ≡ 0
  last_byte image w =
      ap (λ k. get_or image k 1) (omega arith)
      ∙ sym (byte_of image (slot_start 0 + 1) checkpoint_room 528383 1 (omega arith))
      ∙ ap (λ (l : List ℕ). get_or l 528383 1) w.behind ∙ last

  pub written_fresh : (image : List ℕ) → IsWritten graph.nodes text image → IsFreshWith state image
  written_fresh image w = record {
    first = record {
      as_long = w.as_long;
      head = w.head;
      gate = w.gate;
      text = sym (take-take size checkpoint_room (drop (slot_start 0 + 1) image) (omega (arith, room))) ∙ ap (take size) w.behind ∙ front;
      lawful = lawful;
      tickets = are;
      epoch_fits = lit≤ tt;
      older = λ is_open. absurd (w.other is_open);
      records = record {
        each = tt;
        open_records = refl;
        gate = λ one. let clash : 0 ≡ 1 = sym (last_byte image w) ∙ ap (λ k. get_or image k 1) (sym (add-zero (journal_start 0))) ∙ one in omega arith;
        within = lit< tt;
      };
    };
    second = w.other;
  }

  pub written_stands : (image : List ℕ) → IsWritten graph.nodes text image → StandsFor state image
  written_stands image w = record {
    slot = 0;
    epoch = 1;
    base = state;
    groups = [];
    is_slot = omega arith;
    by = (written_fresh image w).first;
    folds = after-nil state;
    in_turn = (tt, tt);
    count_fits = fits;
  }

  pub writing_stands : (image : List ℕ) → IsWriting graph.nodes text image → StandsForNoneOr state image
  writing_stands image (inl foreign) = inl (foreign_none image foreign)
  writing_stands image (inr (inl shut)) = inl (shut_none image shut)
  writing_stands image (inr (inr w)) = inr (written_stands image w)

  pub holds_fresh : (disk : DiskView) → ((image : List ℕ) → MayLeave disk image → IsWritten graph.nodes text image) → MayLeave disk disk.content → HoldsFresh state disk
  holds_fresh disk written present = record {
    stands = written_stands disk.content (written disk.content present);
    left = λ image left. written_stands image (written image left);
    fresh = written_fresh disk.content (written disk.content present);
    fresh_left = λ image left. written_fresh image (written image left);
  }

-- ---- the gates are closed

torn_wider : (v : DiskView) (at image_at : ℕ) → at ≤ image_at → image_at + 1 ≤ at + (slot_room + 1) → (image : List ℕ) → IsTornFrom v image_at 1 image → IsTornFrom v at (slot_room + 1) image
torn_wider v at image_at low high image t = (t.0, t.1, wider t.0 image image_at 1 at (slot_room + 1) t.2 low high)

torn_on : (v0 v1 v2 : List ℕ) (at n : ℕ) → Torn at n v0 v1 → Torn at n v1 v2 → Torn at n v0 v2
torn_on v0 v1 v2 at n a b = record { as_long = b.as_long ∙ a.as_long; before = b.before ∙ a.before; after = b.after ∙ a.after }

pub first_shut : (v0 v1 : DiskView) → LeavesOnly v0 v1 (IsTornFrom v0 slots_start 1) → LeavesOnly v0 v1 (IsTornFrom v0 slots_start (slot_room + 1))
first_shut v0 v1 run = weaker v0 v1 (IsTornFrom v0 slots_start 1) (IsTornFrom v0 slots_start (slot_room + 1)) run (torn_wider v0 slots_start slots_start (omega arith) (omega arith))

pub both_shut : (v0 v1 v2 : DiskView) → LeavesOnly v0 v1 (IsTornFrom v0 slots_start 1) → LeavesOnly v1 v2 (IsTornFrom v1 (slot_start 1) 1) → LeavesOnly v0 v2 (IsTornFrom v0 slots_start (slot_room + 1))
both_shut v0 v1 v2 first second =
    joined v0 v1 v2 (IsTornFrom v0 slots_start 1) (IsTornFrom v1 (slot_start 1) 1) (IsTornFrom v0 slots_start (slot_room + 1)) first second
    (torn_wider v0 slots_start slots_start (omega arith) (omega arith))
    (λ image t.
    let from = torn_wider v0 slots_start slots_start (omega arith) (omega arith) t.0 (first.now t.0 t.1) in
    (from.0, from.1, torn_on from.0 t.0 image slots_start (slot_room + 1) from.2 (wider t.0 image (slot_start 1) 1 slots_start (slot_room + 1) t.2 (omega arith) (omega arith))))

closed_gate : (image : List ℕ) (gate : ℕ) → get_or image gate 0 ≡ 0 → get_or image gate 0 ≢ 1
closed_gate image gate none one = omega (arith, none, one)

pub all_shut : (v1 v2 : DiskView) → ((image : List ℕ) → MayLeave v1 image → get_or image (slot_start 0) 0 ≡ 0) → LeavesOnly v1 v2 (IsTornFrom v1 (slot_start 1) 1)
    → ((image : List ℕ) → MayLeave v2 image → get_or image (slot_start 1) 0 ≡ 0) → (image : List ℕ) → MayLeave v2 image → IsShut image
all_shut v1 v2 first run second image left =
    let t = run.now image left in (
      closed_gate image (slot_start 0) (byte_below t.0 image (slot_start 1) 1 (slot_start 0) 0 t.2 (omega arith) ∙ first t.0 t.1),
      closed_gate image (slot_start 1) (second image left),
    )

-- ---- the header, and the text behind the first gate

-- what is torn behind the front leaves the front
still_foreign : (old new : List ℕ) (at n : ℕ) → Torn at n old new → 10 ≤ at → IsForeign old → IsForeign new
still_foreign old new at n torn high foreign has = foreign (
  (subst (λ k. 10 ≤ k) torn.as_long has.0.0, sym (below old new at n 0 6 torn (omega (arith, high))) ∙ has.0.1),
  sym (below old new at n 6 2 torn (omega (arith, high))) ∙ has.1,
)

-- what is torn below the slots, or behind the first gate, leaves the gates
still_shut_below : (old new : List ℕ) (n : ℕ) → Torn 0 n old new → n ≤ slots_start → IsShut old → IsShut new
still_shut_below old new n torn low shut = (
  λ one. shut.0 (sym (byte_above old new 0 n (slot_start 0) 0 torn (omega (arith, low))) ∙ one),
  λ one. shut.1 (sym (byte_above old new 0 n (slot_start 1) 0 torn (omega (arith, low))) ∙ one),
)

still_shut_behind : (old new : List ℕ) (n : ℕ) → Torn (slot_start 0 + 1) n old new → n ≤ checkpoint_room → IsShut old → IsShut new
still_shut_behind old new n torn low shut = (
  λ one. shut.0 (sym (byte_below old new (slot_start 0 + 1) n (slot_start 0) 0 torn (omega arith)) ∙ one),
  λ one. shut.1 (sym (byte_above old new (slot_start 0 + 1) n (slot_start 1) 0 torn (omega (arith, low))) ∙ one),
)

module _ (nodes : ℕ) (text : List ℕ) (size : length text ≡ checkpoint_room) where
  module _ (v0 v1 : DiskView) (foreign : IsAllForeign v0) (shutting : LeavesOnly v0 v1 (IsTornFrom v0 slots_start (slot_room + 1))) where
    torn_foreign : (image : List ℕ) → IsTornFrom v0 slots_start (slot_room + 1) image → IsWriting nodes text image
    torn_foreign image t = inl (still_foreign t.0 image slots_start (slot_room + 1) t.2 (omega arith) (foreign t.0 t.1))

    pub while_shutting : LeavesOnly v0 v1 (IsWriting nodes text)
    while_shutting = weaker v0 v1 (IsTornFrom v0 slots_start (slot_room + 1)) (IsWriting nodes text) shutting torn_foreign

  module _ (v1 v2 : DiskView) (head : List ℕ) (is : head ≡ header nodes) (shut : (image : List ℕ) → MayLeave v1 image → IsShut image) (heading : LeavesOnly v1 v2 (IsTornFrom v1 0 (length head))) where
    torn_shut : (image : List ℕ) → IsTornFrom v1 0 (length head) image → IsShut image
    torn_shut image t = still_shut_below t.0 image (length head) t.2 (omega (arith, ap length is)) (shut t.0 t.1)

    pub still_shut : (image : List ℕ) → MayLeave v2 image → IsShut image
    still_shut image left = torn_shut image (heading.now image left)

    pub while_heading : LeavesOnly v1 v2 (IsWriting nodes text)
    while_heading = weaker v1 v2 (IsTornFrom v1 0 (length head)) (IsWriting nodes text) heading (λ image t. inr (inl (torn_shut image t)))

    module _ (long : length v2.content ≡ device_len) (settled : IsSettled v2) (there : bytes_at v2.content 0 (length head) ≡ head) where
      module _ (old image : List ℕ) (was : MayLeave v2 old) (shows : HasTextBehind (slot_start 0) text old image) where
        other_shut : get_or image (slot_start 1) 0 ≢ 1
        other_shut one = (still_shut old was).1 (sym (byte_above old image (slot_start 0) (length text + 1) (slot_start 1) 0 shows.torn (omega (arith, size))) ∙ one)

        head_there : bytes_at image 0 10 ≡ header nodes
        head_there =
            below old image (slot_start 0) (length text + 1) 0 10 shows.torn (omega arith)
            ∙ ap (λ (l : List ℕ). bytes_at l 0 10) (settled old was) ∙ ap (bytes_at v2.content 0) (sym (ap length is)) ∙ there ∙ is

        pub opened : get_or image (slot_start 0) 0 ≡ 1 → IsWritten nodes text image
        opened is_open = record {
          as_long = shows.torn.as_long ∙ ap length (settled old was) ∙ long;
          head = head_there;
          gate = is_open;
          behind = ap (bytes_at image (slot_start 0 + 1)) (sym size) ∙ shows.text;
          other = other_shut;
        }

        shown : IsWriting nodes text image
        shown = ⊎_elim (λ is_open. inr (inr (opened is_open))) (λ closed. inr (inl (closed, other_shut))) (cases_eq (get_or image (slot_start 0) 0) 1)

      publishing : (image : List ℕ) → IsPublishing v2 (slot_start 0) text image → IsWriting nodes text image
      publishing image from = ⊎_elim (λ torn. inr (inl (still_shut_behind from.0 image (length text) torn (omega (arith, size)) (still_shut from.0 from.1)))) (λ shows. shown from.0 image from.1 shows) from.2

      pub while_publishing : (v3 : DiskView) → LeavesOnly v2 v3 (IsPublishing v2 (slot_start 0) text) → LeavesOnly v2 v3 (IsWriting nodes text)
      while_publishing v3 run = weaker v2 v3 (IsPublishing v2 (slot_start 0) text) (IsWriting nodes text) run publishing

      pub all_written : (v3 : DiskView) → ((image : List ℕ) → MayLeave v3 image → IsPublished v2 (slot_start 0) text image) → (image : List ℕ) → MayLeave v3 image → IsWritten nodes text image
      all_written v3 shown image left = let from = shown image left in opened from.before image from.was from.shows from.is_open

-- a run after a run, while it is written
pub writing_on : (nodes : ℕ) (text : List ℕ) (v0 v1 v2 : DiskView) → LeavesOnly v0 v1 (IsWriting nodes text) → LeavesOnly v1 v2 (IsWriting nodes text) → LeavesOnly v0 v2 (IsWriting nodes text)
writing_on nodes text v0 v1 v2 first second = joined v0 v1 v2 (IsWriting nodes text) (IsWriting nodes text) (IsWriting nodes text) first second (λ image is. is) (λ image is. is)

-- what an Ok says, it says of what follows from it
pub ok_with : {T E : Type 0} {A B : Type 0} (r : Result T E) → OnOk r A → (A → B) → OnOk r B
ok_with (Ok x) a f = f a
ok_with (Err e) a f = tt
