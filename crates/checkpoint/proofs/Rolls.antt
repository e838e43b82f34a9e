-- What the writes of a roll leave.
use Rattle.std.proofs.Common.{◌≡◌, ◌≢◌, ⊎_elim, ℕ, ◌+◌, ◌-◌, ◌<◌, ◌≤◌, List, [], ◌++◌, length, get_or, take, drop, refl, sym, ◌∙◌, ap, subst, arith, length-append, Option, None, Some, IsTrue, false, add-zero, lit<, get_or-drop}
use Rattle.std.proofs.lemmas.List.{take-take, take_at, take_all, drop_at, length-replicate, get_or-replicate}
use Rattle.std.proofs.lemmas.Nat.{from_be_bytes-to_be_bytes_8}
use Rattle.std.specs.Int.{w64, to_be_bytes}
use Rattle.std.proofs.lemmas.Bool.{cases_eq}
use Rattle.std.specs.Option.{option_map}
use Rattle.graph_edits.specs.Edges.{Network}
use Rattle.graph_edits.specs.Changes.{fold}
use Rattle.layout_2.specs.Records.{Entry}
use Rattle.journal.specs.Records.{entries_of}
use Rattle.disk_trait.specs.Disk.{DiskView, MayLeave, LeavesOnly, weaker, joined, Torn, HasTextBehind, IsPublishing, IsPublished, bytes_at}
use Rattle.disk_trait.specs.Places.{above, byte_below, byte_of, below}
use Rattle.checkpoint.specs.declared.store.Store.{Store}
use Rattle.checkpoint.specs.Kept.{IsKept}
use Rattle.checkpoint.specs.StoreWords.{state_of, view_of, is_down}
use Rattle.layout_2.specs.InUse.{IsInUse}
use Rattle.layout_2.specs.Layout.{worn_limit, checkpoint_room, slot_start, epoch_at, header, journal_start}
use Rattle.layout_reader.specs.Heads.{other}
use Rattle.requests.specs.Tickets.{sessions, tickets_after}
use Rattle.layout_2.specs.State.{State, state_with, changes_of, asked, checkpoint_text, after, IsLawful, AreInTurn, AreTickets}
use Rattle.layout_2.specs.Standing.{StandsBy, StandsFor}
use Rattle.checkpoint.specs.Rolling.{area_text, padding, IsClosing}
use Rattle.checkpoint.proofs.LawfulEdits.{lawful_after}
use Rattle.checkpoint.proofs.Turns.{sound_after}
use Rattle.layout_2.proofs.Texts.{text_fits, length_text}
use Rattle.layout_2.proofs.Folds.{after-nil, nodes_fold}
use Rattle.layout_reader.proofs.Results.{some_is}
use Rattle.checkpoint.proofs.TornSlots.{apart, slots_apart, stays}

-- requests keep the number of nodes
pub after_nodes : (s t : State) (requests : List Entry) → after s requests ≡ Some t → t.graph.nodes ≡ s.graph.nodes
after_nodes s t requests is = by (fold s.graph (changes_of requests)) refl is
  where
    made : Network → State
    made graph = state_with (s.count + length requests) graph (tickets_after s.tickets (asked requests))

    by : (o : Option Network) → fold s.graph (changes_of requests) ≡ o → option_map made o ≡ Some t → t.graph.nodes ≡ s.graph.nodes
    by None e f = absurd cc
    by (Some h) e f = ap (λ (u : State). u.graph.nodes) (sym (some_is (made h) t f)) ∙ nodes_fold s.graph h (changes_of requests) e

-- while the other gate is closed
pub while_closing : (disk : DiskView) (slot epoch other_gate : ℕ) (base state : State) (groups : List (List Entry)) → slot < 2 → IsKept disk slot epoch other_gate base state groups
    → (image : List ℕ) → IsClosing disk (slot_start (other slot)) other_gate image → StandsBy slot epoch base groups image
while_closing disk slot epoch other_gate base state groups is kept image closing = ⊎_elim
    (λ one.
    let from = closing.0 in
    let was = kept.each from.0 from.1 in
    stays slot epoch base groups from.0 image (slot_start (other slot)) 1 is was.stands from.2 (omega arith, omega arith)
    (λ _. rw (above from.0 image (slot_start (other slot)) 1 (slot_start (other slot) + 1) 8 from.2 (omega arith)) (was.whole one)))
    (λ shut. (kept.each image (closing.1 shut)).stands) (cases_eq other_gate 1)

-- once it is closed
pub is_closed : (disk : DiskView) (slot epoch other_gate : ℕ) (base state : State) (groups : List (List Entry)) → IsKept disk slot epoch other_gate base state groups
    → (image : List ℕ) → IsClosing disk (slot_start (other slot)) other_gate image → (other_gate ≡ 1 → get_or image (slot_start (other slot)) 0 ≡ 0) → get_or image (slot_start (other slot)) 0 ≢ 1
is_closed disk slot epoch other_gate base state groups kept image closing closed = ⊎_elim
    (λ one is_open. let clash : 0 ≡ 1 = sym (closed one) ∙ is_open in omega arith)
    (λ shut. (kept.each image (closing.1 shut)).closed shut) (cases_eq other_gate 1)

pub by_old : (slot epoch : ℕ) (base state : State) (groups : List (List Entry)) → slot < 2 → after base (entries_of groups) ≡ Some state → AreInTurn base.tickets (entries_of groups) → state.count ≤ worn_limit → (image : List ℕ) → StandsBy slot epoch base groups image → StandsFor state image
by_old slot epoch base state groups is folds turn fits image by = record { slot = slot; epoch = epoch; base = base; groups = groups; is_slot = is; by = by; folds = folds; in_turn = turn; count_fits = fits }

module _ (slot epoch : ℕ) (base state : State) (groups : List (List Entry)) (text : List ℕ) (is : slot < 2) (body : text ≡ area_text (epoch + 1) state) (lawful : IsLawful state.graph)
    (sound : AreTickets state.tickets) (epoch_fits : epoch + 1 ≤ worn_limit) (folds : after base (entries_of groups) ≡ Some state) (turn : AreInTurn base.tickets (entries_of groups)) (count_fits : state.count ≤ worn_limit) where
  abbrev gate : ℕ
  gate = slot_start (other slot)

  abbrev size : ℕ
  size = length (checkpoint_text (epoch + 1) state)

  room : size < checkpoint_room
  room = text_fits (epoch + 1) state sound.wide lawful

  long : length text ≡ checkpoint_room
  long = ap length body ∙ omega (arith, room, length-append (checkpoint_text (epoch + 1) state) (padding (checkpoint_text (epoch + 1) state)), length-replicate {A = ℕ} (checkpoint_room - size) 0)

  front : take size text ≡ checkpoint_text (epoch + 1) state
  front = ap (take size) body ∙ take_at (checkpoint_text (epoch + 1) state) (padding (checkpoint_text (epoch + 1) state)) size refl

  last : get_or text 528383 1 ≡ 0
  last =
      ap (λ (l : List ℕ). get_or l 528383 1) body
      ∙ ap (λ k. get_or (area_text (epoch + 1) state) k 1) (let e : 528383 ≡ size + (528383 - size) = omega (arith, room) in e)
      ∙ sym (get_or-drop size (area_text (epoch + 1) state) (528383 - size) 1)
      ∙ ap (λ (l : List ℕ). get_or l (528383 - size) 1) (drop_at (checkpoint_text (epoch + 1) state) (padding (checkpoint_text (epoch + 1) state)) size refl)
      ∙ get_or-replicate (checkpoint_room - size) (528383 - size) 0 1 (omega (arith, room))

  same_nodes : state.graph.nodes ≡ base.graph.nodes
  same_nodes = after_nodes base state (entries_of groups) folds

  abbrev IsOld : List ℕ → Type 0
  IsOld image = StandsBy slot epoch base groups image × (get_or image gate 0 ≢ 1)

  old_stands : (image : List ℕ) → StandsBy slot epoch base groups image → StandsFor state image
  old_stands = by_old slot epoch base state groups is folds turn count_fits

  -- behind the closed gate nothing counts
  behind : (old new : List ℕ) → IsOld old → Torn (gate + 1) (length text) old new → StandsBy slot epoch base groups new
  behind old new stands torn =
      stays slot epoch base groups old new (gate + 1) (length text) is stands.0 torn (omega arith, omega (arith, long))
      (λ is_open. absurd (stands.1 (sym (byte_below old new (gate + 1) (length text) gate 0 torn (omega arith)) ∙ is_open)))

  module _ (old new : List ℕ) (stands : IsOld old) (shows : HasTextBehind gate text old new) where
    -- with the gate closed the old slot counts
    shut : get_or new gate 0 ≢ 1 → StandsBy slot epoch base groups new
    shut closed = stays slot epoch base groups old new gate (length text + 1) is stands.0 shows.torn (omega arith, omega (arith, long)) (λ is_open. absurd (closed is_open))

    epoch_there : bytes_at new (slot_start slot + 1) 8 ≡ to_be_bytes w64 epoch
    epoch_there =
        let all = length (checkpoint_text epoch base) in
        apart old new gate (length text + 1) (slot_start slot + 1) 8 shows.torn (slots_apart slot gate (length text + 1) (slot_start slot + 1) 8 is (omega arith, omega (arith, long)) (omega arith, omega arith))
        ∙ sym (take-take 8 all (drop (slot_start slot + 1) old) (omega (arith, length_text epoch base stands.0.tickets.wide))) ∙ ap (take 8) stands.0.text

    older : epoch_at (other (other slot)) new < epoch + 1
    older =
        let back : slot ≡ other (other slot) = omega arith in
        subst (λ k. epoch_at k new < epoch + 1) back (rw epoch_there (omega (arith, from_be_bytes-to_be_bytes_8 epoch (omega (arith, epoch_fits)))))

    last_byte : get_or new (journal_start (other slot)) 1 ≡ 0
    last_byte =
        ap (λ k. get_or new k 1) (omega arith)
        ∙ sym (byte_of new (gate + 1) (length text) 528383 1 (omega (arith, long)))
        ∙ ap (λ (l : List ℕ). get_or l 528383 1) shows.text ∙ last

    -- with the gate open the new slot counts
    opened : get_or new gate 0 ≡ 1 → StandsBy (other slot) (epoch + 1) state [] new
    opened is_open = record {
      as_long = shows.torn.as_long ∙ stands.0.as_long;
      head = below old new gate (length text + 1) 0 10 shows.torn (omega arith) ∙ stands.0.head ∙ ap header (sym same_nodes);
      gate = is_open;
      text = sym (take-take size (length text) (drop (gate + 1) new) (omega (arith, long, room))) ∙ ap (take size) shows.text ∙ front;
      lawful = lawful;
      tickets = sound;
      epoch_fits = epoch_fits;
      older = λ _. older;
      records = record {
        each = tt;
        open_records = refl;
        gate = λ one. let clash : 0 ≡ 1 = sym last_byte ∙ ap (λ k. get_or new k 1) (sym (add-zero (journal_start (other slot)))) ∙ one in omega arith;
        within = lit< tt;
      };
    }

    published : StandsFor state new
    published = ⊎_elim
        (λ is_open. record { slot = other slot; epoch = epoch + 1; base = state; groups = []; is_slot = omega arith; by = opened is_open; folds = after-nil state; in_turn = (tt, tt); count_fits = count_fits })
        (λ closed. old_stands new (shut closed)) (cases_eq (get_or new gate 0) 1)

  -- while the new slot is published
  publishing : (disk : DiskView) → ((image : List ℕ) → MayLeave disk image → IsOld image) → (image : List ℕ) → IsPublishing disk gate text image → StandsFor state image
  publishing disk known image from = ⊎_elim (λ torn. old_stands image (behind from.0 image (known from.0 from.1) torn)) (λ shows. published from.0 image (known from.0 from.1) shows) from.2

  -- once it is, the new slot is in use, and the old one's gate is open
  in_use : (disk : DiskView) → ((image : List ℕ) → MayLeave disk image → IsOld image) → (image : List ℕ) → IsPublished disk gate text image → IsInUse (other slot) (epoch + 1) 1 state [] image
  in_use disk known image from =
      let old = known from.before from.was in
      record {
        stands = opened from.before image old from.shows from.is_open;
        closed = λ shut. absurd (shut refl);
        whole = λ _. older from.before image old from.shows;
      }

-- a checkpoint's text, padded
pub padded : (epoch : ℕ) (state : State) (old new : List ℕ) → length state.tickets ≡ sessions → IsLawful state.graph → old ≡ checkpoint_text epoch state → new ≡ take checkpoint_room old ++ padding old → new ≡ area_text epoch state
padded epoch state old new wide lawful is e =
    e ∙ ap (λ (l : List ℕ). take checkpoint_room l ++ padding l) is
    ∙ ap (λ (l : List ℕ). l ++ padding (checkpoint_text epoch state)) (take_all checkpoint_room (checkpoint_text epoch state) (omega (arith, text_fits epoch state wide lawful)))

-- a roll of a store: the other gate is closed up to v1, and then the text is published
module _ {D : Type 0} {V : _} (s : Store D V) (v1 : DiskView) (model : IsTrue (view_of s).keeps_model) (up : is_down s ≡ false) (closing : LeavesOnly (view_of s) v1 (IsClosing (view_of s) (slot_start (other s.slot)) s.other_gate)) where
  abbrev base : State
  base = state_with s.base_count.value s.base.value s.base_tickets.value

  abbrev kept : IsKept (view_of s) s.slot s.epoch s.other_gate base (state_of s) s.journal.groups
  kept = s.kept model up

  still_old : (image : List ℕ) → IsClosing (view_of s) (slot_start (other s.slot)) s.other_gate image → StandsBy s.slot s.epoch base s.journal.groups image
  still_old = while_closing (view_of s) s.slot s.epoch s.other_gate base (state_of s) s.journal.groups s.two_slots kept

  old_state : (image : List ℕ) → IsClosing (view_of s) (slot_start (other s.slot)) s.other_gate image → StandsFor (state_of s) image
  old_state image now = by_old s.slot s.epoch base (state_of s) s.journal.groups s.two_slots kept.folds kept.in_turn s.fits image (still_old image now)

  pub stands_closing : LeavesOnly (view_of s) v1 (StandsFor (state_of s))
  stands_closing = weaker (view_of s) v1 (IsClosing (view_of s) (slot_start (other s.slot)) s.other_gate) (StandsFor (state_of s)) closing old_state

  module _ (v2 : DiskView) (text : List ℕ) (body : IsLawful s.graph → text ≡ area_text (s.epoch + 1) (state_of s)) (epoch_fits : s.epoch + 1 ≤ worn_limit)
      (closed : s.other_gate ≡ 1 → (image : List ℕ) → MayLeave v1 image → get_or image (slot_start (other s.slot)) 0 ≡ 0) where
    known : (image : List ℕ) → MayLeave v1 image → StandsBy s.slot s.epoch base s.journal.groups image × (get_or image (slot_start (other s.slot)) 0 ≢ 1)
    known image left =
        let now = closing.now image left in
        (still_old image now, is_closed (view_of s) s.slot s.epoch s.other_gate base (state_of s) s.journal.groups kept image now (λ one. closed one image left))

    still_lawful : (image : List ℕ) → MayLeave v1 image → IsLawful s.graph
    still_lawful image left = lawful_after base (state_of s) (entries_of s.journal.groups) kept.folds (known image left).0.lawful

    still_sound : (image : List ℕ) → MayLeave v1 image → AreTickets s.tickets
    still_sound image left = sound_after base (state_of s) (entries_of s.journal.groups) kept.folds kept.in_turn (known image left).0.tickets

    pub stands_publishing : LeavesOnly v1 v2 (IsPublishing v1 (slot_start (other s.slot)) text) → LeavesOnly (view_of s) v2 (StandsFor (state_of s))
    stands_publishing run = joined (view_of s) v1 v2 (IsClosing (view_of s) (slot_start (other s.slot)) s.other_gate) (IsPublishing v1 (slot_start (other s.slot)) text) (StandsFor (state_of s)) closing run old_state
        (λ image from.
        let lawful = still_lawful from.0 from.1 in
        publishing s.slot s.epoch base (state_of s) s.journal.groups text s.two_slots (body lawful) lawful (still_sound from.0 from.1) epoch_fits kept.folds kept.in_turn s.fits v1 known image from)

    pub kept_rolled : ((image : List ℕ) → MayLeave v2 image → IsPublished v1 (slot_start (other s.slot)) text image) → IsKept v2 (other s.slot) (s.epoch + 1) 1 (state_of s) (state_of s) []
    kept_rolled shown = record {
      each = λ image left.
          let from = shown image left in
          let lawful = still_lawful from.before from.was in
          in_use s.slot s.epoch base (state_of s) s.journal.groups text s.two_slots (body lawful) lawful (still_sound from.before from.was) epoch_fits kept.folds kept.in_turn s.fits v1 known image from;
      folds = after-nil (state_of s);
      in_turn = (tt, tt);
    }
