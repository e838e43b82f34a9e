-- What an append leaves of a store.
use Rattle.std.proofs.Common.{◌≡◌, ◌⊎◌, inl, inr, ⊎_elim, ℕ, ◌+◌, ◌<◌, ◌≤◌, List, [], ◌∷◌, ◌++◌, false, IsTrue, refl, sym, ◌∙◌, subst, arith, Some}
use Rattle.layout_2.specs.Records.{Entry}
use Rattle.journal.specs.declared.area.Area.{Area}
use Rattle.journal.specs.JournalView.{JournalView}
use Rattle.disk_trait.specs.Disk.{DiskView, MayLeave, LeavesOnly, started, weaker}
use Rattle.layout_2.specs.Records.{AllSpell, IsBeforeOrAfter}
use Rattle.journal.specs.Records.{entries_of}
use Rattle.layout_2.specs.Layout.{worn_limit, slot_start, journal_of, journal_room, journal_start}
use Rattle.layout_reader.specs.Heads.{other}
use Rattle.layout_2.specs.State.{State, after, AreInTurn}
use Rattle.layout_2.specs.Standing.{StandsBy, StandsFor}
use Rattle.checkpoint.specs.declared.store.Store.{Store}
use Rattle.checkpoint.specs.Kept.{IsKept}
use Rattle.checkpoint.specs.StoreWords.{state_of, view_of, is_down, stands_now}
use Rattle.layout_2.proofs.Folds.{after-push}
use Rattle.checkpoint.proofs.Turns.{in_turn_push}
use Rattle.checkpoint.proofs.TornSlots.{apart, byte_apart, away, moved}

module _ (v0 : DiskView) (slot epoch other_gate : ℕ) (base state next : State) (groups : List (List Entry)) (group : List Entry) (is : slot < 2) (kept : IsKept v0 slot epoch other_gate base state groups) (goes : after state group ≡ Some next) (turns : AreInTurn state.tickets group) where
  stands : (t : State) (gs : List (List Entry)) (image : List ℕ) → after base (entries_of gs) ≡ Some t → AreInTurn base.tickets (entries_of gs) → t.count ≤ worn_limit → StandsBy slot epoch base gs image → StandsFor t image
  stands t gs image folds turn fits by = record { slot = slot; epoch = epoch; base = base; groups = gs; is_slot = is; by = by; folds = folds; in_turn = turn; count_fits = fits }

  folds_next : after base (entries_of (groups ++ group ∷ [])) ≡ Some next
  folds_next = after-push base state next groups group kept.folds goes

  turn_next : AreInTurn base.tickets (entries_of (groups ++ group ∷ []))
  turn_next = in_turn_push base state groups group kept.folds kept.in_turn turns

  pub either : state.count ≤ worn_limit → next.count ≤ worn_limit → (image : List ℕ) → IsBeforeOrAfter v0 (journal_of slot) groups group image → StandsFor state image ⊎ StandsFor next image
  either fits next_fits image left = ⊎_elim
      (λ spells. inl (stands state groups image kept.folds kept.in_turn fits (moved slot epoch base groups groups left.before image is (kept.each left.before left.was).stands left.elsewhere spells)))
      (λ spells. inr (stands next (groups ++ group ∷ []) image folds_next turn_next next_fits (moved slot epoch base groups (groups ++ group ∷ []) left.before image is (kept.each left.before left.was).stands left.elsewhere spells)))
      left.spells

  pub kept_next : (v1 : DiskView) → ((image : List ℕ) → MayLeave v1 image → IsBeforeOrAfter v0 (journal_of slot) groups group image) → AllSpell v1 (journal_of slot) (groups ++ group ∷ []) → IsKept v1 slot epoch other_gate base next (groups ++ group ∷ [])
  kept_next v1 from spells = record {
    each = λ image left.
        let was = from image left in
        let before = kept.each was.before was.was in
        record {
          stands = moved slot epoch base groups (groups ++ group ∷ []) was.before image is before.stands was.elsewhere (spells image left);
          closed = λ shut is_open. before.closed shut (sym (byte_apart was.before image (journal_start slot) journal_room (slot_start (other slot)) 0 was.elsewhere (away slot (slot_start (other slot)) 1 is (omega arith) (omega arith))) ∙ is_open);
          whole = λ is_open. rw (apart was.before image (journal_start slot) journal_room (slot_start (other slot) + 1) 8 was.elsewhere (away slot (slot_start (other slot) + 1) 8 is (omega arith) (omega arith))) (before.whole is_open);
        };
    folds = folds_next;
    in_turn = turn_next;
  }

-- so a store is kept once its journal has appended
pub kept_appended : (v0 v1 : DiskView) (old new : JournalView Entry) (slot epoch other_gate : ℕ) (base state next : State) (group : List Entry) → slot < 2 → old.area ≡ journal_of slot
    → IsKept v0 slot epoch other_gate base state old.groups → after state group ≡ Some next → AreInTurn state.tickets group → new.area ≡ old.area → new.groups ≡ old.groups ++ group ∷ []
    → (AllSpell v0 old.area old.groups → (image : List ℕ) → MayLeave v1 image → IsBeforeOrAfter v0 old.area old.groups group image) → (AllSpell v0 old.area old.groups → AllSpell v1 new.area new.groups)
    → IsKept v1 slot epoch other_gate base next new.groups
kept_appended v0 v1 old new slot epoch other_gate base state next group is area kept goes turns same_area grows leaves appends =
    let known : AllSpell v0 old.area old.groups = λ image left. rw area ((kept.each image left).stands.records) in
    let spells : AllSpell v1 (journal_of slot) (old.groups ++ group ∷ []) =
    subst (λ (a : Area). AllSpell v1 a (old.groups ++ group ∷ [])) (same_area ∙ area)
    (subst (λ (gs : List (List Entry)). AllSpell v1 new.area gs) grows (appends known)) in
    let from : (image : List ℕ) → MayLeave v1 image → IsBeforeOrAfter v0 (journal_of slot) old.groups group image = λ image left. rw area at (leaves known image left) in
    subst (λ (gs : List (List Entry)). IsKept v1 slot epoch other_gate base next gs) (sym grows) (kept_next v0 slot epoch other_gate base state next old.groups group is kept goes turns v1 from spells)

-- ---- of a store

module _ {D : Type 0} {V : _} (s : Store D V) (next : State) (group : List Entry) (model : IsTrue (view_of s).keeps_model) (up : is_down s ≡ false) where
  -- before any write
  pub not_begun : LeavesOnly (view_of s) (view_of s) (λ image. StandsFor (state_of s) image ⊎ StandsFor next image)
  not_begun = started (view_of s) (λ image. StandsFor (state_of s) image ⊎ StandsFor next image) (λ image left. inl (stands_now s model up image left))

  -- while its journal appends
  pub appending : (new : DiskView) → after (state_of s) group ≡ Some next → AreInTurn (state_of s).tickets group → next.count ≤ worn_limit
      → (AllSpell (view_of s) s.journal.area s.journal.groups → LeavesOnly (view_of s) new (IsBeforeOrAfter (view_of s) s.journal.area s.journal.groups group))
      → LeavesOnly (view_of s) new (λ image. StandsFor (state_of s) image ⊎ StandsFor next image)
  appending new goes turns fits run =
      let kept = s.kept model up in
      let area : s.journal.area ≡ journal_of s.slot = rw (s.at, s.room) refl in
      let known : AllSpell (view_of s) s.journal.area s.journal.groups = λ image left. rw area ((kept.each image left).stands.records) in
      weaker _ _ _ _ (run known) (λ image left. either (view_of s) s.slot s.epoch s.other_gate _ (state_of s) next s.journal.groups group s.two_slots kept goes turns s.fits fits image (subst (λ (a : Area). IsBeforeOrAfter (view_of s) a s.journal.groups group image) area left))
