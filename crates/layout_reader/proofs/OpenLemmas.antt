-- What is read of a device, and what it stands for.
use Rattle.std.proofs.Common.{◌≡◌, ℕ, ◌+◌, ◌<◌, ◌≤◌, List, length, Option, Some, None, refl, sym, ◌∙◌, ap, subst, arith}
use Rattle.std.specs.Option.{option_map}
use Rattle.graph_edits.specs.Edges.{Network}
use Rattle.graph_edits.specs.Changes.{fold_within}
use Rattle.requests.specs.Tickets.{worn_limit}
use Rattle.disk_trait.specs.Disk.{DiskView, OnlyRead}
use Rattle.journal.specs.Forms.{EntryForm}
use Rattle.journal.specs.Records.{Spells, entries_of}
use Rattle.journal.proofs.Lists.{one_list}
use Rattle.layout_reader.specs.Heads.{other}
use Rattle.layout_reader.specs.Sizes.{journal_of, epoch_at}
use Rattle.layout_reader.specs.Forms.{LayoutForm, IsLayoutForm}
use Rattle.layout_reader.specs.State.{State, state_with, changes_of, after}
use Rattle.layout_reader.specs.Standing.{StandsBy, StandsForNone, IsInUse}
use Rattle.layout_reader.specs.declared.refusals.OpenRefused.{OpenRefused}
use Rattle.layout_reader.specs.declared.refusals.OpenRefused.TheVariants.{NotFormatted, BadVersion, Damaged, Device, Memory}
use Rattle.layout_reader.specs.Refusals.{IsFormatFault}
use Rattle.layout_reader.specs.Slots.{HasBase, LeadsNowhere}
use Rattle.layout_reader.proofs.Folds.{after_count}
use Rattle.layout_reader.proofs.OneStateLemmas.{same_parts}
use Rattle.layout_reader.proofs.NewestLemmas.{same_slot}

-- the fault that is left
pub only_damaged : (P : Type 0) (e : OpenRefused) → IsFormatFault e → (e ≡ NotFormatted → ⊥) → (e ≡ BadVersion → ⊥) → (e ≡ Damaged → P) → P
only_damaged P NotFormatted fault first second third = absurd (first refl)
only_damaged P BadVersion fault first second third = absurd (second refl)
only_damaged P Damaged fault first second third = third refl
only_damaged P Device fault first second third = absurd fault
only_damaged P Memory fault first second third = absurd fault

module _ {E T : Type 0} {F : EntryForm E} (form : LayoutForm F T) where
  pub none_before : (a b : DiskView) → OnlyRead a b → StandsForNone form b.content → StandsForNone form a.content
  none_before a b read none = subst (λ (l : List ℕ). StandsForNone form l) read.content none

  module _ (slot epoch other_gate : ℕ) (base : State T) (image : List ℕ) (has : HasBase form slot epoch other_gate base image) where
    with_records : (groups : List (List E)) → Spells F (journal_of form.sizes slot) groups image → StandsBy form slot epoch base groups image
    with_records groups spells = record {
      as_long = has.as_long;
      head = has.head;
      gate = has.newest.is_open;
      text = has.text;
      lawful = has.lawful;
      tickets = has.tickets;
      epoch_fits = has.epoch_fits;
      older = λ is_open. subst (λ k. epoch_at form.sizes (other slot) image < k) has.epoch_there (has.newest.older (sym has.newest.other_is ∙ is_open));
      records = spells;
    }

    pub in_use : (groups : List (List E)) → Spells F (journal_of form.sizes slot) groups image → IsInUse form slot epoch other_gate base groups image
    in_use groups spells = record {
      stands = with_records groups spells;
      closed = λ shut is_open. shut (sym has.newest.other_is ∙ is_open);
      whole = λ is_open. subst (λ k. epoch_at form.sizes (other slot) image < k) has.epoch_there (has.newest.older is_open);
    }

    -- where no records lead on from the base, no state stands there
    pub nowhere : IsLayoutForm form → slot < 2 → base.count ≤ worn_limit → LeadsNowhere form slot base image → StandsForNone form image
    nowhere laws lt fits none state is =
        let here = same_slot form laws slot other_gate image lt has.newest state is in
        let spells : Spells F (journal_of form.sizes slot) is.groups image = subst (λ k. Spells F (journal_of form.sizes k) is.groups image) here is.by.records in
        let sum = after_count form is.base state (entries_of is.groups) is.folds in
        let same = same_parts form laws slot epoch base is.groups is.slot is.epoch is.base is.groups image lt is.is_slot (with_records is.groups spells) is.by (omega (arith, fits)) (omega (arith, sum, is.count_fits)) in
        none is.groups state spells (ap (λ (u : State T). after form u (entries_of is.groups)) same.0 ∙ is.folds) (subst (λ (u : State T). form.AreInTurn u.tickets (entries_of is.groups)) (sym same.0) is.in_turn) is.count_fits

  -- ---- records that lead nowhere

  module _ (laws : IsLayoutForm form) (slot : ℕ) (base : State T) (groups : List (List E)) (image : List ℕ) (spells : Spells F (journal_of form.sizes slot) groups image) where
    same_records : (others : List (List E)) (state : State T) → Spells F (journal_of form.sizes slot) others image → after form base (entries_of others) ≡ Some state → after form base (entries_of groups) ≡ Some state
    same_records others state theirs folds = ap (λ gs. after form base (entries_of gs)) (one_list F laws.entries_form (journal_of form.sizes slot) groups others image spells theirs) ∙ folds

    -- the count would pass the limit
    pub too_many : worn_limit < base.count + length (entries_of groups) → LeadsNowhere form slot base image
    too_many over others state theirs folds in_turn fits =
        let sum = after_count form base state (entries_of groups) (same_records others state theirs folds) in
        omega (arith, sum, over, fits)

    -- a change is refused, or an entry isn't in turn
    pub refused_there : (form.AreInTurn base.tickets (entries_of groups) → fold_within form.sizes.most_edges base.graph (changes_of form (entries_of groups)) ≡ None) → LeadsNowhere form slot base image
    refused_there none others state theirs folds in_turn fits =
        let in_turn_here = subst (λ gs. form.AreInTurn base.tickets (entries_of gs)) (sym (one_list F laws.entries_form (journal_of form.sizes slot) groups others image spells theirs)) in_turn in
        not_some (ap (option_map (λ (graph : Network). state_with (base.count + length (entries_of groups)) graph (form.tickets_after base.tickets (entries_of groups)))) (none in_turn_here)) (same_records others state theirs folds)
      where
        not_some : {o : Option (State T)} → o ≡ None → o ≡ Some state → ⊥
        not_some is_none is_some = let clash : None ≡ Some state = sym is_none ∙ is_some in cc
