-- What is written outside an area leaves what it spells.
use Rattle.std.specs.Prelude.{◌≤◌, ◌+◌, ◌⊎◌, ℕ, List, length}
use Rattle.std.proofs.Common.{inl, inr, sym, ◌∙◌, arith}
use Rattle.disk_trait.specs.Disk.{Torn}
use Rattle.disk_trait.specs.Places.{below, above, byte_below, byte_above}
use Rattle.journal.specs.Forms.{EntryForm}
use Rattle.journal.specs.Layout.{open_gate}
use Rattle.journal.specs.Records.{Area, records, Spells}

-- a torn range below the area or above it
pub still_spells : {E : Type 0} (form : EntryForm E) (area : Area) (groups : List (List E)) (old new : List ℕ) (at n : ℕ) → Torn at n old new → (at + n ≤ area.start) ⊎ (area.start + area.room ≤ at)
    → Spells form area groups old → Spells form area groups new
still_spells form area groups old new at n torn (inl low) spells =
    record {
      each = spells.each;
      open_records = above old new at n area.start (length (records form groups)) torn low ∙ spells.open_records;
      gate = λ is. spells.gate (sym (byte_above old new at n (area.start + length (records form groups)) open_gate torn (omega (arith, low))) ∙ is);
      within = spells.within;
    }
still_spells form area groups old new at n torn (inr high) spells =
    record {
      each = spells.each;
      open_records = below old new at n area.start (length (records form groups)) torn (omega (arith, high, spells.within)) ∙ spells.open_records;
      gate = λ is. spells.gate (sym (byte_below old new at n (area.start + length (records form groups)) open_gate torn (omega (arith, high, spells.within))) ∙ is);
      within = spells.within;
    }
