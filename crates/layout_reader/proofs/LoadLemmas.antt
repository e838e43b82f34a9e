-- Loading a device, read by read.
use Rattle.std.proofs.Common.{◌≡◌, ℕ, ◌<◌, ◌≤◌, List, length, Result, Ok, Err, IfOk, IfErr, OnOk, IsTrue, sym, ◌∙◌, subst}
use Rattle.requests.specs.Tickets.{worn_limit}
use Rattle.disk_trait.specs.Disk.{DiskView, IsSettled}
use Rattle.journal.specs.Forms.{EntryForm}
use Rattle.journal.specs.Records.{Spells}
use Rattle.layout_reader.specs.declared.checkpoint.Checkpoint.{Checkpoint}
use Rattle.layout_reader.specs.declared.loaded.Loaded.{Loaded}
use Rattle.layout_reader.specs.declared.refusals.OpenRefused.{OpenRefused}
use Rattle.layout_reader.specs.declared.refusals.OpenRefused.TheVariants.{NotFormatted, BadVersion, Damaged, Device, Memory}
use Rattle.layout_reader.specs.Forms.{LayoutForm, IsLayoutForm}
use Rattle.layout_reader.specs.Loading.{held_by, base_of, ComesFrom, FitTogether, HasAsBase, IsLoaded, IsNotLoaded, TellsOfForm}
use Rattle.layout_reader.specs.Reading.{IsRead, IsNotRead}
use Rattle.layout_reader.specs.Refusals.{IsFormatFault, IsFrontFault, HasLayout, TellsOfLayout}
use Rattle.layout_reader.specs.Sizes.{device_len, journal_of, version}
use Rattle.layout_reader.specs.Slots.{LeadsNowhere}
use Rattle.layout_reader.specs.Standing.{IsInUse, StandsForNone}
use Rattle.layout_reader.proofs.OpenLemmas.{in_use, nowhere}
use Rattle.layout_reader.proofs.ReadLemmas.{still, is_read_on, not_read_on, settled_on}

module _ {E T : Type 0} {F : EntryForm E} (form : LayoutForm F T) where
  -- behind the front a refusal tells that the front is right
  tells_behind : (content : List ℕ) (e : OpenRefused) → HasLayout (version form.sizes) content → ¬ (IsFrontFault e) → TellsOfLayout (version form.sizes) e content
  tells_behind content NotFormatted has later = absurd (later tt)
  tells_behind content BadVersion has later = absurd (later tt)
  tells_behind content Damaged has later = has
  tells_behind content Device has later = tt
  tells_behind content Memory has later = has

  -- a read behind the front was refused
  pub not_loaded : (old mid new : DiskView) (why : OpenRefused) → IsRead old mid → IsNotRead mid new why → ¬ (IsFrontFault why) → (IsTrue old.keeps_model → HasLayout (version form.sizes) old.content) → (IsTrue old.keeps_model → IsFormatFault why → StandsForNone form old.content)
      → IsNotLoaded form old new why
  not_loaded old mid new why read refused later has none = record {
    not_read = not_read_on old mid new why read refused;
    of_model = λ model. record { tells = tells_behind old.content why (has model) later; refused = none model };
  }

  -- a device that was read wasn't loaded then
  pub not_loaded_on : (old mid new : DiskView) (why : OpenRefused) → IsRead old mid → IsNotLoaded form mid new why → IsNotLoaded form old new why
  not_loaded_on old mid new why read refused = record {
    not_read = not_read_on old mid new why read refused.not_read;
    of_model = λ model. subst (λ (l : List ℕ). TellsOfForm form l why) (read.reads model).content (refused.of_model (still old mid read.ran model));
  }

  -- what comes from a checkpoint is in use with its records, where the checkpoint is
  comes_in_use : (checkpoint : Checkpoint T) (loaded : Loaded E T) (image : List ℕ) → ComesFrom checkpoint loaded → HasAsBase form checkpoint image → Spells F (journal_of form.sizes loaded.slot) loaded.journal.groups image
      → IsInUse form loaded.slot loaded.epoch loaded.other_gate (base_of loaded) loaded.journal.groups image
  comes_in_use checkpoint loaded image from has spells =
      rw (from.epoch, from.other_gate, from.count, from.graph, from.tickets)
      (subst (λ k. IsInUse form k checkpoint.chosen.head.epoch checkpoint.chosen.other_gate (held_by checkpoint) loaded.journal.groups image) (sym from.slot)
      (in_use form checkpoint.chosen.slot checkpoint.chosen.head.epoch checkpoint.chosen.other_gate (held_by checkpoint) image has loaded.journal.groups (subst (λ k. Spells F (journal_of form.sizes k) loaded.journal.groups image) from.slot spells)))

  -- A device is synced, then read up to a checkpoint, and then the records behind it are read.
  module _ (old ready mid new : DiskView) (checkpoint : Checkpoint T) (sync : IsRead old ready) (before : IsRead ready mid) (has : IsTrue ready.keeps_model → HasAsBase form checkpoint ready.content)
      (front : IsTrue ready.keeps_model → HasLayout (version form.sizes) ready.content) where
    first : IsRead old mid
    first = is_read_on old ready mid sync before

    has_then : IsTrue old.keeps_model → HasAsBase form checkpoint old.content
    has_then model = subst (λ (bytes : List ℕ). HasAsBase form checkpoint bytes) (sync.reads model).content (has (still old ready sync.ran model))

    front_then : IsTrue old.keeps_model → HasLayout (version form.sizes) old.content
    front_then model = subst (λ (bytes : List ℕ). HasLayout (version form.sizes) bytes) (sync.reads model).content (front (still old ready sync.ran model))

    pub is_loaded : (r : Result (Loaded E T) OpenRefused) → length ready.content ≡ device_len form.sizes → (IsTrue old.keeps_model → IsSettled ready) → OnOk r (IsRead mid new) → IfOk r (ComesFrom checkpoint) → IfOk r (FitTogether form)
        → (IsTrue mid.keeps_model → IfOk r (λ l. Spells F l.journal.area l.journal.groups mid.content)) → IfOk r (IsLoaded form old new)
    is_loaded (Ok l) long settled read from parts spells = record {
      read = is_read_on old mid new (first) read;
      long = sym sync.ran.as_long ∙ long;
      parts = parts;
      of_model = λ model.
          let here : Spells F (journal_of form.sizes l.slot) l.journal.groups old.content =
          subst (λ a. Spells F a l.journal.groups old.content) parts.area (subst (λ (bytes : List ℕ). Spells F l.journal.area l.journal.groups bytes) ((first).reads model).content (spells (still old mid (first).ran model))) in
          record {
            in_use = comes_in_use checkpoint l old.content from (has_then model) here;
            settled = settled_on ready new ((is_read_on ready mid new before read).reads (still old ready sync.ran model)) (settled model);
            this_version = front_then model;
          };
    }
    is_loaded (Err e) long settled read from parts spells = tt

    pub is_not_loaded : (r : Result (Loaded E T) OpenRefused) → IsLayoutForm form → checkpoint.chosen.slot < 2 → checkpoint.chosen.head.count ≤ worn_limit → IfErr r (IsNotRead mid new) → IfErr r (λ e. ¬ (IsFrontFault e))
        → (IsTrue mid.keeps_model → IfErr r (λ e. IsFormatFault e → LeadsNowhere form checkpoint.chosen.slot (held_by checkpoint) mid.content)) → IfErr r (IsNotLoaded form old new)
    is_not_loaded (Ok l) laws slot count refused later none = tt
    is_not_loaded (Err e) laws slot count refused later none = not_loaded old mid new e (first) refused later (front_then) (λ model fault.
        nowhere form checkpoint.chosen.slot checkpoint.chosen.head.epoch checkpoint.chosen.other_gate (held_by checkpoint) old.content (has_then model) laws slot count
        (subst (λ (bytes : List ℕ). LeadsNowhere form checkpoint.chosen.slot (held_by checkpoint) bytes) ((first).reads model).content (none (still old mid (first).ran model) fault)))
