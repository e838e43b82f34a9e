-- What the list of an area is made of: values that have one text each.
use Rattle.std.specs.Prelude.{◌≤◌, ◌+◌, ◌*◌, ℕ, List, length, Option}
use Rattle.byte_forms.specs.Forms.{FormOf, IsForm as IsByteForm}
use Rattle.journal.specs.Layout.{count_size, most_entries, most_entry}

-- the form of entries
pub record EntryForm (E : Type 0) : Type 1 where
  -- an entry's text
  pub text : E → List ℕ
  -- what an entry may be
  pub IsEntry : E → Type 0
  -- the entry at the front of bytes, and the bytes after it
  pub at : List ℕ → Option (E × List ℕ)
  -- the length of the shortest text
  pub least : ℕ
  -- and of the longest
  pub most : ℕ

-- the same form without the lengths
abbrev pub bytes_form : {E : Type 0} → EntryForm E → FormOf E
bytes_form form = record { text = form.text; Fits = form.IsEntry; at = form.at }

-- entries of a form, with the lengths of its shortest and of its longest text
abbrev pub entries_as : {E : Type 0} → FormOf E → ℕ → ℕ → EntryForm E
entries_as form least most = record { text = form.text; IsEntry = form.Fits; at = form.at; least = least; most = most }

-- each entry has one text, and a text that is read is one entry's
pub record IsForm {E : Type 0} (form : EntryForm E) : Type 0 where
  pub reader : IsByteForm (bytes_form form)
  pub sizes : (entry : E) → form.IsEntry entry → (form.least ≤ length (form.text entry)) × (length (form.text entry) ≤ form.most)
  pub small : form.most ≤ most_entry

-- the shortest payload of entries of this form
abbrev pub least_payload : {E : Type 0} → EntryForm E → ℕ
least_payload form = count_size + form.least

-- the longest
abbrev pub most_payload : {E : Type 0} → EntryForm E → ℕ
most_payload form = count_size + most_entries * form.most
