-- What is read of a group is spelled so, and what is spelled so is read.
use Rattle.std.proofs.Common.{◌≡◌, ℕ, List, Some, arith}
use Rattle.byte_forms.specs.Forms.{IsBytes, IsForm as IsByteForm}
use Rattle.byte_forms.specs.FormLaws.{counted_is_form, u16_is_form, whole_takes, whole_again}
use Rattle.journal.specs.Layout.{most_entries}
use Rattle.journal.specs.Forms.{EntryForm, IsForm}
use Rattle.journal.specs.Spelling.{payload_of, IsGroup, group_form, group_of}

module _ {E : Type 0} (form : EntryForm E) (is_form : IsForm form) where
  pub group_is_form : IsByteForm (group_form form)
  group_is_form = counted_is_form u16_is_form is_form.reader 1 most_entries (λ n rest few. u16_is_form.again n rest (omega (arith, few)))

  pub group_takes : (bytes : List ℕ) (group : List E) → IsBytes bytes → group_of form bytes ≡ Some group → IsGroup form group × (bytes ≡ payload_of form group)
  unfolding group_of
  group_takes bytes group fits e = (let t = whole_takes group_is_form bytes group fits e in (record { some = t.1.0; few = t.1.1; each = t.1.2 }, t.0))

  pub group_again : (group : List E) → IsGroup form group → group_of form (payload_of form group) ≡ Some group
  unfolding group_of
  group_again group is = whole_again group_is_form group (is.some, is.few, is.each)
