-- Members of a directory as bytes: the form of a label, and of a label behind its node.
use Rattle.std.proofs.Common.{ℕ, ◌^◌, ◌<◌, List, Option, Some, refl, sym, ap, subst, arith}
use Rattle.std.proofs.lemmas.List.Elements.{All-from_recursion, recursion_from_All}
use Rattle.std.proofs.lemmas.Option.{same_Some}
use Rattle.heavy_labels.specs.Label.{Label}
use Rattle.schemes.specs.declared.parts.Listed.{Listed}
use Rattle.packet_bytes.specs.Layout.{most_ports}
use Rattle.packet_bytes.specs.Spelling.{IsLabel}
use Rattle.byte_forms.specs.Forms.{FormOf, IsForm}
use Rattle.byte_forms.specs.FormLaws.{made_is_form, same_is_form, short_form, short_is_form, then_form, then_is_form, u16_form, u16_is_form}
use Rattle.byte_forms.specs.Reading.{made_at, then_at}
use Rattle.router_table.specs.Spelling.{label_text, member_text}

-- a label's number, and its ports
abbrev pub parts_form : FormOf (ℕ × List ℕ)
parts_form = then_form u16_form (short_form u16_form 0 most_ports)

abbrev pub label_of : ℕ × List ℕ → Label
label_of x = record { first = x.0; lights = x.1 }

abbrev pub parts_of : Label → ℕ × List ℕ
parts_of l = (l.first, l.lights)

unfoldable pub label_at : List ℕ → Option (Label × List ℕ)
label_at bytes = made_at parts_form.at (λ x. Some (label_of x)) bytes

abbrev pub label_form : FormOf Label
label_form = record { text = label_text; Fits = IsLabel; at = label_at }

its_label : (x : ℕ × List ℕ) → parts_form.Fits x → IsLabel (label_of x)
its_label x fits = (fits.0, record { few = fits.1.1; each = All-from_recursion (λ n. n < 2 ^ 16) x.1 fits.1.2 })

its_parts : (l : Label) → IsLabel l → parts_form.Fits (parts_of l)
its_parts l fits = (fits.0, (omega arith, fits.1.few, recursion_from_All (λ n. n < 2 ^ 16) l.lights fits.1.each))

label_is_form : IsForm label_form
unfolding label_at
label_is_form = made_is_form (then_is_form u16_is_form (short_is_form u16_is_form 0 most_ports)) (λ x. Some (label_of x)) parts_of IsLabel
    (λ x l fits e. (let is = same_Some (label_of x) l e in (ap parts_of (sym is), subst (λ (k : Label). IsLabel k) is (its_label x fits))))
    (λ l fits. (its_parts l fits, refl))

abbrev pub member_of : ℕ × Label → Listed
member_of x = record { node = x.0; label = x.1 }

unfoldable pub member_at : List ℕ → Option (Listed × List ℕ)
member_at bytes = made_at (then_at u16_form.at label_at) (λ x. Some (member_of x)) bytes

-- a member whose numbers have bytes
abbrev pub MemberFits : Listed → Type 0
MemberFits m = (m.node < 2 ^ 16) × IsLabel m.label

abbrev pub member_form : FormOf Listed
member_form = record { text = member_text; Fits = MemberFits; at = member_at }

pub member_is_form : IsForm member_form
unfolding member_at
member_is_form = same_is_form (then_is_form u16_is_form label_is_form) member_of (λ m. (m.node, m.label)) (λ x. refl) (λ m. refl)
