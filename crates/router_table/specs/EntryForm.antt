-- Entries as bytes: the forms of a port, of a record's six numbers, of a record, and of a record behind its root.
use Rattle.std.proofs.Common.{◌≡◌, ◌⊎◌, ℕ, ◌^◌, ◌<◌, ◌≤◌, ◌==◌, eqb, Bool, true, false, cond, List, Option, Some, None, IfSome, refl, sym, ap, subst, ◌∙◌, arith, inl, inr}
use Rattle.std.proofs.lemmas.Bool.{cases_lt, eqb-false, eqb-true}
use Rattle.std.proofs.lemmas.Bool.Decides.{nat_tests}
use Rattle.std.proofs.lemmas.Option.{none-some, same_Some}
use Rattle.heavy_labels.specs.declared.tree_record.Record.{Record}
use Rattle.byte_forms.specs.Forms.{FormOf, IsForm}
use Rattle.byte_forms.specs.FormLaws.{byte_form, byte_is_form, made_form, made_is_form, same_is_form, then_form, then_is_form, u16_form, u16_is_form}
use Rattle.byte_forms.specs.Reading.{made_at, then_at}
use Rattle.router_table.specs.declared.tree_entry.TreeEntry.{TreeEntry}
use Rattle.router_table.specs.Records.{made, record_with}
use Rattle.router_table.specs.Spelling.{entry_text, no_port, port_number, record_text}

-- ---- ports

-- the port that a number stands for
abbrev pub port_from : ℕ → Option ℕ
port_from n = cond (n == no_port) None (Some n)

abbrev pub IsPortNumber : Option ℕ → Type 0
IsPortNumber port = IfSome port (λ p. p < no_port)

abbrev pub port_form : FormOf (Option ℕ)
port_form = made_form u16_form (λ n. Some (port_from n)) port_number IsPortNumber

port_below : (n : ℕ) → n < 2 ^ 16 → (n == no_port) ≡ false → n < no_port
port_below n lt e = go (cases_lt n no_port)
  where
    go : (n < no_port) ⊎ (no_port ≤ n) → n < no_port
    go (inl below) = below
    go (inr above) = absurd (eqb-false n no_port e (omega (arith, above, lt)))

port_there : (n : ℕ) → n < 2 ^ 16 → (port_number (port_from n) ≡ n) × IsPortNumber (port_from n)
port_there n lt = go (n == no_port) refl
  where
    go : (b : Bool) → (n == no_port) ≡ b → (port_number (cond b None (Some n)) ≡ n) × IsPortNumber (cond b None (Some n))
    go true e = (sym (eqb-true _ _ e), tt)
    go false e = (refl, port_below n lt e)

port_back : (o : Option ℕ) → IsPortNumber o → (port_number o < 2 ^ 16) × (port_from (port_number o) ≡ o)
port_back None fits = (omega arith, refl)
port_back (Some p) fits =
    let other : eqb p no_port ≡ false = grind (arith, nat_tests) in
    (omega (arith, fits), rw other refl)

port_is_form : IsForm port_form
port_is_form = made_is_form u16_is_form (λ n. Some (port_from n)) port_number IsPortNumber
    (λ n o fits e. (let is = same_Some (port_from n) o e in let there = port_there n fits in (ap port_number (sym is) ∙ there.0, subst (λ (p : Option ℕ). IsPortNumber p) is there.1)))
    (λ o fits. (let back = port_back o fits in (back.0, ap (λ (p : Option ℕ). Some p) back.1)))

-- ---- records

-- a record's numbers in the order of the bytes
abbrev pub Numbers : Type 0
Numbers = ℕ × (ℕ × (ℕ × (Option ℕ × (Option ℕ × ℕ))))

abbrev pub numbers_of : Record → Numbers
numbers_of r = (r.first, (r.last, (r.heavy_last, (r.parent_port, (r.heavy_port, r.light_depth)))))

abbrev pub numbers_form : FormOf Numbers
numbers_form = then_form u16_form (then_form u16_form (then_form u16_form (then_form port_form (then_form port_form byte_form))))

numbers_is_form : IsForm numbers_form
numbers_is_form = then_is_form u16_is_form (then_is_form u16_is_form (then_is_form u16_is_form (then_is_form port_is_form (then_is_form port_is_form byte_is_form))))

-- the record of these numbers, where there is one
abbrev pub made_of : Numbers → Option Record
made_of x = record_with x.0 x.1.0 x.1.1.0 x.1.1.1.1.1 x.1.1.1.0 x.1.1.1.1.0 (x.0 == x.1.0) refl

-- a record whose numbers have bytes
abbrev pub HasBytes : Record → Type 0
HasBytes r = numbers_form.Fits (numbers_of r)

unfoldable pub record_at : List ℕ → Option (Record × List ℕ)
record_at bytes = made_at numbers_form.at made_of bytes

abbrev pub record_form : FormOf Record
record_form = record { text = record_text; Fits = HasBytes; at = record_at }

-- the numbers of what is made
its_numbers : (f l h d : ℕ) (p q : Option ℕ) (b : Bool) (e : (f == l) ≡ b) (r : Record) → record_with f l h d p q b e ≡ Some r → numbers_of r ≡ (f, (l, (h, (p, (q, d)))))
its_numbers f l h d p None true e r made = ap numbers_of (sym (same_Some _ r made))
its_numbers f l h d p None false e r made = absurd (none-some r made)
its_numbers f l h d p (Some q) true e r made = absurd (none-some r made)
its_numbers f l h d p (Some q) false e r made = ap numbers_of (sym (same_Some _ r made))

-- what is made of the numbers of a record
made_again : (r : Record) → made_of (numbers_of r) ≡ Some r
made_again r = sym (made r.first r.last r.heavy_last r.light_depth r.parent_port r.heavy_port (Some r) refl (λ _. r.heavy_port_there, λ _. refl) (r.first == r.last) refl)

pub record_is_form : IsForm record_form
unfolding record_at
record_is_form = made_is_form numbers_is_form made_of numbers_of HasBytes
    (λ x r fits e. (let is = its_numbers x.0 x.1.0 x.1.1.0 x.1.1.1.1.1 x.1.1.1.0 x.1.1.1.1.0 (x.0 == x.1.0) refl r e in (is, subst (λ (y : Numbers). numbers_form.Fits y) (sym is) fits)))
    (λ r fits. (fits, made_again r))

-- ---- entries

abbrev pub entry_of : ℕ × Record → TreeEntry
entry_of x = record { root = x.0; tree_record = x.1 }

unfoldable pub entry_at : List ℕ → Option (TreeEntry × List ℕ)
entry_at bytes = made_at (then_at u16_form.at record_at) (λ x. Some (entry_of x)) bytes

-- an entry whose numbers have bytes
abbrev pub EntryFits : TreeEntry → Type 0
EntryFits e = (e.root < 2 ^ 16) × HasBytes e.tree_record

abbrev pub entry_form : FormOf TreeEntry
entry_form = record { text = entry_text; Fits = EntryFits; at = entry_at }

pub entry_is_form : IsForm entry_form
unfolding entry_at
entry_is_form = same_is_form (then_is_form u16_is_form record_is_form) entry_of (λ e. (e.root, e.tree_record)) (λ x. refl) (λ e. refl)
