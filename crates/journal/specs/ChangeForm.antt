-- Ops and changes as bytes, and accepted changes as entries: the journal of layout 1.
use Rattle.std.proofs.Common.{◌≡◌, ◌⊎◌, ℕ, ◌+◌, ◌*◌, ◌==◌, Bool, true, false, cond, eqb, ◌&&◌, List, length, Option, Some, None, refl, sym, ap, subst, ◌∙◌, arith, inl, inr}
use Rattle.std.specs.Prelude.{if◌then◌else◌}
use Rattle.std.proofs.lemmas.Bool.{eqb-true}
use Rattle.std.proofs.lemmas.Option.{same_Some}
use Rattle.graph_edits.specs.declared.edits.Op.{Op}
use Rattle.graph_edits.specs.declared.edits.Op.TheVariants.{Add, Set, Cut}
use Rattle.graph_edits.specs.Changes.{first_node, second_node}
use Rattle.graph_edits.specs.Edges.{most_ops}
use Rattle.byte_forms.specs.Forms.{FormOf, IsForm}
use Rattle.byte_forms.specs.FormLaws.{both_true, byte_form, byte_is_form, guard_true, length_items, made_is_form, short_form, short_is_form, then_form, then_is_form, u16_form, u16_is_form, u32_form, u32_is_form}
use Rattle.byte_forms.specs.Reading.{made_at}
use Rattle.journal.specs.Forms.{EntryForm, entries_as, IsForm as IsEntryForm}
use Rattle.journal.specs.Layout.{add_kind, set_kind, cut_kind, change_head, op_size, least_change, most_change}

-- the number of an op's kind
abbrev pub kind_of : Op → ℕ
kind_of (Add a b w) = add_kind
kind_of (Set a b w) = set_kind
kind_of (Cut a b) = cut_kind

-- the weight that is written, 0 where an op has none
abbrev pub written_weight : Op → ℕ
written_weight (Add a b w) = w
written_weight (Set a b w) = w
written_weight (Cut a b) = 0

-- the numbers of an op: its kind, its nodes, and its weight
abbrev pub Numbers : Type 0
Numbers = ℕ × (ℕ × (ℕ × ℕ))

abbrev pub numbers_of : Op → Numbers
numbers_of op = (kind_of op, (first_node op, (second_node op, written_weight op)))

-- the op of these numbers
abbrev pub op_of : ℕ → ℕ → ℕ → ℕ → Option Op
op_of kind a b w =
    if kind == add_kind then Some (Add a b w) else
    if kind == set_kind then Some (Set a b w) else
    if kind == cut_kind && w == 0 then Some (Cut a b) else None

abbrev pub made_of : Numbers → Option Op
made_of x = op_of x.0 x.1.0 x.1.1.0 x.1.1.1

-- one byte, two, two, and four
abbrev pub numbers_form : FormOf Numbers
numbers_form = then_form byte_form (then_form u16_form (then_form u16_form u32_form))

-- an op, and the bytes after it
unfoldable pub op_at : List ℕ → Option (Op × List ℕ)
op_at bytes = made_at numbers_form.at made_of bytes

-- an op: its numbers
abbrev pub op_form : FormOf Op
op_form = record { text = λ op. numbers_form.text (numbers_of op); Fits = λ op. numbers_form.Fits (numbers_of op); at = op_at }

-- a change: how many ops it has, 1 to 16, and its ops
abbrev pub ops_form : FormOf (List Op)
ops_form = short_form op_form 1 most_ops

-- an entry is a change
abbrev pub change_form : EntryForm (List Op)
change_form = entries_as ops_form least_change most_change

-- ---- their laws

pick : (b : Bool) (x op : Op) (o : Option Op) → cond b (Some x) o ≡ Some op → ((b ≡ true) × (x ≡ op)) ⊎ (o ≡ Some op)
pick true x op o e = inl (refl, same_Some x op e)
pick false x op o e = inr e

-- the numbers of what is made
its_numbers : (kind a b w : ℕ) (op : Op) → op_of kind a b w ≡ Some op → (kind, (a, (b, w))) ≡ numbers_of op
its_numbers kind a b w op e =
    elim (pick (eqb kind add_kind) (Add a b w) op _ e) [
      | inl p ↦ ap (λ (k : ℕ). (k, (a, (b, w)))) (eqb-true _ _ p.0) ∙ ap numbers_of p.1
      | inr e2 ↦ elim (pick (eqb kind set_kind) (Set a b w) op _ e2) [
        | inl p ↦ ap (λ (k : ℕ). (k, (a, (b, w)))) (eqb-true _ _ p.0) ∙ ap numbers_of p.1
        | inr e3 ↦
            let g = guard_true (eqb kind cut_kind && eqb w 0) (Some (Cut a b)) op e3 in
            let t = both_true (eqb kind cut_kind) (eqb w 0) g.0 in
            ap (λ (k : ℕ). (k, (a, (b, w)))) (eqb-true _ _ t.0) ∙ ap (λ (k : ℕ). (cut_kind, (a, (b, k)))) (eqb-true _ _ t.1) ∙ ap numbers_of (same_Some (Cut a b) op g.1)
      ]
    ]

-- what is made of the numbers of an op
made_again : (op : Op) → made_of (numbers_of op) ≡ Some op
made_again (Add a b w) = refl
made_again (Set a b w) = refl
made_again (Cut a b) = refl

pub op_is_form : IsForm op_form
unfolding op_at
op_is_form = made_is_form (then_is_form byte_is_form (then_is_form u16_is_form (then_is_form u16_is_form u32_is_form))) made_of numbers_of (λ op. numbers_form.Fits (numbers_of op))
    (λ x op fits e. (let is = its_numbers x.0 x.1.0 x.1.1.0 x.1.1.1 op e in (sym is, subst (λ (y : Numbers). numbers_form.Fits y) is fits)))
    (λ op fits. (fits, made_again op))

pub ops_is_form : IsForm ops_form
ops_is_form = short_is_form op_is_form 1 most_ops

pub length_ops : (ops : List Op) → length (ops_form.text ops) ≡ change_head + op_size * length ops
length_ops ops = omega (arith, length_items op_form.text op_size (λ op. refl) ops)

pub change_is_form : IsEntryForm change_form
change_is_form = record { reader = ops_is_form; sizes = λ ops fits. (omega (arith, length_ops ops, fits.0), omega (arith, length_ops ops, fits.1)); small = omega arith }
