-- Heads and edges as bytes.
use Rattle.std.proofs.Common.{◌≡◌, ℕ, List, [], ◌∷◌, ◌++◌, length, refl, sym, ◌∙◌, ap, arith, append_assoc, length-append}
use Rattle.std.specs.List.{flat_map, AllByRecursion}
use Rattle.std.proofs.lemmas.List.Concat.{flat_map-cons}
use Rattle.byte_forms.specs.Forms.{FormOf, IsForm}
use Rattle.byte_forms.specs.FormLaws.{apart, then_form, then_is_form, u16_form, u16_is_form, u32_form, u32_is_form, u64_form, u64_is_form}
use Rattle.layout_reader.specs.EdgeTexts.{edge_text}

-- the numbers of a head: epoch, count, how many nodes and how many edges
abbrev pub Head : Type 0
Head = ℕ × (ℕ × (ℕ × ℕ))

abbrev pub head_form : FormOf Head
head_form = then_form u64_form (then_form u64_form (then_form u16_form u32_form))

pub head_is_form : IsForm head_form
head_is_form = then_is_form u64_is_form (then_is_form u64_is_form (then_is_form u16_is_form u32_is_form))

abbrev pub edge_form : FormOf ((ℕ × ℕ) × ℕ)
edge_form = then_form (then_form u16_form u16_form) u32_form

pub edge_is_form : IsForm edge_form
edge_is_form = then_is_form (then_is_form u16_is_form u16_is_form) u32_is_form

regroup : (e : (ℕ × ℕ) × ℕ) (es : List ((ℕ × ℕ) × ℕ)) (x : List ℕ) → flat_map edge_text (e ∷ es) ++ x ≡ edge_text e ++ (flat_map edge_text es ++ x)
regroup e es x = ap (λ (l : List ℕ). l ++ x) (flat_map-cons edge_text e es) ∙ append_assoc (edge_text e) (flat_map edge_text es) x

-- what edges begin with, other edges of the same text continue
pub record Continues (es fs : List ((ℕ × ℕ) × ℕ)) (x : List ℕ) : Type 0 where
  pub later : List ((ℕ × ℕ) × ℕ)
  pub list : fs ≡ es ++ later
  pub bytes : x ≡ flat_map edge_text later

pub continues : (es fs : List ((ℕ × ℕ) × ℕ)) (x : List ℕ) → AllByRecursion edge_form.Fits es → AllByRecursion edge_form.Fits fs → flat_map edge_text es ++ x ≡ flat_map edge_text fs → Continues es fs x
continues [] fs x fit_e fit_f same = record { later = fs; list = refl; bytes = same }
continues (e ∷ es) [] x fit_e fit_f same = absurd (omega (arith, ap length same, ap length (regroup e es x), length-append (edge_text e) (flat_map edge_text es ++ x)))
continues (e ∷ es) (f ∷ fs) x fit_e fit_f same =
    let one = apart edge_is_form e f (flat_map edge_text es ++ x) (flat_map edge_text fs) fit_e.0 fit_f.0 (sym (regroup e es x) ∙ same ∙ flat_map-cons edge_text f fs) in
    let more = continues es fs x fit_e.1 fit_f.1 one.1 in
    record {
      later = more.later;
      list = ap (λ (l : List ((ℕ × ℕ) × ℕ)). f ∷ l) more.list ∙ ap (λ (g : (ℕ × ℕ) × ℕ). g ∷ (es ++ more.later)) (sym one.0);
      bytes = more.bytes;
    }
