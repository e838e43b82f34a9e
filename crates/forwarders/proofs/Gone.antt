-- A generation is gone exactly where its number isn't on the shelf.
use Rattle.std.proofs.Common.{◌≡◌, ℕ, zero, suc, eqb, [], ◌∷◌, Option, Some, None, Result, Ok, Err, slice_get, refl, sym, ap, ◌∙◌, inl, inr, ◌⊎◌}
use Rattle.std.specs.Prelude.{◌↔◌}
use Rattle.std.proofs.lemmas.Bool.{cases_eq, eq-eqb, ne_eqb, cond-true, cond-false}
use Rattle.schemes.specs.declared.parts.Parts.{Parts}
use Rattle.schemes.specs.declared.packet.Refused as scheme
use Rattle.schemes.specs.declared.packet.Refused.TheVariants as by_scheme
use Rattle.schemes.specs.Tables.{Tables, tables}
use Rattle.schemes.specs.Service.{address_given, decide, node_step}
use Rattle.generations.specs.Boards.{scheme_of}
use Rattle.forwarders.specs.declared.refused.Refused.TheVariants.{GenerationGone}
use Rattle.forwarders.specs.Answers.{Shelf, IsOnShelf, by, by_name, named}
use Rattle.forwarders.specs.Laws.{HopGone, LaunchGone, AddressGone}

-- ---- the shelf

further : (number : ℕ) (o : Option (ℕ × Parts)) (shelf : Shelf) → IsOnShelf number shelf → IsOnShelf number (o ∷ shelf)
further number o shelf on = (suc on.0, (on.1.0, on.1.1))

-- what stands on a shelf stands on its first place or behind it
at_head : (number : ℕ) (o : Option (ℕ × Parts)) (shelf : Shelf) (k : ℕ) (p : Parts) → slice_get (o ∷ shelf) k ≡ Some (Some (number, p)) → (o ≡ Some (number, p)) ⊎ IsOnShelf number shelf
at_head number o shelf zero p e = inl cc
at_head number o shelf (suc k) p e = inr (k, (p, e))

none_on : (number : ℕ) (shelf : Shelf) → scheme_of number shelf ≡ None → IsOnShelf number shelf → ⊥
none_on number [] e on = let none : Option (Option (ℕ × Parts)) = None in let h : none ≡ Some (Some (number, on.1.0)) = on.1.1 in cc
none_on number (None ∷ shelf) e on =
    elim (at_head number None shelf on.0 on.1.0 on.1.1) [
      | inl h ↦ cc
      | inr h ↦ none_on number shelf e h
    ]
none_on number (Some g ∷ shelf) e on =
    elim (cases_eq g.0 number) [
      | inl same ↦ let h : Some g.1 ≡ None = sym (cond-true (eqb g.0 number) (Some g.1) (scheme_of number shelf) (eq-eqb _ _ same)) ∙ e in cc
      | inr other ↦ elim (at_head number (Some g) shelf on.0 on.1.0 on.1.1) [
        | inl h ↦ other (let same : g ≡ (number, on.1.0) = cc in ap (λ (x : ℕ × Parts). x.0) same)
        | inr h ↦ none_on number shelf (sym (cond-false (eqb g.0 number) (Some g.1) (scheme_of number shelf) (ne_eqb _ _ other)) ∙ e) h
      ]
    ]

found_on : (number : ℕ) (shelf : Shelf) → (IsOnShelf number shelf → ⊥) → scheme_of number shelf ≡ None
found_on number [] not = refl
found_on number (None ∷ shelf) not = found_on number shelf (λ on. not (further number None shelf on))
found_on number (Some g ∷ shelf) not =
    elim (cases_eq g.0 number) [
      | inl same ↦ absurd (not (zero, (g.1, ap (λ n. Some (Some (n, g.1))) same)))
      | inr other ↦ cond-false (eqb g.0 number) (Some g.1) (scheme_of number shelf) (ne_eqb _ _ other) ∙ found_on number shelf (λ on. not (further number (Some g) shelf on))
    ]

-- ---- the answers

no_name : (e : scheme.Refused) → named e ≡ GenerationGone → ⊥
no_name by_scheme.NoNode e = cc
no_name by_scheme.Unreachable e = cc
no_name by_scheme.Stray e = cc
no_name by_scheme.Spent e = cc

no_scheme : {A : Type 0} (answer : Tables → Result A scheme.Refused) (o : Option Parts) → by answer o ≡ Err GenerationGone → o ≡ None
no_scheme answer None e = refl
no_scheme {A} answer (Some p) e = absurd (refused (answer (tables p)) e)
  where
    refused : (r : Result A scheme.Refused) → by_name r ≡ Err GenerationGone → ⊥
    refused (Ok a) e = cc
    refused (Err r) e = no_name r cc

is_gone : {A : Type 0} (answer : Tables → Result A scheme.Refused) (number : ℕ) (shelf : Shelf) → (by answer (scheme_of number shelf) ≡ Err GenerationGone) ↔ (¬ (IsOnShelf number shelf))
is_gone answer number shelf = (λ e. none_on number shelf (no_scheme answer (scheme_of number shelf) e), λ not. ap (by answer) (found_on number shelf not))

pub hop_gone : HopGone
hop_gone shelf x k = is_gone (λ t. node_step t x k) k.generation shelf

pub launch_gone : LaunchGone
launch_gone shelf u a = is_gone (λ t. decide t u a) a.generation shelf

pub address_gone : AddressGone
address_gone shelf generation v = is_gone (λ t. address_given t v) generation shelf
