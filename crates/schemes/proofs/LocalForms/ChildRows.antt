-- The row of children by two scans: the first of the widest, then the others in ascending order.
use Rattle.std.proofs.Common.{◌≡◌, ℕ, zero, suc, ◌<◌, ◌==◌, inl, inr, Bool, true, false, sym, refl, ap, subst, ◌∙◌, arith, List, [], ◌∷◌, ◌++◌, append_assoc}
use Rattle.std.specs.Prelude.{Option, Some, None}
use Rattle.std.proofs.lemmas.Bool.{both_ways, cases_Bool, cond_both, eq-eqb, ne_eqb}
use Rattle.std.proofs.lemmas.List.{append-nil}
use Rattle.graph_edits.specs.Edges.{below as up_to}
use Rattle.schemes.specs.Ports.{filtered}
use Rattle.schemes.specs.Tables.{Tables}
use Rattle.schemes.specs.Checks.{parent_is, children}
use Rattle.schemes.specs.Local.{record_at, span, widest_span, fronted_by, in_row, first_with, all_but, row_by}
use Rattle.schemes.proofs.Basics.Options.{not_none, same_value}
use Rattle.schemes.proofs.LocalForms.LocalRecords.{Every, every_append}

abbrev pub Ascends : List ℕ → Type 0
Ascends [] = Unit {0}
Ascends (x ∷ xs) = Every (λ y. x < y) xs × Ascends xs

every_still : (P : ℕ → Type 0) (b : ℕ → Bool) (xs : List ℕ) → Every P xs → Every P (filtered b xs)
every_still P b [] e = tt
every_still P b (x ∷ xs) e = (let rest = every_still P b xs e.1 in cond_both (b x) (x ∷ filtered b xs) (filtered b xs) (Every P) (λ _. (e.0, rest)) (λ _. rest))

pub ascends_filtered : (b : ℕ → Bool) (xs : List ℕ) → Ascends xs → Ascends (filtered b xs)
ascends_filtered b [] a = tt
ascends_filtered b (x ∷ xs) a = (let rest = ascends_filtered b xs a.1 in cond_both (b x) (x ∷ filtered b xs) (filtered b xs) Ascends (λ _. (every_still (λ y. x < y) b xs a.0, rest)) (λ _. rest))

ascends_snoc : (xs : List ℕ) (n : ℕ) → Ascends xs → Every (λ y. y < n) xs → Ascends (xs ++ n ∷ [])
ascends_snoc [] n a e = (tt, tt)
ascends_snoc (x ∷ xs) n a e = (every_append (λ y. x < y) xs (n ∷ []) a.0 (e.0, tt), ascends_snoc xs n a.1 e.1)

every_less : (n : ℕ) (xs : List ℕ) → Every (λ y. y < n) xs → Every (λ y. y < suc n) xs
every_less n [] e = tt
every_less n (x ∷ xs) e = (omega (arith, e.0), every_less n xs e.1)

below_up_to : (n : ℕ) → Every (λ y. y < n) (up_to n)
below_up_to zero = tt
below_up_to (suc n) = every_append (λ y. y < suc n) (up_to n) (n ∷ []) (every_less n (up_to n) (below_up_to n)) (omega arith, tt)

pub ascends_up_to : (n : ℕ) → Ascends (up_to n)
ascends_up_to zero = tt
ascends_up_to (suc n) = ascends_snoc (up_to n) n (ascends_up_to n) (below_up_to n)

all_above : (x : ℕ) (xs : List ℕ) → Every (λ y. x < y) xs → all_but x xs ≡ xs
all_above x [] e = refl
all_above x (y ∷ ys) e = rw (ne_eqb y x (λ q. omega (arith, e.0, q))) (ap (λ z. y ∷ z) (all_above x ys e.1))

first_has : (t : Tables) (r s h : ℕ) (xs : List ℕ) → first_with t r s xs ≡ Some h → (span (record_at t r h) == s) ≡ true
first_has t r s h [] e = absurd (not_none e refl)
first_has t r s h (x ∷ xs) e =
    cond_both (span (record_at t r x) == s) (Some x) (first_with t r s xs) (λ z. z ≡ Some h → (span (record_at t r h) == s) ≡ true)
    (λ f k. subst (λ z. (span (record_at t r z) == s) ≡ true) (same_value refl k) f) (λ _ k. first_has t r s h xs k) e

abbrev scanned : List ℕ → List ℕ → Option ℕ → List ℕ
scanned passed xs None = passed ++ xs
scanned passed xs (Some h) = h ∷ (passed ++ all_but h xs)

scan : (t : Tables) (r s : ℕ) (passed xs : List ℕ) → Ascends xs → fronted_by t r s passed xs ≡ scanned passed xs (first_with t r s xs)
scan t r s passed [] a = sym (append-nil passed)
scan t r s passed (x ∷ xs) a = elim (cases_Bool (span (record_at t r x) == s)) [
  | inl e ↦ (let but : all_but x (x ∷ xs) ≡ xs = rw (eq-eqb x x refl) (all_above x xs a.0) in rw e (ap (λ z. x ∷ (passed ++ z)) (sym but)))
  | inr e ↦ rw e (scan t r s (passed ++ x ∷ []) xs a.1 ∙ later (first_with t r s xs) refl e)
]
  where
    later : (o : Option ℕ) → first_with t r s xs ≡ o → (span (record_at t r x) == s) ≡ false → scanned (passed ++ x ∷ []) xs o ≡ scanned passed (x ∷ xs) o
    later None g f = append_assoc passed (x ∷ []) xs
    later (Some h) g f =
        let apart = ne_eqb x h (λ q. both_ways _ f (subst (λ z. (span (record_at t r z) == s) ≡ true) (sym q) (first_has t r s h xs g))) in
        let but : all_but h (x ∷ xs) ≡ x ∷ all_but h xs = rw apart refl in
        ap (λ z. h ∷ z) (append_assoc passed (x ∷ []) (all_but h xs) ∙ ap (λ z. passed ++ z) (sym but))

-- the row of x's children
pub row_scan : (t : Tables) (r x : ℕ) → in_row t r x ≡ row_by (first_with t r (widest_span t r (children t r x)) (children t r x)) (children t r x)
row_scan t r x =
    let kids = children t r x in
    scan t r (widest_span t r kids) [] kids (ascends_filtered (λ y. parent_is x (t.entry y r)) (up_to t.nodes) (ascends_up_to t.nodes))
    ∙ elim (first_with t r (widest_span t r kids) kids) as (λ o. scanned [] kids o ≡ row_by o kids) [ None ↦ refl | Some h ↦ refl ]
