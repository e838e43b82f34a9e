-- The exchange that adds a posting keeps the rule.
use Rattle.std.proofs.Common.{◌≡◌, ℕ, ◌+◌, ◌<◌, ◌==◌, Bool, true, false, List, [], ◌∷◌, ◌++◌, length, refl, ap, sym, ◌∙◌, subst, arith, inl, length-append, None}
use Rattle.std.proofs.lemmas.List.{append-nil}
use Rattle.std.proofs.lemmas.List.Concat.{flat_map-append}
use Rattle.std.proofs.lemmas.Bool.Decides.{nat_tests}
use mathlib.Core.List.{IsPrefix}
use prog.Atomic.{either}
use Rattle.logbook.specs.Pages.{Cell, cell, keeps, no_nib, step, Moves, Goes}
use Rattle.generations.specs.declared.posting.Notice.{Notice}
use Rattle.generations.specs.declared.posting.Entry.{Entry}
use Rattle.generations.specs.declared.posting.Entry.TheVariants.{Told}
use Rattle.generations.specs.Entries.{told_by, notices}
use Rattle.generations.specs.Rules.{IsCounted, Appends}

abbrev pub shown : List Entry → List Entry
shown log = []

abbrev pub moved : List Entry → List Entry → ℕ → Type 0
moved xs ys n = Unit {0}

-- notices of a beginning are a beginning of the notices
pub notices_on : (xs ys : List Entry) → IsPrefix xs ys → IsPrefix (notices xs) (notices ys)
notices_on xs ys p = (notices p.0, sym (flat_map-append told_by xs p.0) ∙ ap notices p.1)

-- a beginning with as many notices has all
none_more : (xs ys : List Notice) → length (xs ++ ys) ≡ length xs → ys ≡ []
none_more xs [] same = refl
none_more xs (y ∷ ys) same = absurd (omega (arith, length-append xs (y ∷ ys), same))

all_seen : (v log : List Entry) → IsPrefix v log → length (notices log) ≡ length (notices v) → notices log ≡ notices v
all_seen v log p same =
    let parts : notices v ++ notices p.0 ≡ notices log = sym (flat_map-append told_by v p.0) ∙ ap notices p.1 in
    let none : notices p.0 ≡ [] = none_more (notices v) (notices p.0) (ap length parts ∙ same) in
    sym parts ∙ (ap (λ l. notices v ++ l) none ∙ append-nil (notices v))

pub adds_goes : (log v : List Entry) (e : Notice) (old : ℕ) → length (notices v) ≡ old → IsPrefix v log
    → (b : Bool) → (length (notices log) == old) ≡ b
    → Goes IsCounted shown moved 0 (v, (no_nib, None)) (λ n. either (n == old) (old + 1) n) (Appends (step 0 old (old + 1) (Told e)) (v, (no_nib, None))) ((length (notices log), true) ∷ []) log
adds_goes log v e old len pre true is =
    let here : length (notices log) ≡ old = grind (arith, nat_tests) in
    let same : notices log ≡ notices v = all_seen v log pre (here ∙ sym len) in
    let more : notices (log ++ Told e ∷ []) ≡ notices log ++ e ∷ [] = flat_map-append told_by log (Told e ∷ []) in
    let n : either (length (notices log) == old) (old + 1) (length (notices log)) ≡ length (notices (log ++ Told e ∷ [])) = rw is (omega (arith, ap length more, length-append (notices log) (e ∷ []))) in (
      keeps,
      Told e ∷ [],
      None,
      tt,
      record { words = ap (λ (k : ℕ). (k, true) ∷ []) n },
      inl (refl, refl),
      rw is (more ∙ ap (λ w. w ++ e ∷ []) same),
    )
adds_goes log v e old len pre false is =
    let all : log ++ [] ≡ log = append-nil log in
    let n : either (length (notices log) == old) (old + 1) (length (notices log)) ≡ length (notices (log ++ [])) = rw is (ap (λ l. length (notices l)) (sym all)) in (
      keeps,
      [],
      None,
      tt,
      record { words = ap (λ (k : ℕ). (k, true) ∷ []) n },
      inl (refl, refl),
      rw is (ap (λ l. length (notices l)) all),
    )

-- whatever the book is, the exchange adds the posting to all that was seen, or finds that there are more
pub adds_moves : (v : List Entry) (e : Notice) (old : ℕ) → length (notices v) ≡ old
    → Moves IsCounted shown moved 0 (v, (no_nib, None)) (λ n. either (n == old) (old + 1) n) (Appends (step 0 old (old + 1) (Told e)) (v, (no_nib, None)))
adds_moves v e old len cs log kept pre away =
    let P : List Cell → Type 0 = λ c. (0 < length c) × ((cell c 0).1 ≡ true) × Goes IsCounted shown moved 0 (v, (no_nib, None)) (λ n. either (n == old) (old + 1) n) (Appends (step 0 old (old + 1) (Told e)) (v, (no_nib, None))) c log in
    subst P (sym kept.words) (omega arith, refl, adds_goes log v e old len pre (length (notices log) == old) refl)
