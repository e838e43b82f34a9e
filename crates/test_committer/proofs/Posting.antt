-- One generation more may be posted.
use Rattle.std.proofs.Common.{◌≡◌, ℕ, ◌+◌, ◌<◌, ◌≤◌, List, [], ◌∷◌, ◌++◌, length, map, slice_index, refl, ap, sym, ◌∙◌, subst, inl, inr, append-nil, arith}
use Rattle.std.proofs.lemmas.Bool.{cases_lt}
use Rattle.std.proofs.lemmas.List.{get_or_append_left, get_or_at, length_push}
use Rattle.schemes.specs.declared.parts.Parts.{Parts}
use Rattle.requests.specs.Tickets.{Rises}
use Rattle.generations.specs.declared.posting.Mark.{Mark}
use Rattle.generations.specs.declared.posting.Notice.{Notice}
use Rattle.generations.specs.declared.posting.Notice.TheVariants.{Built}
use Rattle.generations.specs.Notices.{told_to, counts_of, marks_in, numbers_in}
use Rattle.generations.specs.Lawful.{AreCounted, IsLawful}
use Rattle.generations.specs.Posts.{Posts, with_posted}
use Rattle.generations.proofs.Lawfulness.{lawful_push, numbers_push, rising_push, still_up}
use Rattle.test_committer.specs.InARow.{IsInARow}

pub next_lawful : (w : Posts) (n : ℕ) (p : Parts) → IsInARow w n → IsLawful w.opening.starts w.opening.count (w.posted ++ w.kept) → IsLawful w.opening.starts w.opening.count (w.posted ++ Built (n + 1) p ∷ [])
next_lawful w n p row lawful =
    let log = w.posted in
    let all : w.posted ++ w.kept ≡ log = ap (λ (l : List Notice). log ++ l) row.kept ∙ append-nil log in
    let now = subst (IsLawful w.opening.starts w.opening.count) all lawful in
    let marks : marks_in log ≡ marks_in log ++ [] = sym (append-nil (marks_in log)) in
    lawful_push w.opening.starts w.opening.count log (Built (n + 1) p) now row.up
    (subst (λ (ms : List Mark). Rises w.opening.starts (map told_to ms)) marks now.tickets)
    (subst (λ (ms : List Mark). AreCounted w.opening.count (counts_of ms)) marks now.counts)
    (rising_push (numbers_in log) (n + 1) now.numbers (λ k lt. omega (arith, row.numbers k lt)))

one_above : (xs : List ℕ) (n k : ℕ) → ((j : ℕ) → j < length xs → slice_index xs j ≤ n) → k < length (xs ++ (n + 1) ∷ []) → slice_index (xs ++ (n + 1) ∷ []) k ≤ n + 1
one_above xs n k below lt =
    elim (cases_lt k (length xs)) [
      | inl inside ↦ omega (arith, below k inside, get_or_append_left xs ((n + 1) ∷ []) 0 k inside)
      | inr past ↦ let last : length xs ≡ k = omega (arith, length_push xs (n + 1)) in omega (arith, get_or_at xs (n + 1) [] 0 k last)
    ]

pub next_row : (w v : Posts) (n : ℕ) (p : Parts) → IsInARow w n → v ≡ with_posted w (Built (n + 1) p) → IsInARow v (n + 1)
next_row w v n p row is =
    let numbers = numbers_push w.posted (Built (n + 1) p) in
    let now : IsInARow (with_posted w (Built (n + 1) p)) (n + 1) = record {
      kept = refl;
      up = still_up w.posted (Built (n + 1) p) row.up refl;
      numbers = subst (λ (xs : List ℕ). (k : ℕ) → k < length xs → slice_index xs k ≤ n + 1) (sym numbers) (λ k lt. one_above (numbers_in w.posted) n k row.numbers lt);
    } in
    subst (λ (x : Posts). IsInARow x (n + 1)) (sym is) now
