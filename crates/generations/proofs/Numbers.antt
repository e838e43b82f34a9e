-- The numbers of generations.
use Rattle.std.proofs.Common.{◌≡◌, ◌≢◌, ℕ, zero, suc, ◌<◌, ◌≤◌, List, [], ◌∷◌, ◌++◌, length, map, slice_index, Option, Some, None, refl, ap, ◌∙◌, append-nil, arith}
use Rattle.std.specs.Option.{option_map}
use Rattle.std.specs.List.{last_or}
use Rattle.std.specs.List.Sorted.{IsStrictlyIncreasing}
use Rattle.std.proofs.lemmas.List.Concat.{flat_map-append}
use Rattle.schemes.specs.declared.parts.Parts.{Parts}
use Rattle.generations.specs.declared.posting.Notice.{Notice}
use Rattle.generations.specs.declared.posting.Notice.TheVariants.{Built}
use Rattle.generations.specs.Notices.{generation_of, generations_in, numbers_in, newest_in}
use Rattle.generations.proofs.Lawfulness.{tail_rises}

last_push : {A : Type 0} (o : Option A) (xs : List A) (x : A) → last_or o (xs ++ x ∷ []) ≡ Some x
last_push o [] x = refl
last_push o (y ∷ ys) x = last_push (Some y) ys x

last_map : {A B : Type 0} (f : A → B) (o : Option A) (xs : List A) → last_or (option_map f o) (map f xs) ≡ option_map f (last_or o xs)
last_map f o [] = refl
last_map f o (x ∷ xs) = last_map f (Some x) xs

some_last : {A : Type 0} (x : A) (xs : List A) → last_or (Some x) xs ≡ None → ⊥
some_last x [] e = absurd cc
some_last x (y ∷ ys) e = some_last y ys e

no_last : {A : Type 0} (xs : List A) → last_or None xs ≡ None → xs ≡ []
no_last [] e = refl
no_last (x ∷ xs) e = absurd (some_last x xs e)

-- of rising numbers the last is the greatest
up_to_last_from : (x : ℕ) (xs : List ℕ) (m : ℕ) → IsStrictlyIncreasing (x ∷ xs) → last_or (Some x) xs ≡ Some m → (k : ℕ) → k < length (x ∷ xs) → slice_index (x ∷ xs) k ≤ m
up_to_last_from x [] m rises last zero within = let e : x ≡ m = cc in omega (arith, e)
up_to_last_from x [] m rises last (suc k) within = absurd (omega (arith, within))
up_to_last_from x (y ∷ ys) m rises last zero within =
    let first : x < y = rises 0 (omega arith) in
    let rest : y ≤ m = up_to_last_from y ys m (tail_rises x (y ∷ ys) rises) last 0 (omega arith) in
    omega (arith, first, rest)
up_to_last_from x (y ∷ ys) m rises last (suc k) within = up_to_last_from y ys m (tail_rises x (y ∷ ys) rises) last k (omega (arith, within))

up_to_last : (xs : List ℕ) (m : ℕ) → IsStrictlyIncreasing xs → last_or None xs ≡ Some m → (k : ℕ) → k < length xs → slice_index xs k ≤ m
up_to_last [] m rises last k within = absurd (omega (arith, within))
up_to_last (x ∷ xs) m rises last k within = up_to_last_from x xs m rises last k within

generations_push : (log : List Notice) (p : Notice) → generations_in (log ++ p ∷ []) ≡ generations_in log ++ generation_of p
generations_push log p = flat_map-append generation_of log (p ∷ []) ∙ ap (λ l. generations_in log ++ l) (append-nil (generation_of p))

-- a notice of no generation leaves the newest
pub same_newest : (log : List Notice) (p : Notice) → generation_of p ≡ [] → newest_in (log ++ p ∷ []) ≡ newest_in log
same_newest log p none = ap (last_or None) (generations_push log p ∙ (ap (λ l. generations_in log ++ l) none ∙ append-nil (generations_in log)))

-- a generation is the newest
pub now_newest : (log : List Notice) (number : ℕ) (scheme : Parts) → newest_in (log ++ Built number scheme ∷ []) ≡ Some (number, scheme)
now_newest log number scheme = ap (last_or None) (generations_push log (Built number scheme)) ∙ last_push None (generations_in log) (number, scheme)

-- where the newest generation isn't ahead of a count, and has another number, all numbers are below it
pub all_below : (log : List Notice) (count : ℕ) → IsStrictlyIncreasing (numbers_in log) → ((g : ℕ × Parts) → newest_in log ≡ Some g → g.0 ≤ count) → option_map (λ g. g.0) (newest_in log) ≢ Some count
    → (k : ℕ) → k < length (numbers_in log) → slice_index (numbers_in log) k < count
all_below log count rises behind other =
    let by : (o : Option (ℕ × Parts)) → newest_in log ≡ o → (k : ℕ) → k < length (numbers_in log) → slice_index (numbers_in log) k < count = λ o. elim o as (λ o. newest_in log ≡ o → (k : ℕ) → k < length (numbers_in log) → slice_index (numbers_in log) k < count) [
      | None ↦ λ e k within. let none : numbers_in log ≡ [] = ap (map (λ g. g.0)) (no_last (generations_in log) e) in absurd (omega (arith, within, ap length none))
      | Some g ↦ λ e k within.
          let last : last_or None (numbers_in log) ≡ Some g.0 = last_map (λ g. g.0) None (generations_in log) ∙ ap (option_map (λ g. g.0)) e in
          let least : slice_index (numbers_in log) k ≤ g.0 = up_to_last (numbers_in log) g.0 rises last k within in
          let most : g.0 ≤ count = behind g e in
          let apart : g.0 ≢ count = λ same. other (ap (option_map (λ g. g.0)) e ∙ ap Some same) in
          omega (arith, least, most, apart)
    ] in
    by (newest_in log) refl
