-- What stands on a shelf was published, and under one number one scheme was.
use Rattle.std.proofs.Common.{◌≡◌, ◌⊎◌, inl, inr, ⊎_elim, ◌<◌, ◌-◌, ◌==◌, ℕ, zero, suc, Bool, true, false, cond, List, [], ◌∷◌, ◌++◌, length, map, drop, fold, Option, Some, None, slice_index_or, refl, sym, ap, ◌∙◌, subst, arith}
use Rattle.std.specs.List.{Contains}
use Rattle.std.specs.List.Sorted.{IsStrictlyIncreasing}
use Rattle.std.proofs.lemmas.Bool.{eqb-true}
use Rattle.std.proofs.lemmas.List.Concat.{flat_map-append}
use Rattle.std.proofs.lemmas.List.Elements.{Contains-append_right}
use mathlib.Core.List.{IsPrefix}
use Rattle.schemes.specs.declared.parts.Parts.{Parts}
use Rattle.generations.specs.declared.posting.Notice.{Notice}
use Rattle.generations.specs.declared.posting.Notice.TheVariants.{Marked, Failed, Built}
use Rattle.generations.specs.Notices.{generation_of, generations_in}
use Rattle.generations.specs.Shelves.{most_shelved}
use Rattle.generations.specs.Boards.{BoardState, after, fresh, scheme_of}
use Rattle.generations.specs.Beginnings.{Beginning, GoesOn, board_after}
use Rattle.generations.proofs.Lawfulness.{tail_rises}
use Rattle.forwarders.specs.Arrivals.{IsLawfulList, IsPublished}

-- ---- one of many generations

-- the generation is one of these
abbrev pub Among : List (ℕ × Parts) → ℕ → Parts → Type 0
Among [] n p = ⊥
Among (g ∷ gs) n p = ((g.0 ≡ n) × (g.1 ≡ p)) ⊎ Among gs n p

among_at : (gs : List (ℕ × Parts)) (n : ℕ) (p : Parts) (k : ℕ) → k < length gs → slice_index_or gs k (n, p) ≡ (n, p) → Among gs n p
among_at [] n p k lt e = absurd (omega (arith, lt))
among_at (g ∷ gs) n p zero lt e = (let same : g ≡ (n, p) = e in inl (ap (λ (h : ℕ × Parts). h.0) same, ap (λ (h : ℕ × Parts). h.1) same))
among_at (g ∷ gs) n p (suc k) lt e = inr (among_at gs n p k (omega (arith, lt)) e)

pub among_before : (gs hs : List (ℕ × Parts)) (n : ℕ) (p : Parts) → Among gs n p → Among (gs ++ hs) n p
among_before [] hs n p h = absurd h
among_before (g ∷ gs) hs n p h = ⊎_elim (λ x. inl x) (λ x. inr (among_before gs hs n p x)) h

among_prefix : (log longer : List Notice) (n : ℕ) (p : Parts) → IsPrefix log longer → Among (generations_in log) n p → Among (generations_in longer) n p
among_prefix log longer n p prefix h =
    subst (λ (l : List Notice). Among (generations_in l) n p) prefix.1
    (subst (λ (gs : List (ℕ × Parts)). Among gs n p) (sym (flat_map-append generation_of log prefix.0)) (among_before (generations_in log) (generations_in prefix.0) n p h))

-- ---- the shelf

-- each generation on the shelf is one of these
abbrev pub AreAmong : List (ℕ × Parts) → List (Option (ℕ × Parts)) → Type 0
AreAmong gs [] = Unit {0}
AreAmong gs (None ∷ shelf) = AreAmong gs shelf
AreAmong gs (Some g ∷ shelf) = Among gs g.0 g.1 × AreAmong gs shelf

are_append : (gs : List (ℕ × Parts)) (xs ys : List (Option (ℕ × Parts))) → AreAmong gs xs → AreAmong gs ys → AreAmong gs (xs ++ ys)
are_append gs [] ys a b = b
are_append gs (None ∷ xs) ys a b = are_append gs xs ys a b
are_append gs (Some g ∷ xs) ys a b = (a.0, are_append gs xs ys a.1 b)

are_drop : (gs : List (ℕ × Parts)) (k : ℕ) (xs : List (Option (ℕ × Parts))) → AreAmong gs xs → AreAmong gs (drop k xs)
are_drop gs zero xs h = h
are_drop gs (suc k) [] h = h
are_drop gs (suc k) (None ∷ xs) h = are_drop gs k xs h
are_drop gs (suc k) (Some g ∷ xs) h = are_drop gs k xs h.1

pub shelf_fold : (gs : List (ℕ × Parts)) (log : List Notice) (b : BoardState) → AreAmong gs b.shelf → ((n : ℕ) (p : Parts) → Among (generations_in log) n p → Among gs n p) → AreAmong gs (fold after b log).shelf
shelf_fold gs [] b h sub = h
shelf_fold gs (Marked ms ∷ log) b h sub = shelf_fold gs log (after b (Marked ms)) h sub
shelf_fold gs (Failed ∷ log) b h sub = shelf_fold gs log (after b Failed) h sub
shelf_fold gs (Built n p ∷ log) b h sub =
    shelf_fold gs log (after b (Built n p))
    (are_drop gs (length (b.shelf ++ Some (n, p) ∷ []) - most_shelved) (b.shelf ++ Some (n, p) ∷ []) (are_append gs b.shelf (Some (n, p) ∷ []) h (sub n p (inl (refl, refl)), tt)))
    (λ m q x. sub m q (inr x))

pub found_among : (gs : List (ℕ × Parts)) (shelf : List (Option (ℕ × Parts))) (n : ℕ) (p : Parts) → AreAmong gs shelf → scheme_of n shelf ≡ Some p → Among gs n p
found_among gs [] n p h e = absurd (let f : ◌≡◌ {A = Option Parts} None (Some p) = e in cc)
found_among gs (None ∷ shelf) n p h e = found_among gs shelf n p h e
found_among gs (Some g ∷ shelf) n p h e = by (g.0 == n) refl e (λ f. found_among gs shelf n p h.1 f)
  where
    by : (b : Bool) → (g.0 == n) ≡ b → cond b (Some g.1) (scheme_of n shelf) ≡ Some p → (scheme_of n shelf ≡ Some p → Among gs n p) → Among gs n p
    by true is f rest = (let same : g.1 ≡ p = cc in subst (λ (q : Parts). Among gs n q) same (subst (λ (k : ℕ). Among gs k g.1) (eqb-true g.0 n is) h.0))
    by false is f rest = rest f

-- ---- under one number stands one scheme

first_two : (x y : ℕ) (xs : List ℕ) → IsStrictlyIncreasing (x ∷ y ∷ xs) → x < y
first_two x y xs rises = rises 0 (omega arith)

greater : (x : ℕ) (gs : List (ℕ × Parts)) (n : ℕ) (p : Parts) → IsStrictlyIncreasing (x ∷ map (λ g. g.0) gs) → Among gs n p → x < n
greater x [] n p rises h = absurd h
greater x (g ∷ gs) n p rises h =
    let less : x < g.0 = first_two x g.0 (map (λ g. g.0) gs) rises in
    ⊎_elim (λ at. subst (λ (k : ℕ). x < k) at.0 less)
    (λ behind. (let more : g.0 < n = greater g.0 gs n p (tail_rises x (g.0 ∷ map (λ g. g.0) gs) rises) behind in omega arith)) h

pub one_among : (gs : List (ℕ × Parts)) (n : ℕ) (p q : Parts) → IsStrictlyIncreasing (map (λ g. g.0) gs) → Among gs n p → Among gs n q → p ≡ q
one_among [] n p q rises a b = absurd a
one_among (g ∷ gs) n p q rises (inl a) (inl b) = sym a.1 ∙ b.1
one_among (g ∷ gs) n p q rises (inl a) (inr b) = (let same : g.0 ≡ n = a.0 in let less : g.0 < n = greater g.0 gs n q rises b in absurd (omega arith))
one_among (g ∷ gs) n p q rises (inr a) (inl b) = (let same : g.0 ≡ n = b.0 in let less : g.0 < n = greater g.0 gs n p rises a in absurd (omega arith))
one_among (g ∷ gs) n p q rises (inr a) (inr b) = one_among gs n p q (tail_rises g.0 (map (λ g. g.0) gs) rises) a b

-- a scheme that is found on the shelf of a beginning is the one that the list has for its number
pub found_published : (all seen : Beginning) (n : ℕ) (p q : Parts) → IsLawfulList all → IsPublished all n p → GoesOn seen all → scheme_of n (board_after seen).shelf ≡ Some q → q ≡ p
found_published all seen n p q lawful has on found =
    let mine : Among (generations_in seen.log) n q =
    found_among (generations_in seen.log) (board_after seen).shelf n q (shelf_fold (generations_in seen.log) seen.log (fresh seen.opening.starts seen.opening.count) tt (λ m r h. h)) found in
    one_among (generations_in all.log) n q p lawful.numbers (among_prefix seen.log all.log n q on.1 mine) (among_at (generations_in all.log) n p has.0 has.1 has.2)

contains_among : (gs : List (ℕ × Parts)) (n : ℕ) (p : Parts) → Among gs n p → Contains gs (n, p)
contains_among [] n p h = absurd h
contains_among (g ∷ gs) n p (inl same) = (0, omega arith, pair_is g n p same.0 same.1)
  where
    pair_is : (h : ℕ × Parts) (m : ℕ) (q : Parts) → h.0 ≡ m → h.1 ≡ q → h ≡ (m, q)
    pair_is h m q a b = ap (λ (k : ℕ). (k, h.1)) a ∙ ap (λ (r : Parts). (m, r)) b
contains_among (g ∷ gs) n p (inr behind) = Contains-append_right (g ∷ []) gs (n, p) (contains_among gs n p behind)

-- a scheme that is found on the shelf of a beginning was published under its number
pub published_there : (all seen : Beginning) (n : ℕ) (q : Parts) → GoesOn seen all → scheme_of n (board_after seen).shelf ≡ Some q → IsPublished all n q
published_there all seen n q on found =
    let mine : Among (generations_in seen.log) n q =
    found_among (generations_in seen.log) (board_after seen).shelf n q (shelf_fold (generations_in seen.log) seen.log (fresh seen.opening.starts seen.opening.count) tt (λ m r h. h)) found in
    contains_among (generations_in all.log) n q (among_prefix seen.log all.log n q on.1 mine)
