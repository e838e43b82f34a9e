-- What stands on a board's shelf was posted, under one number one scheme was, and what isn't found there is behind as many later ones
-- as the shelf has room for.
use Rattle.std.proofs.Common.{◌≡◌, ◌⊎◌, inl, inr, ⊎_elim, ◌<◌, ◌≤◌, ◌+◌, ◌-◌, ◌==◌, ℕ, Bool, true, false, cond, List, [], ◌∷◌, ◌++◌, length, map, take, drop, fold, Option, Some, None, refl, sym, ap, ◌∙◌, subst, arith, append_assoc, append-nil, length-append, length-drop}
use Rattle.std.specs.List.Sorted.{IsStrictlyIncreasing}
use Rattle.std.proofs.lemmas.Bool.{eqb-false, cases_lt, eq-eqb}
use Rattle.std.proofs.lemmas.List.{take-append-drop, drop-drop, drop-append-le, map-append, length-map, length-take}
use Rattle.std.proofs.lemmas.List.Concat.{flat_map-append}
use mathlib.Core.List.{IsPrefix}
use Rattle.schemes.specs.declared.parts.Parts.{Parts}
use Rattle.generations.specs.declared.posting.Notice.{Notice}
use Rattle.generations.specs.declared.posting.Notice.TheVariants.{Marked, Failed, Built}
use Rattle.generations.specs.Notices.{generation_of, generations_in, numbers_in}
use Rattle.generations.specs.Shelves.{most_shelved, newest}
use Rattle.generations.specs.Boards.{BoardState, after, fresh, board_of, number_or, latest_of, scheme_of}
use Rattle.generations.proofs.Prefixes.{prefix_trans, prefix_shorter, prefix_length}
use Rattle.forwarders.proofs.Published as published
use Rattle.event_laws.specs.Ways.{IsPosted}
use Rattle.event_laws.specs.Replies.{IsLeftBehind}
use Rattle.event_laws.proofs.Every.{on_bool}

-- ---- what was posted is one of the generations of the log, and the other way round

among_behind : (gs hs : List (ℕ × Parts)) (n : ℕ) (p : Parts) → published.Among hs n p → published.Among (gs ++ hs) n p
among_behind [] hs n p h = h
among_behind (g ∷ gs) hs n p h = inr (among_behind gs hs n p h)

generations_split : (before after : List Notice) (n : ℕ) (p : Parts) → generations_in (before ++ Built n p ∷ after) ≡ generations_in before ++ (n, p) ∷ generations_in after
generations_split before after n p = flat_map-append generation_of before (Built n p ∷ after)

posted_among : (log : List Notice) (n : ℕ) (p : Parts) → IsPosted log n p → published.Among (generations_in log) n p
posted_among log n p h = subst (λ (gs : List (ℕ × Parts)). published.Among gs n p) (sym (ap generations_in h.there ∙ generations_split h.before h.after n p))
    (among_behind (generations_in h.before) ((n, p) ∷ generations_in h.after) n p (inl (refl, refl)))

one_further : (notice : Notice) (log : List Notice) (n : ℕ) (p : Parts) → IsPosted log n p → IsPosted (notice ∷ log) n p
one_further notice log n p h = record { before = notice ∷ h.before; after = h.after; there = ap (λ (l : List Notice). notice ∷ l) h.there }

among_posted : (log : List Notice) (n : ℕ) (p : Parts) → published.Among (generations_in log) n p → IsPosted log n p
among_posted [] n p h = absurd h
among_posted (Marked ms ∷ log) n p h = one_further (Marked ms) log n p (among_posted log n p h)
among_posted (Failed ∷ log) n p h = one_further Failed log n p (among_posted log n p h)
among_posted (Built m q ∷ log) n p h = ⊎_elim
    (λ x. record { before = []; after = log; there = λ i. Built (x.0 i) (x.1 i) ∷ log })
    (λ x. one_further (Built m q) log n p (among_posted log n p x)) h

pub posted_prefix : (log longer : List Notice) (n : ℕ) (p : Parts) → IsPrefix log longer → IsPosted log n p → IsPosted longer n p
posted_prefix log longer n p prefix h = record {
  before = h.before;
  after = h.after ++ prefix.0;
  there = sym prefix.1 ∙ (ap (λ (l : List Notice). l ++ prefix.0) h.there ∙ append_assoc h.before (Built n p ∷ h.after) prefix.0);
}

pub taken_prefix : (k : ℕ) (log : List Notice) → IsPrefix (take k log) log
taken_prefix k log = (drop k log, take-append-drop k log)

-- who sees more of a longer list sees a longer beginning
pub seen_more : (k j : ℕ) (log longer : List Notice) → k ≤ j → IsPrefix log longer → IsPrefix (take k log) (take j longer)
seen_more k j log longer le prefix =
    prefix_shorter (take k log) (take j longer) longer (prefix_trans (take k log) log longer (taken_prefix k log) prefix) (taken_prefix j longer)
    (let a = length-take k log in let b = length-take j longer in let c = prefix_length log longer prefix in omega (arith, a, b, c, le))

-- under one number stands one scheme
pub one_scheme : (log : List Notice) (n : ℕ) (p q : Parts) → IsStrictlyIncreasing (numbers_in log) → IsPosted log n p → IsPosted log n q → p ≡ q
one_scheme log n p q rises a b = published.one_among (generations_in log) n p q rises (posted_among log n p a) (posted_among log n q b)

-- ---- what is found on the shelf

-- a scheme that is found on the shelf was posted
pub found_posted : (starts : List ℕ) (count : ℕ) (log : List Notice) (n : ℕ) (p : Parts) → scheme_of n (board_of starts count log).shelf ≡ Some p → IsPosted log n p
found_posted starts count log n p e =
    among_posted log n p (published.found_among (generations_in log) (board_of starts count log).shelf n p (published.shelf_fold (generations_in log) log (fresh starts count) tt (λ m q h. h)) e)

-- the newest generation of a shelf stands there, or was found before it
latest_by : (found : Option ℕ) (shelf : List (Option (ℕ × Parts))) (n : ℕ) → fold number_or found shelf ≡ Some n → (found ≡ Some n) ⊎ ((p : Parts) × (scheme_of n shelf ≡ Some p))
latest_by found [] n e = inl e
latest_by found (None ∷ shelf) n e = latest_by found shelf n e
latest_by found (Some g ∷ shelf) n e = inr (on_bool (λ b. (p : Parts) × (cond b (Some g.1) (scheme_of n shelf) ≡ Some p)) (g.0 == n) (λ _. (g.1, refl))
    (λ other. ⊎_elim (λ same. (let one : g.0 ≡ n = cc in absurd (eqb-false g.0 n other one))) (λ h. h) (latest_by (Some g.0) shelf n e)))

pub latest_found : (shelf : List (Option (ℕ × Parts))) (n : ℕ) → latest_of shelf ≡ Some n → (p : Parts) × (scheme_of n shelf ≡ Some p)
latest_found shelf n e = ⊎_elim (λ none. absurd (let f : ◌≡◌ {A = Option ℕ} None (Some n) = none in cc)) (λ h. h) (latest_by None shelf n e)

-- ---- the shelf has the newest generations

-- of n numbers all but the last k, and with one more
one_later : (n k : ℕ) → (n - k) + (((n - (n - k)) + 1) - k) ≡ (n + 1) - k
one_later n k = omega arith

newest_push : {A : Type 0} (xs : List A) (y : A) → newest (newest xs ++ y ∷ []) ≡ newest (xs ++ y ∷ [])
newest_push {A} xs y =
    let n = length xs in
    let d = n - most_shelved in
    let whole : drop d xs ++ y ∷ [] ≡ drop d (xs ++ y ∷ []) = sym (drop-append-le d xs (y ∷ []) (omega arith)) in
    let long : length (drop d xs ++ y ∷ []) ≡ (n - d) + 1 = length-append (drop d xs) (y ∷ []) ∙ ap (λ (k : ℕ). k + 1) (length-drop d xs) in
    let longer : length (xs ++ y ∷ []) ≡ n + 1 = length-append xs (y ∷ []) in
    ap (λ (l : List A). drop (length (drop d xs ++ y ∷ []) - most_shelved) l) whole
    ∙ drop-drop (length (drop d xs ++ y ∷ []) - most_shelved) d (xs ++ y ∷ [])
    ∙ ap (λ (k : ℕ). drop k (xs ++ y ∷ [])) (ap (λ (k : ℕ). d + (k - most_shelved)) long ∙ one_later n most_shelved ∙ ap (λ (k : ℕ). k - most_shelved) (sym longer))

-- the places of generations
abbrev places : List (ℕ × Parts) → List (Option (ℕ × Parts))
places gs = map (λ (g : ℕ × Parts). Some g) gs

shelf_fold : (xs : List (Option (ℕ × Parts))) (log : List Notice) (b : BoardState) → b.shelf ≡ newest xs → (fold after b log).shelf ≡ newest (xs ++ places (generations_in log))
shelf_fold xs [] b h = h ∙ ap newest (sym (append-nil xs))
shelf_fold xs (Marked ms ∷ log) b h = shelf_fold xs log (after b (Marked ms)) h
shelf_fold xs (Failed ∷ log) b h = shelf_fold xs log (after b Failed) h
shelf_fold xs (Built n p ∷ log) b h =
    shelf_fold (xs ++ Some (n, p) ∷ []) log (after b (Built n p)) (ap (λ (l : List (Option (ℕ × Parts))). newest (l ++ Some (n, p) ∷ [])) h ∙ newest_push xs (Some (n, p)))
    ∙ ap newest (append_assoc xs (Some (n, p) ∷ []) (places (generations_in log)))

-- what stands on a shelf is found there
is_found : (us vs : List (Option (ℕ × Parts))) (n : ℕ) (p : Parts) → scheme_of n (us ++ Some (n, p) ∷ vs) ≡ None → ⊥
is_found [] vs n p e = (let f : Some p ≡ None = sym (ap (λ (b : Bool). cond b (Some p) (scheme_of n vs)) (eq-eqb n n refl)) ∙ e in cc)
is_found (None ∷ us) vs n p e = is_found us vs n p e
is_found (Some g ∷ us) vs n p e = (elim (g.0 == n) as (λ b. cond b (Some g.1) (scheme_of n (us ++ Some (n, p) ∷ vs)) ≡ None → ⊥) [ true ↦ λ f. absurd (cc f) | false ↦ is_found us vs n p ]) e

-- where fewer are later, it is found
few_later : (before later : List (ℕ × Parts)) (n : ℕ) (p : Parts) → length later < most_shelved → scheme_of n (newest (places (before ++ (n, p) ∷ later))) ≡ None → ⊥
few_later before later n p few e =
    let us = places before in
    let vs = places later in
    let many : length vs ≡ length later = length-map later (λ (g : ℕ × Parts). Some g) in
    let long : length (us ++ Some (n, p) ∷ vs) ≡ length us + length (Some (n, p) ∷ vs) = length-append us (Some (n, p) ∷ vs) in
    let d = length (us ++ Some (n, p) ∷ vs) - most_shelved in
    let cut : newest (places (before ++ (n, p) ∷ later)) ≡ drop d us ++ Some (n, p) ∷ vs =
    ap newest (map-append (λ (g : ℕ × Parts). Some g) before ((n, p) ∷ later)) ∙ drop-append-le d us (Some (n, p) ∷ vs) (omega arith) in
    is_found (drop d us) vs n p (sym (ap (scheme_of n) cut) ∙ e)

pub left_behind : (starts : List ℕ) (count : ℕ) (log : List Notice) (n : ℕ) (p : Parts) → IsPosted log n p → scheme_of n (board_of starts count log).shelf ≡ None → IsLeftBehind log n
left_behind starts count log n p posted e =
    let before = generations_in posted.before in
    let later = generations_in posted.after in
    let shelf : (board_of starts count log).shelf ≡ newest (places (before ++ (n, p) ∷ later)) =
    shelf_fold [] log (fresh starts count) refl ∙ ap (λ (gs : List (ℕ × Parts)). newest (places gs)) (ap generations_in posted.there ∙ generations_split posted.before posted.after n p) in
    elim (cases_lt (length later) most_shelved) [
      | inl few ↦ absurd (few_later before later n p few (sym (ap (scheme_of n) shelf) ∙ e))
      | inr many ↦ record { scheme = p; posted = posted; later = many }
    ]
