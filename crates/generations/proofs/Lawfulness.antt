-- When a lawful list of notices goes on lawfully, and what a board says of it.
use Rattle.std.proofs.Common.{◌≡◌, ◌⊎◌, ℕ, zero, suc, ◌+◌, ◌<◌, Bool, true, false, ◌||◌, List, [], ◌∷◌, ◌++◌, length, map, fold, slice_get, slice_index, Some, refl, ap, sym, ◌∙◌, subst, inl, inr, ⊎_elim, append-nil, length-append, arith}
use Rattle.std.proofs.lemmas.List.{map-append}
use Rattle.std.proofs.lemmas.List.Concat.{flat_map-append}
use Rattle.std.proofs.lemmas.List.FromFn.{length-range_with_len}
use Rattle.std.specs.List.{range_with_len}
use Rattle.std.specs.List.Sorted.{IsStrictlyIncreasing}
use mathlib.Core.List.{IsPrefix}
use Rattle.schemes.specs.declared.parts.Parts.{Parts}
use Rattle.requests.specs.Tickets.{Rises}
use Rattle.requests.proofs.TicketLemmas.{rises_first}
use Rattle.generations.specs.declared.posting.Mark.{Mark}
use Rattle.generations.specs.declared.posting.Verdict.{Verdict}
use Rattle.generations.specs.declared.posting.Verdict.TheVariants.{Accepted, Refused}
use Rattle.generations.specs.declared.posting.Notice.{Notice}
use Rattle.generations.specs.declared.posting.Notice.TheVariants.{Marked, Failed, Built}
use Rattle.generations.specs.Notices.{told_to, count_and, counts_of, marks_of, marks_in, generation_of, generations_in, numbers_in, is_down, says_down}
use Rattle.generations.specs.Boards.{BoardState, accepting, counting, counted_by, after, fresh, board_of}
use Rattle.generations.specs.Lawful.{AreCounted, IsLawful}
use Rattle.generations.proofs.LastMarks.{through_marks}
use Rattle.generations.proofs.Prefixes.{prefix_get}

-- ---- the empty list, and one notice more

pub lawful_none : (starts : List ℕ) (start : ℕ) → IsLawful starts start []
lawful_none starts start = record { tickets = tt; counts = refl; numbers = λ k within. absurd (omega arith); last = λ k at. absurd cc }

-- what a list with one more has stood there before, or is the last
pub get_last : {A : Type 0} (l : List A) (a u : A) (j : ℕ) → slice_get (l ++ a ∷ []) j ≡ Some u → (slice_get l j ≡ Some u) ⊎ ((j ≡ length l) × (a ≡ u))
get_last [] a u zero e = inr (refl, cc)
get_last [] a u (suc j) e = absurd cc
get_last (x ∷ xs) a u zero e = inl e
get_last (x ∷ xs) a u (suc j) e = ⊎_elim (λ p. inl p) (λ (t : (j ≡ length xs) × (a ≡ u)). inr (ap suc t.0, t.1)) (get_last xs a u j e)

or_left : (a b : Bool) → (a || b) ≡ false → a ≡ false
or_left true b e = e
or_left false b e = refl

or_right : (a b : Bool) → (a || b) ≡ false → b ≡ false
or_right true b e = absurd cc
or_right false b e = e

-- a list that doesn't say so has no such notice
pub not_down : (log : List Notice) (k : ℕ) → says_down log ≡ false → slice_get log k ≡ Some Failed → ⊥
not_down [] k up at = absurd cc
not_down (p ∷ log) zero up at = let e : p ≡ Failed = cc in let no : is_down p ≡ false = or_left (is_down p) (says_down log) up in let yes : is_down p ≡ true = ap is_down e in cc
not_down (p ∷ log) (suc k) up at = not_down log k (or_right (is_down p) (says_down log) up) at

pub marks_append : (xs ys : List Notice) → marks_in (xs ++ ys) ≡ marks_in xs ++ marks_in ys
marks_append xs ys = flat_map-append marks_of xs ys

pub marks_push : (log : List Notice) (p : Notice) → marks_in (log ++ p ∷ []) ≡ marks_in log ++ marks_of p
marks_push log p = marks_append log (p ∷ []) ∙ ap (λ l. marks_in log ++ l) (append-nil (marks_of p))

pub numbers_append : (xs ys : List Notice) → numbers_in (xs ++ ys) ≡ numbers_in xs ++ numbers_in ys
numbers_append xs ys = ap (map (λ g. g.0)) (flat_map-append generation_of xs ys) ∙ map-append (λ g. g.0) (generations_in xs) (generations_in ys)

pub numbers_push : (log : List Notice) (p : Notice) → numbers_in (log ++ p ∷ []) ≡ numbers_in log ++ map (λ g. g.0) (generation_of p)
numbers_push log p = numbers_append log (p ∷ []) ∙ ap (λ l. numbers_in log ++ map (λ g. g.0) l) (append-nil (generation_of p))

pub lawful_push : (starts : List ℕ) (start : ℕ) (log : List Notice) (p : Notice) → IsLawful starts start log → says_down log ≡ false
    → Rises starts (map told_to (marks_in log ++ marks_of p)) → AreCounted start (counts_of (marks_in log ++ marks_of p)) → IsStrictlyIncreasing (numbers_in log ++ map (λ g. g.0) (generation_of p))
    → IsLawful starts start (log ++ p ∷ [])
lawful_push starts start log p lawful up tickets counts numbers = record {
  tickets = subst (λ (ms : List Mark). Rises starts (map told_to ms)) (sym (marks_push log p)) tickets;
  counts = subst (λ (ms : List Mark). AreCounted start (counts_of ms)) (sym (marks_push log p)) counts;
  numbers = subst IsStrictlyIncreasing (sym (numbers_push log p)) numbers;
  last = λ k at.
      ⊎_elim (λ (early : slice_get log k ≡ Some Failed). absurd (not_down log k up early))
      (λ (late : (k ≡ length log) × (p ≡ Failed)). let long : length (log ++ p ∷ []) ≡ length log + 1 = length-append log (p ∷ []) in ap (λ n. n + 1) late.0 ∙ sym long)
      (get_last log p Failed k at);
}

-- ---- a beginning

pub counts_append : (xs ys : List Mark) → counts_of (xs ++ ys) ≡ counts_of xs ++ counts_of ys
counts_append [] ys = refl
counts_append (m ∷ xs) ys =
    elim m.verdict as (λ v. count_and v (counts_of (xs ++ ys)) ≡ count_and v (counts_of xs) ++ counts_of ys) [
      | Accepted count ↦ ap (λ l. count ∷ l) (counts_append xs ys)
      | Refused op code ↦ counts_append xs ys
    ]

-- a beginning of a range is a range
range_first : (a : ℕ) (xs ys : List ℕ) → xs ++ ys ≡ range_with_len a (length (xs ++ ys)) → xs ≡ range_with_len a (length xs)
range_first a [] ys h = refl
range_first a (x ∷ xs) ys h =
    let head : x ≡ a = cc in
    let tail : xs ++ ys ≡ range_with_len (a + 1) (length (xs ++ ys)) = cc in
    let rest : xs ≡ range_with_len (a + 1) (length xs) = range_first (a + 1) xs ys tail in
    cc

plus_one : (k : ℕ) → suc k + 1 ≡ suc (k + 1)
plus_one k = omega arith

-- behind their first, rising numbers rise
pub tail_rises : (x : ℕ) (xs : List ℕ) → IsStrictlyIncreasing (x ∷ xs) → IsStrictlyIncreasing xs
tail_rises x xs rises k within = subst (λ (n : ℕ). slice_index xs k < slice_index (x ∷ xs) n) (plus_one k) (rises (suc k) (omega (arith, within)))

after_first : (x : ℕ) (xs : List ℕ) (k : ℕ) → slice_index xs k < slice_index xs (k + 1) → slice_index (x ∷ xs) (suc k) < slice_index (x ∷ xs) (suc k + 1)
after_first x xs k less = subst (λ (n : ℕ). slice_index xs k < slice_index (x ∷ xs) n) (sym (plus_one k)) less

-- a beginning of rising numbers rises
pub rising_first : (xs ys : List ℕ) → IsStrictlyIncreasing (xs ++ ys) → IsStrictlyIncreasing xs
rising_first [] ys rises k within = absurd (omega (arith, within))
rising_first (x ∷ []) ys rises k within = absurd (omega (arith, within))
rising_first (x ∷ y ∷ xs) ys rises zero within = rises 0 (omega arith)
rising_first (x ∷ y ∷ xs) ys rises (suc k) within = after_first x (y ∷ xs) k (rising_first (y ∷ xs) ys (tail_rises x ((y ∷ xs) ++ ys) rises) k (omega (arith, within)))

-- a greatest number at the end
pub rising_push : (xs : List ℕ) (n : ℕ) → IsStrictlyIncreasing xs → ((k : ℕ) → k < length xs → slice_index xs k < n) → IsStrictlyIncreasing (xs ++ n ∷ [])
rising_push [] n rises below k within = absurd (omega (arith, within))
rising_push (x ∷ []) n rises below zero within = below 0 (omega arith)
rising_push (x ∷ []) n rises below (suc k) within = absurd (omega (arith, within))
rising_push (x ∷ y ∷ ys) n rises below zero within = rises 0 (omega arith)
rising_push (x ∷ y ∷ ys) n rises below (suc k) within = after_first x ((y ∷ ys) ++ n ∷ []) k (rising_push (y ∷ ys) n (tail_rises x (y ∷ ys) rises) (λ j l. below (suc j) (omega (arith, l))) k (omega (arith, within)))

-- what stands somewhere stands within
get_within : {A : Type 0} (xs : List A) (k : ℕ) (x : A) → slice_get xs k ≡ Some x → k < length xs
get_within [] k x at = absurd cc
get_within (y ∷ xs) zero x at = omega arith
get_within (y ∷ xs) (suc k) x at = let rest = get_within xs k x at in omega (arith, rest)

last_first : (first rest : List Notice) (k : ℕ) → ((j : ℕ) → slice_get (first ++ rest) j ≡ Some Failed → j + 1 ≡ length (first ++ rest)) → slice_get first k ≡ Some Failed → k + 1 ≡ length first
last_first first rest k last at =
    let whole : k + 1 ≡ length (first ++ rest) = last k (prefix_get first (first ++ rest) k Failed (rest, refl) at) in
    let within = get_within first k Failed at in
    let long = length-append first rest in
    omega (arith, whole, within, long)

both_lawful : (starts : List ℕ) (start : ℕ) (first rest : List Notice) → IsLawful starts start (first ++ rest) → IsLawful starts start first
both_lawful starts start first rest lawful = record {
  tickets = rises_first starts (map told_to (marks_in first)) (map told_to (marks_in rest)) (subst (Rises starts) (ap (map told_to) (marks_append first rest) ∙ map-append told_to (marks_in first) (marks_in rest)) lawful.tickets);
  counts = let e : counts_of (marks_in (first ++ rest)) ≡ counts_of (marks_in first) ++ counts_of (marks_in rest) = ap counts_of (marks_append first rest) ∙ counts_append (marks_in first) (marks_in rest) in
      range_first (start + 1) (counts_of (marks_in first)) (counts_of (marks_in rest)) (subst (AreCounted start) e lawful.counts);
  numbers = rising_first (numbers_in first) (numbers_in rest) (subst IsStrictlyIncreasing (numbers_append first rest) lawful.numbers);
  last = λ k at. last_first first rest k lawful.last at;
}

-- a beginning of a lawful list is lawful
pub lawful_first : (starts : List ℕ) (start : ℕ) (first log : List Notice) → IsPrefix first log → IsLawful starts start log → IsLawful starts start first
lawful_first starts start first log begins lawful = both_lawful starts start first begins.0 (subst (IsLawful starts start) (sym begins.1) lawful)

-- ---- counts that go on

pub range_append : (a n m : ℕ) → range_with_len a n ++ range_with_len (a + n) m ≡ range_with_len a (n + m)
range_append a zero m =
    let e : a + 0 ≡ a = omega arith in
    let f : 0 + m ≡ m = omega arith in
    ap (λ (b : ℕ). range_with_len b m) e ∙ ap (range_with_len a) (sym f)
range_append a (suc n) m =
    let g : suc n + m ≡ suc (n + m) = omega arith in
    ap (λ l. a ∷ l) (ap (λ (b : ℕ). range_with_len (a + 1) n ++ range_with_len b m) (let e : a + suc n ≡ (a + 1) + n = omega arith in e) ∙ range_append (a + 1) n m) ∙ ap (range_with_len a) (sym g)

-- marks whose counts go on from so many are counted with those before them
pub counted_append : (start many n : ℕ) (xs ys : List Mark) → AreCounted start (counts_of xs) → start + length (counts_of xs) ≡ many → counts_of ys ≡ range_with_len (many + 1) n
    → AreCounted start (counts_of (xs ++ ys)) × (start + length (counts_of (xs ++ ys)) ≡ many + n)
counted_append start many n xs ys counted is more =
    let k = length (counts_of xs) in
    let at : many + 1 ≡ (start + 1) + k = omega (arith, is) in
    let whole : counts_of (xs ++ ys) ≡ range_with_len (start + 1) (k + n) =
    counts_append xs ys ∙ (ap (λ l. l ++ counts_of ys) counted ∙ (ap (λ l. range_with_len (start + 1) k ++ l) (more ∙ ap (λ b. range_with_len b n) at) ∙ range_append (start + 1) k n)) in
    let long : length (counts_of (xs ++ ys)) ≡ k + n = ap length whole ∙ length-range_with_len (start + 1) (k + n) in
    (whole ∙ ap (λ l. range_with_len (start + 1) l) (sym long), omega (arith, long, is))

-- ---- one notice more, of each kind

pub lawful_down : (starts : List ℕ) (start : ℕ) (log : List Notice) → IsLawful starts start log → says_down log ≡ false → IsLawful starts start (log ++ Failed ∷ [])
lawful_down starts start log lawful up = lawful_push starts start log Failed lawful up
    (subst (λ (ms : List Mark). Rises starts (map told_to ms)) (sym (append-nil (marks_in log))) lawful.tickets)
    (subst (λ (ms : List Mark). AreCounted start (counts_of ms)) (sym (append-nil (marks_in log))) lawful.counts)
    (subst IsStrictlyIncreasing (sym (append-nil (numbers_in log))) lawful.numbers)

-- a generation whose number is above all others
pub lawful_generation : (starts : List ℕ) (start : ℕ) (log : List Notice) (number : ℕ) (scheme : Parts) → IsLawful starts start log → says_down log ≡ false → ((k : ℕ) → k < length (numbers_in log) → slice_index (numbers_in log) k < number)
    → IsLawful starts start (log ++ Built number scheme ∷ [])
lawful_generation starts start log number scheme lawful up above = lawful_push starts start log (Built number scheme) lawful up
    (subst (λ (ms : List Mark). Rises starts (map told_to ms)) (sym (append-nil (marks_in log))) lawful.tickets)
    (subst (λ (ms : List Mark). AreCounted start (counts_of ms)) (sym (append-nil (marks_in log))) lawful.counts)
    (rising_push (numbers_in log) number lawful.numbers above)

-- marks that go on from all that were told
pub lawful_marks : (starts : List ℕ) (start : ℕ) (log : List Notice) (ms : List Mark) → IsLawful starts start log → says_down log ≡ false → Rises starts (map told_to (marks_in log ++ ms)) → AreCounted start (counts_of (marks_in log ++ ms))
    → IsLawful starts start (log ++ Marked ms ∷ [])
lawful_marks starts start log ms lawful up tickets counts = lawful_push starts start log (Marked ms) lawful up tickets counts (subst IsStrictlyIncreasing (sym (append-nil (numbers_in log))) lawful.numbers)

-- a list that ends in no failure says of none
pub still_up : (log : List Notice) (p : Notice) → says_down log ≡ false → is_down p ≡ false → says_down (log ++ p ∷ []) ≡ false
still_up [] p up here = elim (is_down p) as (λ b. b ≡ false → (b || false) ≡ false) [ true ↦ λ e. e | false ↦ λ e. refl ] here
still_up (q ∷ log) p up here =
    let first : is_down q ≡ false = or_left (is_down q) (says_down log) up in
    let rest : says_down (log ++ p ∷ []) ≡ false = still_up log p (or_right (is_down q) (says_down log) up) here in
    ap (λ (b : Bool). b || says_down (log ++ p ∷ [])) first ∙ rest

-- ---- what a board says

accepted_by_one : (s : BoardState) (p : Notice) → (after s p).accepted ≡ fold accepting s.accepted (marks_of p)
accepted_by_one s (Marked ms) = refl
accepted_by_one s Failed = refl
accepted_by_one s (Built number scheme) = refl

pub accepted_as_told : (starts : List ℕ) (start : ℕ) (log : List Notice) → (board_of starts start log).accepted ≡ fold accepting starts (marks_in log)
accepted_as_told starts start log = through_marks (λ s. s.accepted) accepting accepted_by_one (fresh starts start) log

counted_by_one : (s : BoardState) (p : Notice) → (after s p).count ≡ fold counting s.count (marks_of p)
counted_by_one s (Marked ms) = refl
counted_by_one s Failed = refl
counted_by_one s (Built number scheme) = refl

-- one verdict more, where it holds behind it
counts_by : (start : ℕ) (ms : List Mark) → ((s : ℕ) → counts_of ms ≡ range_with_len (s + 1) (length (counts_of ms)) → fold counting s ms ≡ s + length (counts_of ms))
    → (v : Verdict) → count_and v (counts_of ms) ≡ range_with_len (start + 1) (length (count_and v (counts_of ms))) → fold counting (counted_by v start) ms ≡ start + length (count_and v (counts_of ms))
counts_by start ms rest (Accepted count) h =
    let head : count ≡ start + 1 = cc in
    let tail : counts_of ms ≡ range_with_len (start + 1 + 1) (length (counts_of ms)) = cc in
    let e : fold counting (start + 1) ms ≡ start + 1 + length (counts_of ms) = rest (start + 1) tail in
    let f : fold counting count ms ≡ fold counting (start + 1) ms = ap (λ (n : ℕ). fold counting n ms) head in
    f ∙ e ∙ (let g : start + 1 + length (counts_of ms) ≡ start + suc (length (counts_of ms)) = omega arith in g)
counts_by start ms rest (Refused op code) h = rest start h

counts_end : (start : ℕ) (ms : List Mark) → counts_of ms ≡ range_with_len (start + 1) (length (counts_of ms)) → fold counting start ms ≡ start + length (counts_of ms)
counts_end start [] h = omega arith
counts_end start (m ∷ ms) h = counts_by start ms (λ s e. counts_end s ms e) m.verdict h

pub count_as_told : (starts : List ℕ) (start : ℕ) (log : List Notice) → IsLawful starts start log → (board_of starts start log).count ≡ start + length (counts_of (marks_in log))
count_as_told starts start log lawful = through_marks (λ s. s.count) counting counted_by_one (fresh starts start) log ∙ counts_end start (marks_in log) lawful.counts
