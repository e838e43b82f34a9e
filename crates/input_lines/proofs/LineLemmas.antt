-- Lines of bytes, one after the other.
use Rattle.std.proofs.Common.{◌≡◌, ◌≢◌, ◌<◌, ◌≤◌, ◌+◌, ◌++◌, ℕ, zero, suc, List, [], ◌∷◌, Option, Some, MatchOption, slice_get, length, take, drop, refl, sym, ap, subst, ◌∙◌, ⊎_elim, arith, eq-eqb, ne_eqb, length-drop, drop-drop}
use Rattle.std.proofs.lemmas.Bool.{cond-true, cond-false, cases_eq}
use Rattle.std.specs.List.{AllWithin, HoldsAt}
use Rattle.std.specs.Option.{unwrap_or}
use Rattle.std.proofs.lemmas.Iterator.{index_from_first}
use Rattle.std.proofs.lemmas.List.Elements.{All-nil, All-cons, All-head, All-tail}
use Rattle.input_lines.specs.Lines.{after_line, after_lines, first_line, in_front, line_at, line_feed, lines_in}
use Rattle.input_lines.specs.Reading.{Unfed}

module _ (x : ℕ) (xs : List ℕ) where
  -- a line feed ends the first line
  pub first_fed : x ≡ line_feed → first_line (x ∷ xs) ≡ []
  first_fed e = cond-true _ _ _ (eq-eqb x line_feed e)

  pub after_fed : x ≡ line_feed → after_line (x ∷ xs) ≡ xs
  after_fed e = cond-true _ _ _ (eq-eqb x line_feed e)

  pub lines_fed : x ≡ line_feed → lines_in (x ∷ xs) ≡ [] ∷ lines_in xs
  lines_fed e = cond-true _ _ _ (eq-eqb x line_feed e)

  -- another byte is its first
  pub first_other : x ≢ line_feed → first_line (x ∷ xs) ≡ x ∷ first_line xs
  first_other other = cond-false _ _ _ (ne_eqb x line_feed other)

  pub after_other : x ≢ line_feed → after_line (x ∷ xs) ≡ after_line xs
  after_other other = cond-false _ _ _ (ne_eqb x line_feed other)

  pub lines_other : x ≢ line_feed → lines_in (x ∷ xs) ≡ in_front x (lines_in xs)
  lines_other other = cond-false _ _ _ (ne_eqb x line_feed other)

-- the first line has no line feed
pub first_unfed : (xs : List ℕ) → Unfed (first_line xs)
first_unfed [] = All-nil (λ byte. byte ≢ line_feed)
first_unfed (x ∷ xs) =
    ⊎_elim
    (λ e. subst Unfed (sym (first_fed x xs e)) (All-nil (λ byte. byte ≢ line_feed)))
    (λ other. subst Unfed (sym (first_other x xs other)) (All-cons (λ byte. byte ≢ line_feed) x (first_line xs) other (first_unfed xs)))
    (cases_eq x line_feed)

-- bytes with no line feed stand whole in the first line
pub first_joined : (front xs : List ℕ) → Unfed front → first_line (front ++ xs) ≡ front ++ first_line xs
first_joined [] xs unfed = refl
first_joined (b ∷ front) xs unfed =
    first_other b (front ++ xs) (All-head (λ byte. byte ≢ line_feed) b front unfed)
    ∙ ap (λ l. b ∷ l) (first_joined front xs (All-tail (λ byte. byte ≢ line_feed) b front unfed))

pub after_joined : (front xs : List ℕ) → Unfed front → after_line (front ++ xs) ≡ after_line xs
after_joined [] xs unfed = refl
after_joined (b ∷ front) xs unfed =
    after_other b (front ++ xs) (All-head (λ byte. byte ≢ line_feed) b front unfed)
    ∙ after_joined front xs (All-tail (λ byte. byte ≢ line_feed) b front unfed)

-- the first line is a front
pub first_taken : (xs : List ℕ) → take (length (first_line xs)) xs ≡ first_line xs
first_taken [] = refl
first_taken (x ∷ xs) =
    ⊎_elim
    (λ e. subst (λ l. take (length l) (x ∷ xs) ≡ l) (sym (first_fed x xs e)) refl)
    (λ other. subst (λ l. take (length l) (x ∷ xs) ≡ l) (sym (first_other x xs other)) (ap (λ l. x ∷ l) (first_taken xs)))
    (cases_eq x line_feed)

-- it is as long as the place of the first line feed says
pub first_long : (xs : List ℕ) (at : Option ℕ)
    → MatchOption at (AllWithin (λ x. x ≢ line_feed) xs 0 (length xs)) (λ i. (i < length xs) × HoldsAt (λ x. x ≡ line_feed) xs i × AllWithin (λ x. x ≢ line_feed) xs 0 i)
    → length (first_line xs) ≡ unwrap_or at (length xs)
first_long xs at first =
    index_from_first (λ ys. length (first_line ys)) (λ x. x ≡ line_feed) (λ x. x ≢ line_feed) refl
    (λ y ys e. ap (λ (l : List ℕ). length l) (first_fed y ys e))
    (λ y ys other. ap (λ (l : List ℕ). length l) (first_other y ys other) ∙ omega arith)
    xs at first

pub first_short : (xs : List ℕ) → length (first_line xs) ≤ length xs
first_short [] = omega arith
first_short (x ∷ xs) =
    ⊎_elim
    (λ e. let fed = ap (λ (l : List ℕ). length l) (first_fed x xs e) in omega (arith, fed))
    (λ other. let more = ap (λ (l : List ℕ). length l) (first_other x xs other) in omega (arith, more, first_short xs))
    (cases_eq x line_feed)

-- a shorter one is ended by a line feed
pub first_and_feed : (xs : List ℕ) → length (first_line xs) < length xs → xs ≡ first_line xs ++ line_feed ∷ after_line xs
first_and_feed [] short = absurd (omega (arith, short))
first_and_feed (x ∷ xs) short =
    ⊎_elim
    (λ e. ap (λ b. b ∷ xs) e ∙ sym (ap (λ l. l ++ line_feed ∷ after_line (x ∷ xs)) (first_fed x xs e) ∙ ap (λ l. line_feed ∷ l) (after_fed x xs e)))
    (λ other.
    let more = ap (λ (l : List ℕ). length l) (first_other x xs other) in
    let rest = first_and_feed xs (omega (arith, more, short)) in
    ap (λ l. x ∷ l) rest ∙ sym (ap (λ l. l ++ line_feed ∷ after_line (x ∷ xs)) (first_other x xs other) ∙ ap (λ l. (x ∷ first_line xs) ++ line_feed ∷ l) (after_other x xs other)))
    (cases_eq x line_feed)

-- bytes that are no longer than their first line are that line
pub first_whole : (xs : List ℕ) → length xs ≤ length (first_line xs) → first_line xs ≡ xs
first_whole [] long = refl
first_whole (x ∷ xs) long =
    ⊎_elim
    (λ e. let fed = ap (λ (l : List ℕ). length l) (first_fed x xs e) in absurd (omega (arith, fed, long)))
    (λ other.
    let more = ap (λ (l : List ℕ). length l) (first_other x xs other) in
    first_other x xs other ∙ ap (λ l. x ∷ l) (first_whole xs (omega (arith, more, long))))
    (cases_eq x line_feed)

-- the first line and the lines behind it are all lines
pub lines_step : (xs : List ℕ) → 0 < length xs → lines_in xs ≡ first_line xs ∷ lines_in (after_line xs)
lines_step [] some = absurd (omega (arith, some))
lines_step (x ∷ xs) some =
    ⊎_elim
    (λ e. lines_fed x xs e ∙ sym (ap (λ l. l ∷ lines_in (after_line (x ∷ xs))) (first_fed x xs e) ∙ ap (λ l. [] ∷ lines_in l) (after_fed x xs e)))
    (λ other.
    lines_other x xs other ∙ front xs (lines_step xs)
    ∙ sym (ap (λ l. l ∷ lines_in (after_line (x ∷ xs))) (first_other x xs other) ∙ ap (λ l. (x ∷ first_line xs) ∷ lines_in l) (after_other x xs other)))
    (cases_eq x line_feed)
  where
    front : (ys : List ℕ) → (0 < length ys → lines_in ys ≡ first_line ys ∷ lines_in (after_line ys)) → in_front x (lines_in ys) ≡ (x ∷ first_line ys) ∷ lines_in (after_line ys)
    front [] step = refl
    front (y ∷ ys) step = ap (in_front x) (step (omega arith))

-- a front has no longer first line
pub first_grows : (front xs : List ℕ) → length (first_line front) ≤ length (first_line (front ++ xs))
first_grows [] xs = omega arith
first_grows (b ∷ front) xs =
    ⊎_elim
    (λ e. let fed = ap (λ (l : List ℕ). length l) (first_fed b front e) in omega (arith, fed))
    (λ other.
    let short = ap (λ (l : List ℕ). length l) (first_other b front other) in
    let long = ap (λ (l : List ℕ). length l) (first_other b (front ++ xs) other) in
    omega (arith, short, long, first_grows front xs))
    (cases_eq b line_feed)

-- the lines behind the first one
pub lines_behind : (xs : List ℕ) → lines_in (after_line xs) ≡ drop 1 (lines_in xs)
lines_behind [] = refl
lines_behind (x ∷ xs) = sym (ap (λ l. drop 1 l) (lines_step (x ∷ xs) (omega arith)))

-- and behind so many
pub lines_after : (k : ℕ) (xs : List ℕ) → lines_in (after_lines k xs) ≡ drop k (lines_in xs)
lines_after zero xs = refl
lines_after (suc k) xs =
    let next : k + 1 ≡ suc k = omega arith in
    lines_behind (after_lines k xs) ∙ ap (λ l. drop 1 l) (lines_after k xs) ∙ drop-drop 1 k (lines_in xs) ∙ ap (λ n. drop n (lines_in xs)) next

-- bytes without lines are none
pub some_line : (xs : List ℕ) → 0 < length xs → 0 < length (lines_in xs)
some_line xs some = let step = ap (λ (l : List (List ℕ)). length l) (lines_step xs some) in omega (arith, step)

-- what stands first behind a place is what stands at it
pub at_front : (all : List (List ℕ)) (k : ℕ) (line : List ℕ) (rest : List (List ℕ)) → drop k all ≡ line ∷ rest → slice_get all k ≡ Some line
at_front [] zero line rest e = absurd (let long = ap (λ (l : List (List ℕ)). length l) e in omega (arith, long))
at_front [] (suc k) line rest e = absurd (let long = ap (λ (l : List (List ℕ)). length l) e in omega (arith, long))
at_front (first ∷ all) zero line rest e = ap (λ l. slice_get l 0) e
at_front (first ∷ all) (suc k) line rest e = at_front all k line rest e

-- the line at a place is the first of what is left before it is read
pub line_here : (k : ℕ) (xs : List ℕ) → 0 < length (after_lines k xs) → line_at xs k ≡ Some (first_line (after_lines k xs))
line_here k xs some = at_front (lines_in xs) k _ _ (sym (lines_after k xs) ∙ lines_step (after_lines k xs) some)

pub line_within : (k : ℕ) (xs : List ℕ) → 0 < length (after_lines k xs) → k < length (lines_in xs)
line_within k xs some =
    let left = some_line (after_lines k xs) some in
    let same = ap (λ (l : List (List ℕ)). length l) (lines_after k xs) in
    omega (arith, left, same, length-drop k (lines_in xs))

-- nothing is left where there are no more lines
pub lines_over : (k : ℕ) (xs : List ℕ) → after_lines k xs ≡ [] → length (lines_in xs) ≤ k
lines_over k xs over =
    let none = ap (λ (l : List (List ℕ)). length l) (sym (lines_after k xs) ∙ ap lines_in over) in
    omega (arith, none, length-drop k (lines_in xs))
