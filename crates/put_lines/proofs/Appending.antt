-- The exchange that adds a line keeps the rule.
use Rattle.std.proofs.Common.{◌≡◌, ◌⊎◌, ⊎_elim, ℕ, zero, suc, ◌+◌, ◌<◌, ◌==◌, Bool, true, false, cond, List, [], ◌∷◌, ◌++◌, length, refl, ap, sym, ◌∙◌, subst, arith, inl, inr, length-append, Some, None}
use Rattle.std.specs.Prelude.{replicate, slice_get, slice_index_or, slice_set, MatchBool}
use Rattle.std.proofs.lemmas.List.{append-nil, get_or-replicate, get_or-set_other, get_or-set_same, length-replicate, length-set, set-get_or}
use Rattle.std.proofs.lemmas.List.Elements.{filter-append}
use Rattle.std.proofs.lemmas.Bool.{eq-eqb, ne_eqb}
use Rattle.std.proofs.lemmas.Bool.Decides.{eqb_tells}
use mathlib.Core.List.{IsPrefix}
use prog.Atomic.{either}
use Rattle.logbook.specs.Pages.{Book, Cell, Named, cell, keeps, no_nib, step, Moves, Goes}
use Rattle.put_lines.specs.declared.put_line.PutLine.{PutLine}
use Rattle.put_lines.specs.Lines.{lines_of_session}
use Rattle.put_lines.specs.Rules.{Appends, IsCounted, word_of, words_of}

abbrev pub shown : List PutLine → List PutLine
shown log = []

abbrev pub moved : List PutLine → List PutLine → ℕ → Type 0
moved xs ys n = Unit {0}

-- ---- the words

-- no line is there, and all words are 0
pub counted_none : IsCounted (replicate 64 (0, true)) []
counted_none = record { wide = length-replicate {A = Cell} 64 (0, true); counts = λ session within. get_or-replicate {A = Cell} 64 session (0, true) (0, false) within }

words_long : (book : Book) (n : ℕ) → length (words_of book n) ≡ n
words_long book zero = refl
words_long book (suc n) = length-append (words_of book n) (word_of book n ∷ []) ∙ (let rest = words_long book n in omega (arith, rest))

get_snoc : {X : Type 0} (xs : List X) (y : X) (k : ℕ) (x : X) → slice_get (xs ++ y ∷ []) k ≡ Some x → (slice_get xs k ≡ Some x) ⊎ ((k ≡ length xs) × (y ≡ x))
get_snoc [] y zero x is = inr (refl, cc)
get_snoc [] y (suc k) x is = absurd (cc)
get_snoc (z ∷ xs) y zero x is = inl is
get_snoc (z ∷ xs) y (suc k) x is = ⊎_elim (λ there. inl there) (λ last. inr (ap suc last.0, last.1)) (get_snoc xs y k x is)

-- the word that stands at a place is that of its session
pub word_at : (book : Book) (n k : ℕ) (word : Named) → slice_get (words_of book n) k ≡ Some word → (k < n) × (word ≡ word_of book k)
word_at book zero k word is = absurd (cc)
word_at book (suc n) k word is =
    ⊎_elim (λ there. let found = word_at book n k word there in ((let less = found.0 in omega (arith, less)), found.1))
    (λ last. let at : k ≡ n = last.0 ∙ words_long book n in (omega (arith, at), sym last.1 ∙ ap (word_of book) (sym at)))
    (get_snoc (words_of book n) (word_of book n) k word is)

-- ---- lines of a session

-- those of a beginning are a beginning of those
pub lines_on : (session : ℕ) (xs ys : List PutLine) → IsPrefix xs ys → IsPrefix (lines_of_session session xs) (lines_of_session session ys)
lines_on session xs ys p = (lines_of_session session p.0, sym (filter-append (λ (l : PutLine). l.session == session) xs p.0) ∙ ap (lines_of_session session) p.1)

-- a beginning with as many has all
none_more : (xs ys : List PutLine) → length (xs ++ ys) ≡ length xs → ys ≡ []
none_more xs [] same = refl
none_more xs (y ∷ ys) same = absurd (omega (arith, length-append xs (y ∷ ys), same))

all_seen : (session : ℕ) (v log : List PutLine) → IsPrefix v log → length (lines_of_session session log) ≡ length (lines_of_session session v) → lines_of_session session log ≡ lines_of_session session v
all_seen session v log p same =
    let on = lines_on session v log p in
    let none : on.0 ≡ [] = none_more (lines_of_session session v) on.0 (ap length on.1 ∙ same) in
    sym on.1 ∙ (ap (λ l. lines_of_session session v ++ l) none ∙ append-nil (lines_of_session session v))

-- with a line more, its session has one more
pub own_more : (log : List PutLine) (e : PutLine) → lines_of_session e.session (log ++ e ∷ []) ≡ lines_of_session e.session log ++ e ∷ []
own_more log e =
    filter-append (λ (l : PutLine). l.session == e.session) log (e ∷ [])
    ∙ ap (λ (b : Bool). lines_of_session e.session log ++ cond b (e ∷ []) []) (eq-eqb e.session e.session refl)

-- .. and another session as many as before
pub other_same : (session : ℕ) (log : List PutLine) (e : PutLine) → (e.session ≡ session → ⊥) → lines_of_session session (log ++ e ∷ []) ≡ lines_of_session session log
other_same session log e other =
    filter-append (λ (l : PutLine). l.session == session) log (e ∷ [])
    ∙ (ap (λ (b : Bool). lines_of_session session log ++ cond b (e ∷ []) []) (ne_eqb e.session session other) ∙ append-nil (lines_of_session session log))

-- ---- the exchange

counted_more : (cs : List Cell) (log : List PutLine) (e : PutLine) (old : ℕ) → IsCounted cs log → length (lines_of_session e.session log) ≡ old → e.session < 64 → IsCounted (slice_set cs e.session (old + 1, true)) (log ++ e ∷ [])
counted_more cs log e old kept here within = record {
  wide = length-set cs e.session (old + 1, true) ∙ kept.wide;
  counts = λ session less. ⊎_elim (λ same. own session less same.1) (λ other. another session less other.1) (eqb_tells e.session session);
}
  where
    longer : length (lines_of_session e.session (log ++ e ∷ [])) ≡ old + 1
    longer = ap length (own_more log e) ∙ (length-append (lines_of_session e.session log) (e ∷ []) ∙ ap (λ (n : ℕ). n + 1) here)

    own : (session : ℕ) → session < 64 → e.session ≡ session → cell (slice_set cs e.session (old + 1, true)) session ≡ (length (lines_of_session session (log ++ e ∷ [])), true)
    own session less same =
        subst (λ (s : ℕ). cell (slice_set cs e.session (old + 1, true)) s ≡ (length (lines_of_session s (log ++ e ∷ [])), true)) same
        (get_or-set_same cs e.session (old + 1, true) (0, false) (let w = kept.wide in omega (arith, w, within)) ∙ ap (λ (n : ℕ). (n, true)) (sym longer))

    another : (session : ℕ) → session < 64 → (e.session ≡ session → ⊥) → cell (slice_set cs e.session (old + 1, true)) session ≡ (length (lines_of_session session (log ++ e ∷ [])), true)
    another session less other =
        get_or-set_other cs e.session session (old + 1, true) (0, false) (λ back. other (sym back))
        ∙ (kept.counts session less ∙ ap (λ (l : List PutLine). (length l, true)) (sym (other_same session log e other)))

counted_same : (cs : List Cell) (log : List PutLine) (session : ℕ) → IsCounted cs log → session < 64 → IsCounted (slice_set cs session (length (lines_of_session session log), true)) (log ++ [])
counted_same cs log session kept within =
    subst (λ (l : List PutLine). IsCounted (slice_set cs session (length (lines_of_session session log), true)) l) (sym (append-nil log))
    (subst (λ (c : List Cell). IsCounted c log) (sym (ap (λ (x : Cell). slice_set cs session x) (sym (kept.counts session within)) ∙ set-get_or cs session (0, false))) kept)

adds_goes : (cs : List Cell) (log v : List PutLine) (e : PutLine) (old : ℕ) → IsCounted cs log → length (lines_of_session e.session v) ≡ old → e.session < 64 → IsPrefix v log
    → (b : Bool) → (length (lines_of_session e.session log) == old) ≡ b
    → Goes IsCounted shown moved e.session (v, (no_nib, None)) (λ n. either (n == old) (old + 1) n) (Appends (step e.session old (old + 1) e) (v, (no_nib, None))) cs log
adds_goes cs log v e old kept len within pre true is =
    let n = length (lines_of_session e.session log) in
    let found : (cell cs e.session).0 ≡ n = ap (λ (c : Cell). c.0) (kept.counts e.session within) in
    let here : n ≡ old = grind (arith, eqb_tells n old) in
    let all : lines_of_session e.session log ≡ lines_of_session e.session v = all_seen e.session v log pre (here ∙ sym len) in (
      keeps,
      e ∷ [],
      None,
      tt,
      subst (λ (m : ℕ). IsCounted (slice_set cs e.session (either (m == old) (old + 1) m, true)) (log ++ e ∷ [])) (sym found) (rw is (counted_more cs log e old kept here within)),
      inl (refl, refl),
      subst (λ (m : ℕ). MatchBool (m == old) (lines_of_session e.session (log ++ e ∷ []) ≡ lines_of_session e.session v ++ e ∷ []) (Unit {0})) (sym found) (rw is (own_more log e ∙ ap (λ l. l ++ e ∷ []) all)),
    )
adds_goes cs log v e old kept len within pre false is =
    let n = length (lines_of_session e.session log) in
    let found : (cell cs e.session).0 ≡ n = ap (λ (c : Cell). c.0) (kept.counts e.session within) in (
      keeps,
      [],
      None,
      tt,
      subst (λ (m : ℕ). IsCounted (slice_set cs e.session (either (m == old) (old + 1) m, true)) (log ++ [])) (sym found) (rw is (counted_same cs log e.session kept within)),
      inl (refl, refl),
      subst (λ (m : ℕ). MatchBool (m == old) (lines_of_session e.session (log ++ []) ≡ lines_of_session e.session v ++ e ∷ []) (Unit {0})) (sym found) (rw is tt),
    )

-- whatever the book is, the exchange adds the line behind all of its session that had been seen, or finds that there are more
pub adds_moves : (v : List PutLine) (e : PutLine) (old : ℕ) → length (lines_of_session e.session v) ≡ old → e.session < 64
    → Moves IsCounted shown moved e.session (v, (no_nib, None)) (λ n. either (n == old) (old + 1) n) (Appends (step e.session old (old + 1) e) (v, (no_nib, None)))
adds_moves v e old len within cs log kept pre away = (
  (let wide = kept.wide in omega (arith, wide, within)),
  ap (λ (c : Cell). c.1) (kept.counts e.session within),
  adds_goes cs log v e old kept len within pre (length (lines_of_session e.session log) == old) refl,
)

-- .. of all words the one at a session's place
pub word_in : (book : Book) (words : List Named) (k : ℕ) (word : Named) → words ≡ words_of book 64 → k < length words → slice_index_or words k word ≡ word → (k < 64) × (word ≡ word_of book k)
word_in book words k word all within is = by_get (in_place words k word within is)
  where
    in_place : (xs : List Named) (n : ℕ) (x : Named) → n < length xs → slice_index_or xs n x ≡ x → slice_get xs n ≡ Some x
    in_place [] n x less same = absurd (omega (arith, less))
    in_place (y ∷ xs) zero x less same = ap Some same
    in_place (y ∷ xs) (suc n) x less same = in_place xs n x (omega (arith, less)) same

    by_get : slice_get words k ≡ Some word → (k < 64) × (word ≡ word_of book k)
    by_get got = word_at book 64 k word (subst (λ (l : List Named). slice_get l k ≡ Some word) all got)

-- what the exchange added
pub added_so : (b : Bool) (log v : List PutLine) (e line : PutLine) → MatchBool b (lines_of_session e.session log ≡ lines_of_session e.session v ++ e ∷ []) (Unit {0}) → b ≡ true → e ≡ line → lines_of_session line.session log ≡ lines_of_session line.session v ++ line ∷ []
added_so true log v e line is test same = subst (λ (x : PutLine). lines_of_session x.session log ≡ lines_of_session x.session v ++ x ∷ []) same is
added_so false log v e line is test same = absurd (cc test)

-- the words of one session more
pub words_more : (book : Book) (n : ℕ) → words_of book (n + 1) ≡ words_of book n ++ word_of book n ∷ []
words_more book n = subst (λ (m : ℕ). words_of book m ≡ words_of book n ++ word_of book n ∷ []) (one_more n) refl
  where
    one_more : (k : ℕ) → suc k ≡ k + 1
    one_more k = omega arith
