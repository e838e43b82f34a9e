-- Lines of verdicts, and what was noted of them.
use Rattle.std.proofs.Common.{◌≡◌, ⊎_elim, ◌<◌, ◌+◌, ◌++◌, ◌∷◌, [], ℕ, suc, List, Some, length, refl, sym, ap, subst, ◌∙◌, arith, append-nil, append_assoc, length-append}
use Rattle.std.specs.Prelude.{get_or, replicate, set, slice_get}
use Rattle.std.proofs.lemmas.List.{get_or-replicate, get_or-set_other, get_or-set_same, get_or_past, length-replicate}
use Rattle.std.proofs.lemmas.Bool.{cases_lt}
use Rattle.std.proofs.lemmas.Bool.Decides.{eqb_tells}
use mathlib.Core.List.{IsPrefix}
use Rattle.requests.specs.Tickets.{last_of, sessions}
use Rattle.generations.specs.declared.posting.Mark.{Mark}
use Rattle.generations.proofs.Prefixes.{prefix_get, prefix_trans}
use Rattle.put_lines.specs.declared.put_line.PutLine.{PutLine}
use Rattle.put_lines.specs.Lines.{Listed, lines_of_session}
use Rattle.put_lines.proofs.Appending.{lines_on, other_same, own_more}
use Rattle.live_lines.specs.declared.answer.Answer.{Answer}
use Rattle.live_lines.specs.declared.answer.Answer.TheVariants.{Settled}
use Rattle.line_exchange.specs.PutLines.{AreNotedFirst, IsPutNext, NotesMore, no_puts, put_at, put_by, puts_from, puts_in}

-- the lines of an answer more
puts_snoc : (place : ℕ) (answers : List Answer) (answer : Answer) → puts_from place (answers ++ answer ∷ []) ≡ puts_from place answers ++ put_at (place + length answers) answer
puts_snoc place [] answer = append-nil (put_at place answer) ∙ ap (λ (n : ℕ). put_at n answer) (here place)
  where
    here : (n : ℕ) → n ≡ n + 0
    here n = omega arith
puts_snoc place (first ∷ answers) answer =
    ap (λ (l : List PutLine). put_at place first ++ l) (puts_snoc (place + 1) answers answer)
    ∙ (sym (append_assoc (put_at place first) (puts_from (place + 1) answers) (put_at (place + 1 + length answers) answer))
    ∙ ap (λ (n : ℕ). (put_at place first ++ puts_from (place + 1) answers) ++ put_at n answer) (there (length answers)))
  where
    there : (n : ℕ) → place + 1 + n ≡ place + suc n
    there n = omega arith

puts_more : (answers : List Answer) (answer : Answer) → puts_in (answers ++ answer ∷ []) ≡ puts_in answers ++ put_at (length answers) answer
puts_more answers answer = puts_snoc 0 answers answer ∙ ap (λ (n : ℕ). puts_in answers ++ put_at n answer) (from_none (length answers))
  where
    from_none : (n : ℕ) → 0 + n ≡ n
    from_none n = omega arith

-- a beginning, with what stands behind it
prefix_more : {X : Type 0} (xs ys : List X) (y : X) → IsPrefix xs ys → slice_get ys (length xs) ≡ Some y → IsPrefix (xs ++ y ∷ []) ys
prefix_more [] [] y p at = absurd (cc)
prefix_more [] (z ∷ ys) y p at = (ys, (let same : z ≡ y = cc at in ap (λ h. h ∷ ys) (sym same)))
prefix_more (x ∷ xs) [] y p at = absurd (cc (p.1))
prefix_more (x ∷ xs) (z ∷ ys) y p at = (let rest = prefix_more xs ys y (p.0, cc (p.1)) at in (rest.0, cc (p.1, rest.1)))

-- ---- at first

-- as many zeros have 0 at each place
pub none_at : (many place : ℕ) → ◌≡◌ {A = ℕ} (get_or (replicate many 0) place 0) 0
none_at many place =
    let zeros : List ℕ = replicate many 0 in
    let long : length zeros ≡ many = length-replicate {A = ℕ} many 0 in
    ⊎_elim (λ within. get_or-replicate {A = ℕ} many place 0 0 within) (λ past. get_or_past zeros place 0 (omega (arith, past, long))) (cases_lt place many)

pub none_each : (session : ℕ) → last_of no_puts session ≡ 0
none_each session = none_at sessions session

pub none_noted : (puts : List ℕ) (lines : List PutLine) → puts ≡ no_puts → AreNotedFirst puts lines []
none_noted puts lines none = record {
  counted = λ session. ap (λ (l : List ℕ). last_of l session) none ∙ none_each session;
  first = λ session. (lines_of_session session lines, refl);
}

-- ---- an answer more

more_same : (old new : List ℕ) (before after : List PutLine) (answers : List Answer) (more : List PutLine) → AreNotedFirst old before answers → IsPrefix before after → new ≡ old → more ≡ puts_in answers
    → ((session : ℕ) → last_of new session ≡ length (lines_of_session session more)) × ((session : ℕ) → IsPrefix (lines_of_session session more) (lines_of_session session after))
more_same old new before after answers more are on still same = (
  (λ session. ap (λ (l : List ℕ). last_of l session) still ∙ (are.counted session ∙ ap (λ (l : List PutLine). length (lines_of_session session l)) (sym same))),
  (λ session. subst (λ (l : List PutLine). IsPrefix (lines_of_session session l) (lines_of_session session after)) (sym same)
      (prefix_trans (lines_of_session session (puts_in answers)) (lines_of_session session before) (lines_of_session session after) (are.first session) (lines_on session before after on))),
)

-- the line of a verdict more
more_line : (old new : List ℕ) (before after : List PutLine) (answers : List Answer) (line : PutLine) → AreNotedFirst old before answers → IsPrefix before after → line.session < length old
    → slice_get (lines_of_session line.session after) (last_of old line.session) ≡ Some line → new ≡ set old line.session (last_of old line.session + 1)
    → ((session : ℕ) → last_of new session ≡ length (lines_of_session session (puts_in answers ++ line ∷ []))) × ((session : ℕ) → IsPrefix (lines_of_session session (puts_in answers ++ line ∷ [])) (lines_of_session session after))
more_line old new before after answers line are on within at is = ((λ session. counted session), (λ session. first session))
  where
    own : ℕ
    own = line.session

    told : List PutLine
    told = puts_in answers

    -- what was told before is a beginning still
    still : (session : ℕ) → IsPrefix (lines_of_session session told) (lines_of_session session after)
    still session = prefix_trans (lines_of_session session told) (lines_of_session session before) (lines_of_session session after) (are.first session) (lines_on session before after on)

    counted_own : last_of new own ≡ length (lines_of_session own (told ++ line ∷ []))
    counted_own =
        ap (λ (l : List ℕ). last_of l own) is
        ∙ (get_or-set_same old own (last_of old own + 1) 0 within
        ∙ (ap (λ (n : ℕ). n + 1) (are.counted own) ∙ sym (ap length (own_more told line) ∙ length-append (lines_of_session own told) (line ∷ []))))

    counted : (session : ℕ) → last_of new session ≡ length (lines_of_session session (told ++ line ∷ []))
    counted session =
        ⊎_elim (λ same. subst (λ (s : ℕ). last_of new s ≡ length (lines_of_session s (told ++ line ∷ []))) same.1 counted_own)
        (λ other. ap (λ (l : List ℕ). last_of l session) is
        ∙ (get_or-set_other old own session (last_of old own + 1) 0 (λ back. other.1 (sym back)) ∙ (are.counted session ∙ ap length (sym (other_same session told line other.1)))))
        (eqb_tells own session)

    first_own : IsPrefix (lines_of_session own (told ++ line ∷ [])) (lines_of_session own after)
    first_own =
        subst (λ (l : List PutLine). IsPrefix l (lines_of_session own after)) (sym (own_more told line))
        (prefix_more (lines_of_session own told) (lines_of_session own after) line (still own) (subst (λ (n : ℕ). slice_get (lines_of_session own after) n ≡ Some line) (are.counted own) at))

    first : (session : ℕ) → IsPrefix (lines_of_session session (told ++ line ∷ [])) (lines_of_session session after)
    first session =
        ⊎_elim (λ same. subst (λ (s : ℕ). IsPrefix (lines_of_session s (told ++ line ∷ [])) (lines_of_session s after)) same.1 first_own)
        (λ other. subst (λ (l : List PutLine). IsPrefix l (lines_of_session session after)) (sym (other_same session told line other.1)) (still session))
        (eqb_tells own session)

by_answer : (old new : List ℕ) (before after : List PutLine) (answers : List Answer) (answer : Answer) → AreNotedFirst old before answers → IsPrefix before after → IsPutNext (length answers) answer old new after
    → ((session : ℕ) → last_of new session ≡ length (lines_of_session session (puts_in answers ++ put_at (length answers) answer))) × ((session : ℕ) → IsPrefix (lines_of_session session (puts_in answers ++ put_at (length answers) answer)) (lines_of_session session after))
by_answer old new before after answers (Settled mark) are on next = more_line old new before after answers (put_by mark (length answers)) are on next.0 next.1 next.2
by_answer old new before after answers _ are on next = more_same old new before after answers (puts_in answers ++ []) are on next (append-nil (puts_in answers))

pub more_noted : (old new : List ℕ) (before after : Listed) (place : ℕ) (answers : List Answer) (answer : Answer) → AreNotedFirst old before.lines answers → length answers ≡ place → NotesMore place answer old new before after
    → AreNotedFirst new after.lines (answers ++ answer ∷ [])
more_noted old new before after place answers answer are many notes =
    let next : IsPutNext (length answers) answer old new after.lines = subst (λ (n : ℕ). IsPutNext n answer old new after.lines) (sym many) notes.next in
    let both = by_answer old new before.lines after.lines answers answer are notes.on next in
    let all = sym (puts_more answers answer) in
    record {
      counted = λ session. both.0 session ∙ ap (λ (l : List PutLine). length (lines_of_session session l)) all;
      first = λ session. subst (λ (l : List PutLine). IsPrefix (lines_of_session session l) (lines_of_session session after.lines)) all (both.1 session);
    }

-- ---- one answer

-- a verdict's line was noted as the next one
pub notes_one : (place : ℕ) (answer : Answer) (mark : Mark) (line : PutLine) (old new : List ℕ) (before after noted : Listed) (number : ℕ) → answer ≡ Settled mark → after.book ≡ before.book → IsPrefix before.lines after.lines
    → IsPrefix noted.lines after.lines → slice_get (lines_of_session line.session noted.lines) number ≡ Some line → line.session ≡ mark.session → line.ticket ≡ mark.ticket → line.place ≡ place → mark.session < length old
    → number ≡ last_of old mark.session → new ≡ set old mark.session (number + 1) → NotesMore place answer old new before after
notes_one place answer mark line old new before after noted number verdict book on covers there session ticket at_place within same is = subst (λ (a : Answer). NotesMore place a old new before after) (sym verdict) (record {
  book = book;
  on = on;
  next = (
    within,
    prefix_get (lines_of_session mark.session noted.lines) (lines_of_session mark.session after.lines) (last_of old mark.session) (put_by mark place) (lines_on mark.session noted.lines after.lines covers)
        (subst (λ (n : ℕ). slice_get (lines_of_session mark.session noted.lines) n ≡ Some (put_by mark place)) same at),
    subst (λ (n : ℕ). new ≡ set old mark.session (n + 1)) same is,
  );
})
  where
    own : line ≡ put_by mark place
    own i = record { session = session i; ticket = ticket i; place = at_place i }

    at : slice_get (lines_of_session mark.session noted.lines) number ≡ Some (put_by mark place)
    at = subst (λ (l : PutLine). slice_get (lines_of_session l.session noted.lines) number ≡ Some l) own there

-- another answer notes nothing
pub notes_none : (place : ℕ) (answer : Answer) (old new : List ℕ) (before after : Listed) → ((mark : Mark) → answer ≡ Settled mark → ⊥) → new ≡ old → after ≡ before → NotesMore place answer old new before after
notes_none place (Settled mark) old new before after other same kept = absurd (other mark refl)
notes_none place _ old new before after other same kept = record {
  book = ap (λ (l : Listed). l.book) kept;
  on = ([], append-nil before.lines ∙ ap (λ (l : Listed). l.lines) (sym kept));
  next = same;
}
