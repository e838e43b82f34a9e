-- One editor's request in one round: what was taken is that request or nothing, and what the board tells is its mark.
use Rattle.std.proofs.Common.{◌≡◌, ◌⊎◌, inl, inr, ⊎_elim, ℕ, zero, suc, ◌+◌, ◌<◌, ◌≤◌, ◌==◌, Bool, true, false, cond, List, [], ◌∷◌, ◌++◌, length, drop, refl, sym, ap, ◌∙◌, subst, arith, length-append}
use Rattle.std.specs.Prelude.{MatchBool, slice_index_or}
use Rattle.std.specs.List.{Contains}
use Rattle.std.proofs.lemmas.Bool.{cases_lt, eq-eqb}
use mathlib.Core.List.{IsPrefix}
use Rattle.requests.specs.declared.request.Request.{Request}
use Rattle.generations.specs.declared.posting.Mark.{Mark}
use Rattle.generations.specs.declared.posting.Verdict.{Verdict}
use Rattle.generations.specs.Beginnings.{Beginning, GoesOn}
use Rattle.generations.specs.Boards.{board_of}
use Rattle.generations.specs.Notices.{marks_in}
use Rattle.generations.proofs.LastMarks.{mark_there}
use Rattle.generations.proofs.Prefixes.{prefix_trans, prefix_whole}
use Rattle.intake.specs.declared.outcome.Standing.TheVariants.{Settled}
use Rattle.intake.specs.Editors.{Editing, standing_by}
use Rattle.intake.specs.Ends.{HasTaken}
use Rattle.intake.specs.Outcomes.{standing_on}
use Rattle.intake.proofs.SettledMarks.{settled_by}
use Rattle.intake.specs.Turns.{AreFrom, AreOfEditors, last_asked, of}
use Rattle.committer.specs.declared.committer.Committer.{Committer}
use Rattle.committer.specs.CommitterWords.{held_or_taken, got_of, taker_of}
use Rattle.committer.specs.Outboxes.{Outgoing}
use Rattle.device_commands.specs.Seats.{IsSeatOf, IsToldBy}

-- ---- what is taken of a queue with one editor

-- a request in front is one of its session's
own_first : (s : ℕ) (x : Request) (xs : List Request) → x.session ≡ s → of s (x ∷ xs) ≡ x ∷ of s xs
own_first s x xs is = ap (λ (b : Bool). cond b (x ∷ of s xs) (of s xs)) (eq-eqb x.session s is)

-- where a session has none, it has none behind the first
none_behind : (x : Request) (rest : List Request) (test : Bool) → cond test (x ∷ rest) rest ≡ [] → rest ≡ []
none_behind x rest true none = absurd (cc)
none_behind x rest false none = none

-- where no session but one has a request, the first is that session's
own : (session : ℕ) (x : Request) (xs : List Request) → AreFrom session (x ∷ xs) → AreOfEditors (session + 1) (x ∷ xs) → x.session ≡ session
own session x xs from upto = ⊎_elim
    (λ (less : x.session < session). absurd (some less))
    (λ (le : session ≤ x.session). ⊎_elim (λ (more : session < x.session). absurd (many (omega (arith, more)))) (λ (back : x.session ≤ session). omega (arith, le, back)) (cases_lt session x.session))
    (cases_lt x.session session)
  where
    there : of x.session (x ∷ xs) ≡ [] → ⊥
    there none = let e : x ∷ of x.session xs ≡ [] = sym (own_first x.session x xs refl) ∙ none in cc

    some : x.session < session → ⊥
    some less = there (from x.session less)

    many : session + 1 ≤ x.session → ⊥
    many le = there (upto x.session le)

-- what was taken is this request of the one editor, or nothing
one_of : (session : ℕ) (r : Request) (got waits later : List Request) → AreFrom session (got ++ waits) → AreOfEditors (session + 1) (got ++ waits) → r ∷ [] ≡ of session (got ++ later)
    → (got ≡ []) ⊎ (got ≡ r ∷ [])
one_of session r [] waits later from upto put = inl refl
one_of session r (x ∷ []) waits later from upto put =
    let is : r ∷ [] ≡ x ∷ of session later = put ∙ own_first session x later (own session x waits from upto) in
    let same : x ≡ r = cc in
    inr (ap (λ (y : Request). y ∷ []) same)
one_of session r (x ∷ y ∷ got) waits later from upto put =
    let rest : List Request = y ∷ (got ++ waits) in
    let from' : AreFrom session rest = λ s less. none_behind x (of s rest) (x.session == s) (from s less) in
    let upto' : AreOfEditors (session + 1) rest = λ s le. none_behind x (of s rest) (x.session == s) (upto s le) in
    let is : r ∷ [] ≡ x ∷ y ∷ of session (got ++ later) =
    put ∙ (own_first session x (y ∷ (got ++ later)) (own session x rest from upto) ∙ ap (λ (l : List Request). x ∷ l) (own_first session y (got ++ later) (own session y (got ++ waits) from' upto'))) in
    absurd (cc)

-- so it is of what a round settles
pub asked_one : {D R : Type 0} {V : _} → (old new : Committer D R V) (editor : Editing) (r : Request) (later : List Request) → IsSeatOf old editor → HasTaken (taker_of old) (taker_of new)
    → r ∷ [] ≡ of editor.session (got_of new ++ later) → (held_or_taken old new ≡ []) ⊎ (held_or_taken old new ≡ r ∷ [])
asked_one old new editor r later seat taken put =
    let all : held_or_taken old new ≡ got_of new = λ i. seat.held i ++ drop (length (seat.got i)) (got_of new) in
    let from : editor.session ≡ (taker_of new).first = sym (taken.first ∙ seat.alone.0) in
    let upto : editor.session + 1 ≡ (taker_of new).made = sym (taken.made ∙ seat.alone.1) in
    ⊎_elim
    (λ none. inl (all ∙ (none.0 ∙ seat.got)))
    (λ some. ⊎_elim (λ is. inl (all ∙ is)) (λ is. inr (all ∙ is))
    (one_of editor.session r (got_of new) some.0 later
    (λ s less. some.1.0.0.1 s (subst (λ (n : ℕ). s < n) from less))
    (λ s le. some.1.0.1 s (subst (λ (n : ℕ). n ≤ s) upto le)) put))
    taken.all

-- ---- what the board tells

-- a verdict that a board tells is that of a mark which is posted
pub told_mark : (posts : Outgoing) (e : Editing) (v : Verdict) → IsToldBy posts e v → (mark : Mark) × (Contains (marks_in posts.posted) mark × (v ≡ mark.verdict))
told_mark posts e v is =
    let shown = settled_by (board_of posts.opening.starts posts.opening.count posts.posted) e.session (last_asked e.put) is.0 is.1 in
    (is.0, ((mark_there posts.opening.starts posts.opening.count posts.posted e.session is.0 shown.0).1, is.2))

pub none_in : (mark : Mark) → Contains (marks_in []) mark → ⊥
none_in mark has = let less = has.1 in omega (arith, less)

pub only_in : (m mark : Mark) → Contains (m ∷ []) mark → m ≡ mark
only_in m mark has = by has.0 has.1 has.2
  where
    by : (k : ℕ) → k < 1 → slice_index_or (m ∷ []) k mark ≡ mark → m ≡ mark
    by zero less is = is
    by (suc k) less is = absurd (omega (arith, less))

-- ---- what an editor knows

-- where what it knows holds what was told, and no more, it is that
pub seen_whole : (posts : Outgoing) (known : Beginning) → GoesOn (record { opening = posts.opening; log = posts.posted }) known → IsPrefix known.log posts.posted
    → known ≡ record { opening = posts.opening; log = posts.posted }
seen_whole posts known on covered =
    let long : length (posts.posted ++ on.1.0) ≡ length known.log = ap length on.1.1 in
    let parts : length (posts.posted ++ on.1.0) ≡ length posts.posted + length on.1.0 = length-append posts.posted on.1.0 in
    let whole : known.log ≡ posts.posted = prefix_whole known.log posts.posted covered (omega (arith, long, parts)) in
    λ i. record { opening = on.0 i; log = whole i }

-- so it is where it has learnt what was told, has looked, and what it knows then was compared with what was told
pub looked : (posts : Outgoing) (was learnt seen known history : Beginning) (covered : Bool) → was ≡ record { opening = posts.opening; log = posts.posted } → GoesOn was learnt → GoesOn learnt seen → known ≡ seen → history ≡ was
    → MatchBool covered (IsPrefix known.log history.log) (IsPrefix history.log known.log × (length history.log < length known.log)) → covered ≡ true → seen ≡ record { opening = posts.opening; log = posts.posted }
looked posts was learnt seen known history covered is first then same again tests all_of_it =
    let on : GoesOn was seen = (then.0 ∙ first.0, prefix_trans was.log learnt.log seen.log first.1 then.1) in
    let all : IsPrefix known.log history.log = subst (λ (b : Bool). MatchBool b (IsPrefix known.log history.log) (IsPrefix history.log known.log × (length history.log < length known.log))) all_of_it tests in
    seen_whole posts seen (subst (λ (t : Beginning). GoesOn t seen) is on)
    (subst (λ (b : Beginning × Beginning). IsPrefix b.0.log b.1.log) (λ i. (same i, (again ∙ is) i)) all)

-- so its outcome is what the board tells
pub told_by : (posts : Outgoing) (old new : Editing) (mark : Mark) (verdict : Verdict) → new.session ≡ old.session → new.put ≡ old.put → new.known ≡ record { opening = posts.opening; log = posts.posted }
    → Settled mark ≡ standing_by new → verdict ≡ mark.verdict → IsToldBy posts old verdict
told_by posts old new mark verdict session put known is same =
    (mark, (λ i. standing_on (board_of (sym known i).opening.starts (sym known i).opening.count (sym known i).log) (sym session i) (last_asked (sym put i))) ∙ sym is, same)
