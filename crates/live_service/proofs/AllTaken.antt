-- Editors of whose requests none waits any more.
use Rattle.std.proofs.Common.{◌≡◌, ◌⊎◌, inl, inr, ◌<◌, ◌≤◌, ◌==◌, ◌++◌, ◌∷◌, [], ℕ, zero, suc, Bool, true, false, cond, List, length, map, take, filter, refl, sym, ap, subst, ◌∙◌, arith, append-nil}
use Rattle.std.specs.Prelude.{nat_lt, is_ok, slice_index_or, MatchBool, Option, Some, None, Result, Ok, Err, OnOk}
use Rattle.std.specs.List.{Contains}
use Rattle.std.proofs.lemmas.Bool.{eq-eqb, ltb-false, ltb-true}
use Rattle.std.proofs.lemmas.List.Concat.{flat_map-append}
use Rattle.std.proofs.lemmas.List.Elements.{Contains-append_left, filter-append}
use mathlib.Core.Logic.{∥∥₁_elim}
use mathlib.Core.HLevel.{⊥_prop}
use mathlib.Core.List.{IsPrefix}
use Rattle.logbook.specs.Pages.{Book}
use Rattle.put_lines.specs.Lines.{lines_of_session}
use Rattle.requests.specs.Requests.{asked_by}
use Rattle.requests.specs.declared.request.Request.{Request}
use Rattle.layout_2.specs.State.{State}
use Rattle.group_commit.specs.Settling.{settle}
use Rattle.group_commit.proofs.SettlingLemmas.{one_mark_each}
use Rattle.generations.specs.declared.posting.Mark.{Mark}
use Rattle.generations.specs.declared.posting.Notice.{Notice}
use Rattle.generations.specs.Notices.{marks_in, marks_of, told_to}
use Rattle.request_lists.specs.declared.builds.Builds.{Builds}
use Rattle.request_lists.specs.Posted.{ArePosted}
use Rattle.intake.specs.Editors.{Editing}
use Rattle.intake.specs.Turns.{AreOfEditors, last_or_start, of}
use Rattle.committer.specs.declared.committer.Committer.{Committer}
use Rattle.committer.specs.CommitterWords.{got_of, taker_of}
use Rattle.committer_thread.specs.Kept.{KeepsQueue}
use Rattle.service_actors.specs.AtRest.{IsAtRest, RisesFrom}
use Rattle.service_actors.proofs.Resting.{start_more}
use Rattle.line_exchange.specs.Inputs.{Input}
use Rattle.live_service.specs.Noting.{AreAllNoted, AreJoined}
use Rattle.live_service.specs.declared.ending.Joined.{Joined}

-- ---- elements of lists

-- an element of a list
abbrev In : {X : Type 0} → X → List X → Type 0
In x [] = ⊥
In x (y ∷ ys) = (y ≡ x) ⊎ In x ys

in_list : {X : Type 0} → (x : X) (xs : List X) (k : ℕ) → k < length xs → slice_index_or xs k x ≡ x → In x xs
in_list x [] k within is = absurd (omega (arith, within))
in_list x (y ∷ ys) zero within is = inl is
in_list x (y ∷ ys) (suc k) within is = inr (in_list x ys k (omega (arith, within)) is)

in_map : {X Y : Type 0} → (f : X → Y) (x : X) (xs : List X) → In x xs → In (f x) (map f xs)
in_map f x [] there = absurd there
in_map f x (y ∷ ys) (inl same) = inl (ap f same)
in_map f x (y ∷ ys) (inr there) = inr (in_map f x ys there)

of_map : {X Y : Type 0} → (f : X → Y) (z : Y) (xs : List X) → In z (map f xs) → (x : X) × In x xs × (f x ≡ z)
of_map f z [] there = absurd there
of_map f z (y ∷ ys) (inl same) = (y, inl refl, same)
of_map f z (y ∷ ys) (inr there) = (let found = of_map f z ys there in (found.0, inr found.1, found.2))

in_whole : {X : Type 0} → (x : X) (n : ℕ) (xs : List X) → In x (take n xs) → In x xs
in_whole x zero xs there = absurd there
in_whole x (suc n) [] there = absurd there
in_whole x (suc n) (y ∷ ys) (inl same) = inl same
in_whole x (suc n) (y ∷ ys) (inr there) = inr (in_whole x n ys there)

in_rest : {X : Type 0} → (x y : X) (ys : List X) (b : Bool) → In x ys → In x (cond b (y ∷ ys) ys)
in_rest x y ys true there = inr there
in_rest x y ys false there = there

in_filter : {X : Type 0} → (p : X → Bool) (x : X) (xs : List X) → In x xs → p x ≡ true → In x (filter p xs)
in_filter p x [] there test = absurd there
in_filter p x (y ∷ ys) (inl same) test = subst (λ (b : Bool). In x (cond b (y ∷ filter p ys) (filter p ys))) (sym (ap p same ∙ test)) (inl same)
in_filter p x (y ∷ ys) (inr there) test = in_rest x y (filter p ys) (p y) (in_filter p x ys there test)

none_both : {X : Type 0} → (xs ys : List X) → xs ++ ys ≡ [] → xs ≡ []
none_both [] ys is = refl
none_both (x ∷ xs) ys is = absurd (cc)

some_behind : {X : Type 0} → (xs : List X) (y : X) (ys : List X) → xs ++ y ∷ ys ≡ [] → ⊥
some_behind [] y ys is = cc
some_behind (x ∷ xs) y ys is = cc

-- ---- rising tickets

no_less : (start : ℕ) (rs : List Request) → RisesFrom start rs → start ≤ last_or_start start rs
no_less start [] rises = omega arith
no_less start (r ∷ rs) rises =
    let first = rises.0 in
    let then = no_less r.ticket rs rises.1 in
    subst (λ (l : ℕ). start ≤ l) (sym (start_more start r rs)) (omega (arith, first, then))

rises_both : (start : ℕ) (xs ys : List Request) → RisesFrom start (xs ++ ys) → RisesFrom start xs × RisesFrom (last_or_start start xs) ys
rises_both start [] ys rises = (tt, rises)
rises_both start (x ∷ xs) ys rises =
    let then = rises_both x.ticket xs ys rises.1 in
    ((rises.0, then.0), subst (λ (l : ℕ). RisesFrom l ys) (sym (start_more start x xs)) then.1)

last_both : (start : ℕ) (xs ys : List Request) → last_or_start start (xs ++ ys) ≡ last_or_start (last_or_start start xs) ys
last_both start [] ys = refl
last_both start (x ∷ xs) ys = start_more start x (xs ++ ys) ∙ (last_both x.ticket xs ys ∙ ap (λ (l : ℕ). last_or_start l ys) (sym (start_more start x xs)))

no_later : (start : ℕ) (rs : List Request) (r : Request) → RisesFrom start rs → In r rs → r.ticket ≤ last_or_start start rs
no_later start [] r rises there = absurd there
no_later start (q ∷ rs) r rises (inl same) =
    let then = no_less q.ticket rs rises.1 in
    let ticket : q.ticket ≡ r.ticket = ap (λ (x : Request). x.ticket) same in
    subst (λ (l : ℕ). r.ticket ≤ l) (sym (start_more start q rs)) (omega (arith, then, ticket))
no_later start (q ∷ rs) r rises (inr there) = subst (λ (l : ℕ). r.ticket ≤ l) (sym (start_more start q rs)) (no_later q.ticket rs r rises.1 there)

-- a request with the last ticket stands before no other
last_in_front : (start : ℕ) (xs : List Request) (y : Request) (ys : List Request) (r : Request) → RisesFrom start (xs ++ y ∷ ys) → In r xs → r.ticket ≡ last_or_start start (xs ++ y ∷ ys) → ⊥
last_in_front start xs y ys r rises there is =
    let both = rises_both start xs (y ∷ ys) rises in
    let one = no_later start xs r both.0 there in
    let two = both.1.0 in
    let three = no_less y.ticket ys both.1.1 in
    let last : r.ticket ≡ last_or_start y.ticket ys = is ∙ (last_both start xs (y ∷ ys) ∙ start_more (last_or_start start xs) y ys) in
    omega (arith, one, two, three, last)

-- ---- what is taken

-- a mark that is posted is that of a request that was taken
marked : {builds : Builds} → (first : State) (got : List Request) (log : List Notice) (mark : Mark) → ArePosted builds first got log → Contains (marks_in log) mark → (r : Request) × In r got × (asked_by r ≡ told_to mark)
marked first got log mark posted has =
    let there : In mark (settle first (take posted.many got)).marks = subst (λ (ms : List Mark). In mark ms) posted.marks (in_list mark (marks_in log) has.0 has.1 has.2) in
    let told : In (told_to mark) (map asked_by (take posted.many got)) = subst (λ (l : List (ℕ × ℕ)). In (told_to mark) l) (one_mark_each first (take posted.many got)) (in_map told_to mark (settle first (take posted.many got)).marks there) in
    let found = of_map asked_by (told_to mark) (take posted.many got) told in
    (found.0, in_whole found.0 posted.many got found.1, found.2)

-- so it is one of its session
marked_of : {builds : Builds} → (first : State) (got : List Request) (log : List Notice) (mark : Mark) (session : ℕ) → mark.session ≡ session → ArePosted builds first got log → Contains (marks_in log) mark
    → (r : Request) × In r (of session got) × (r.ticket ≡ mark.ticket)
marked_of first got log mark session own posted has =
    let found = marked first got log mark posted has in
    let r = found.0 in
    let same : r.session ≡ session = ap (λ (p : ℕ × ℕ). p.0) found.2 ∙ own in
    (r, in_filter (λ (x : Request). x.session == session) r got found.1 (eq-eqb r.session session same), ap (λ (p : ℕ × ℕ). p.1) found.2)

known_mark : (known log : List Notice) (mark : Mark) → IsPrefix known log → Contains (marks_in known) mark → Contains (marks_in log) mark
known_mark known log mark on has =
    subst (λ (l : List Notice). Contains (marks_in l) mark) on.1
    (subst (λ (ms : List Mark). Contains ms mark) (sym (flat_map-append marks_of known on.0)) (Contains-append_left (marks_in known) (marks_in on.0) mark has))

-- the editor's last request was taken, so none stands behind it
no_rest : {builds : Builds} → (e : Editing) (last : Option Mark) (first : State) (got : List Request) (log : List Notice) (y : Request) (ys : List Request) → e.put ≡ of e.session got ++ y ∷ ys → IsAtRest e last → ArePosted builds first got log
    → IsPrefix e.known.log log → ⊥
no_rest e None first got log y ys put rests posted on = some_behind (of e.session got) y ys (sym put ∙ rests.told)
no_rest e (Some mark) first got log y ys put rests posted on =
    let told = rests.told in
    let found = marked_of first got log mark e.session told.0.0 posted (known_mark e.known.log log mark on told.0.1) in
    last_in_front e.start (of e.session got) y ys found.0 (subst (λ (rs : List Request). RisesFrom e.start rs) put rests.rises) found.1
    (found.2 ∙ (told.1 ∙ ap (λ (rs : List Request). last_or_start e.start rs) put))

all_by : {builds : Builds} → (e : Editing) (last : Option Mark) (first : State) (got : List Request) (log : List Notice) (rest : List Request) → e.put ≡ of e.session got ++ rest → ∥ IsAtRest e last ∥₁ → ArePosted builds first got log
    → IsPrefix e.known.log log → e.put ≡ of e.session got
all_by e last first got log [] put rests posted on = put ∙ append-nil (of e.session got)
all_by e last first got log (y ∷ ys) put rests posted on = absurd (∥∥₁_elim rests ⊥_prop (λ r. no_rest e last first got log y ys put r posted on))

-- all that an editor put has been taken, where all that it knows is posted
pub all_taken : {builds : Builds} → (e : Editing) (last : Option Mark) (first : State) (got waits : List Request) (log : List Notice) → e.put ≡ of e.session (got ++ waits) → ∥ IsAtRest e last ∥₁ → ArePosted builds first got log → IsPrefix e.known.log log
    → e.put ≡ of e.session got
all_taken e last first got waits log put rests posted on =
    all_by e last first got log (of e.session waits) (put ∙ filter-append (λ (r : Request). r.session == e.session) got waits) rests posted on

-- ---- all sessions

-- all that was taken was noted, where each editor has ended, and all that it put was taken
pub all_sessions : {D R : Type 0} {V : _} → (book : Book) (input : Input) (editors : ℕ) (first now : Committer D R V) (joined : Joined) → got_of first ≡ [] → KeepsQueue first now → joined.count ≡ (taker_of first).made
    → AreJoined book input editors (got_of now) joined → (session : ℕ) → AreAllNoted input editors joined.puts joined.lines.lines session (of session (got_of now))
all_sessions book input editors first now joined none keeps all are session = by (nat_lt session joined.count) refl
  where
    begun : AreOfEditors (taker_of first).made (got_of first)
    begun s above = ap (of s) none

    by : (test : Bool) → nat_lt session joined.count ≡ test → AreAllNoted input editors joined.puts joined.lines.lines session (of session (got_of now))
    by true test = are.each session (ltb-true session joined.count test)
    by false test =
        let past : joined.count ≤ session = ltb-false session joined.count test in
        let made = keeps.made in
        let empty : of session (got_of now) ≡ [] = keeps.editors begun session (omega (arith, past, made, all)) in
        subst (λ (rs : List Request). AreAllNoted input editors joined.puts joined.lines.lines session rs) (sym empty)
        (record { noted = []; put = tt; many = are.later session past; first = (lines_of_session session joined.lines.lines, refl) })

-- what holds where there is no error
pub ok_holds : {T E : Type 0} → (r : Result T E) (P : Type 0) → is_ok r ≡ true → OnOk r P → P
ok_holds (Ok t) P is on = on
ok_holds (Err e) P is on = absurd (cc)

pub match_true : (b : Bool) (P Q : Type 0) → MatchBool b P Q → b ≡ true → P
match_true true P Q h is = h
match_true false P Q h is = absurd (cc)
