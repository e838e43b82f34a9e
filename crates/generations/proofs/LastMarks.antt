-- The last marks of a board are among the marks that were told.
use Rattle.std.proofs.Common.{◌≡◌, ◌⊎◌, inl, inr, ⊎_elim, ◌≤◌, ℕ, zero, suc, List, [], ◌∷◌, length, fold, get_or, set, replicate, Option, Some, None, refl, sym, ap, ◌∙◌, arith}
use Rattle.std.specs.List.{Contains}
use Rattle.std.proofs.lemmas.List.{get_or-set_other, get_or-replicate, length-replicate}
use Rattle.std.proofs.lemmas.List.Sums.{fold-append}
use Rattle.std.proofs.lemmas.List.Elements.{Contains-append_right}
use Rattle.requests.specs.Tickets.{sessions}
use Rattle.requests.proofs.TicketLemmas.{either_same, either_way}
use Rattle.generations.specs.declared.posting.Mark.{Mark}
use Rattle.generations.specs.declared.posting.Notice.{Notice}
use Rattle.generations.specs.declared.posting.Notice.TheVariants.{Marked, Failed, Built}
use Rattle.generations.specs.Notices.{marks_of, marks_in}
use Rattle.generations.specs.Boards.{BoardState, after, fresh, board_of, marked, mark_of}

-- a part of a board that each notice changes by its marks alone is that after all marks that were told
pub through_marks : {A : Type 0} (part : BoardState → A) (step : A → Mark → A) → ((s : BoardState) (p : Notice) → part (after s p) ≡ fold step (part s) (marks_of p))
    → (s : BoardState) (log : List Notice) → part (fold after s log) ≡ fold step (part s) (marks_in log)
through_marks part step by_one s [] = refl
through_marks part step by_one s (p ∷ log) =
    through_marks part step by_one (after s p) log ∙ ap (λ t. fold step t (marks_in log)) (by_one s p) ∙ sym (fold-append step (part s) (marks_of p) (marks_in log))

marks_by_one : (s : BoardState) (p : Notice) → (after s p).marks ≡ fold marked s.marks (marks_of p)
marks_by_one s (Marked ms) = refl
marks_by_one s Failed = refl
marks_by_one s (Built number scheme) = refl

-- what stands at a place after it was set stood there before, or is what was set
set_at : {A : Type 0} (l : List A) (i : ℕ) (a d b : A) → get_or (set l i a) i d ≡ b → (get_or l i d ≡ b) ⊎ (a ≡ b)
set_at [] i a d b e = inl e
set_at (x ∷ l) zero a d b e = inr e
set_at (x ∷ l) (suc i) a d b e = set_at l i a d b e

first_there : (ms : List Mark) (x m : Mark) → x ≡ m → Contains (x ∷ ms) m
first_there ms x m same = (0, omega arith, same)

-- a last mark stood there before, or is one of these of its session
marked_in : (ms : List Mark) (old : List (Option Mark)) (s : ℕ) (m : Mark) → get_or (fold marked old ms) s None ≡ Some m
    → (get_or old s None ≡ Some m) ⊎ ((m.session ≡ s) × Contains ms m)
marked_in [] old s m e = inl e
marked_in (x ∷ ms) old s m e = ⊎_elim
    (λ at. ⊎_elim
    (λ (same : x.session ≡ s).
    ⊎_elim (λ before. inl before)
    (λ (now : Some x ≡ Some m). let f : x ≡ m = cc in inr (sym (ap (λ (y : Mark). y.session) f) ∙ same, first_there ms x m f))
    (set_at old s (Some x) None (Some m) (ap (λ (i : ℕ). get_or (set old i (Some x)) s None) (sym same) ∙ at)))
    (λ (other : x.session ≡ s → ⊥). inl (sym (get_or-set_other old x.session s (Some x) None (λ e. other (sym e))) ∙ at))
    (either_same x.session s))
    (λ some. inr (some.0, Contains-append_right (x ∷ []) ms m some.1))
    (marked_in ms (marked old x) s m e)

past_end : {A : Type 0} (l : List A) (i : ℕ) (d : A) → length l ≤ i → get_or l i d ≡ d
past_end [] i d h = refl
past_end (x ∷ l) zero d h = absurd (omega (arith, h))
past_end (x ∷ l) (suc i) d h = past_end l i d (omega (arith, h))

none_there : (n s : ℕ) (m : Mark) → get_or (replicate n None) s None ≡ Some m → ⊥
none_there n s m e =
    let o : Option Mark = None in
    let none : get_or (replicate n o) s o ≡ o = ⊎_elim (λ le. past_end (replicate n o) s o (let l = length-replicate n o in omega (arith, l, le))) (λ lt. get_or-replicate n s o o lt) (either_way n s) in
    let g : Some m ≡ o = sym e ∙ none in
    cc

-- the last mark that a board shows of a session is of that session, and was told
pub mark_there : (starts : List ℕ) (count : ℕ) (log : List Notice) (s : ℕ) (m : Mark) → mark_of (board_of starts count log) s ≡ Some m
    → (m.session ≡ s) × Contains (marks_in log) m
mark_there starts count log s m e = ⊎_elim
    (λ none. absurd (none_there sessions s m none))
    (λ some. some)
    (marked_in (marks_in log) (replicate sessions None) s m (ap (λ (l : List (Option Mark)). get_or l s None) (sym (through_marks (λ b. b.marks) marked marks_by_one (fresh starts count) log)) ∙ e))
