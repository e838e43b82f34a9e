-- What an outbox has in all, once it was paid or told.
use Rattle.std.proofs.Common.{◌≡◌, ◌≢◌, ◌≤◌, Some, ℕ, Bool, true, false, MatchBool, List, [], ◌∷◌, ◌++◌, Option, None, refl, ap, sym, ◌∙◌, subst, append-nil}
use Rattle.layout_2.specs.State.{State, asked}
use Rattle.requests.specs.Tickets.{Rises}
use Rattle.requests.specs.declared.request.Request.{Request}
use Rattle.schemes.specs.declared.parts.Parts.{Parts}
use Rattle.schemes.specs.Tables.{tables}
use Rattle.schemes.specs.Service.{Serves}
use Rattle.generations.specs.declared.posting.Mark.{Mark}
use Rattle.generations.specs.declared.posting.Posting.{Posting}
use Rattle.generations.specs.declared.posting.Notice.{Notice}
use Rattle.generations.specs.declared.posting.Notice.TheVariants.{Marked, Failed, Built}
use Rattle.generations.specs.Beginnings.{Opening}
use Rattle.generations.specs.Lawful.{IsLawful}
use Rattle.generations.specs.Posts.{Posts}
use Rattle.request_lists.specs.Lists.{IsAhead}
use Rattle.committer.specs.Outboxes.{Outgoing, outgoing, back_of, all_of, paid, with_posted, with_due}
use Rattle.committer.specs.Ties.{IsTied}
use Rattle.committer.proofs.Settled.{IsSettled}
use Rattle.committer.proofs.Tying.{tied_first, tied_taken, tied_marks, tied_down, tied_earlier}

all_bare : (o : Outgoing) → o.due ≡ [] → all_of o ≡ o.posted
all_bare o none = ap (λ l. o.posted ++ l) none ∙ append-nil o.posted

pub all_posted : (o : Outgoing) (p : Notice) → o.due ≡ [] → all_of (with_posted o p) ≡ all_of o ++ p ∷ []
all_posted o p none = append-nil (o.posted ++ p ∷ []) ∙ ap (λ l. l ++ p ∷ []) (sym (all_bare o none))

pub all_due : (o : Outgoing) (p : Notice) → o.due ≡ [] → all_of (with_due o p) ≡ all_of o ++ p ∷ []
all_due o p none = ap (λ l. l ++ p ∷ []) (sym (all_bare o none))

-- what is tied to a list is tied to an outbox that has it
tied_along : (newest : Option ℕ) (held got : List Request) (state : State) (down : Bool) (opening : Opening) (log : List Notice) (o : Outgoing) → o.opening ≡ opening → all_of o ≡ log
    → IsTied opening log newest held got state down → IsTied o.opening (all_of o) newest held got state down
tied_along newest held got state down opening log o s l h = subst (λ (x : Opening × List Notice). IsTied x.0 x.1 newest held got state down) (λ i. (sym s i, sym l i)) h

pub tied_posted : (newest : Option ℕ) (held got : List Request) (state : State) (down : Bool) (o o' : Outgoing) (p : Notice) → o.due ≡ [] → o' ≡ with_posted o p
    → IsTied o.opening (all_of o ++ p ∷ []) newest held got state down → IsTied o'.opening (all_of o') newest held got state down
tied_posted newest held got state down o o' p none is h = tied_along newest held got state down o.opening (all_of o ++ p ∷ []) o' (ap (λ (x : Outgoing). x.opening) is) (ap all_of is ∙ all_posted o p none) h

pub tied_due : (newest : Option ℕ) (held got : List Request) (state : State) (down : Bool) (o o' : Outgoing) (p : Notice) → o.due ≡ [] → o' ≡ with_due o p
    → IsTied o.opening (all_of o ++ p ∷ []) newest held got state down → IsTied o'.opening (all_of o') newest held got state down
tied_due newest held got state down o o' p none is h = tied_along newest held got state down o.opening (all_of o ++ p ∷ []) o' (ap (λ (x : Outgoing). x.opening) is) (ap all_of is ∙ all_due o p none) h

-- at the beginning
pub tied_new : (o : Outgoing) (opening : Opening) (posted : List Notice) (held got : List Request) (state : State) (down : Bool) → o ≡ record { opening = opening; posted = posted; due = [] } → posted ≡ [] → opening.count ≡ state.count
    → opening.starts ≡ state.tickets → held ≡ [] → got ≡ [] → down ≡ false → IsTied o.opening (all_of o) None held got state down
tied_new o opening posted held got state down is none count starts h g d =
    let bare : o ≡ record { opening = opening; posted = []; due = [] } = is ∙ ap (λ (l : List Notice). record { opening = opening; posted = l; due = [] }) none in
    subst (λ (x : Outgoing × (List Request × (List Request × Bool))). IsTied x.0.opening (all_of x.0) None x.1.0 x.1.1.0 state x.1.1.1) (λ i. (sym bare i, (sym h i, (sym g i, sym d i)))) (tied_first opening state count starts)

-- the board stays the same
pub same_starts : (starts : List ℕ) (o o' : Outgoing) (p : Notice) (b : Bool) → starts ≡ o.opening.starts → MatchBool b (o' ≡ with_posted o p) (o' ≡ with_due o p) → starts ≡ o'.opening.starts
same_starts starts o o' p true same is = same ∙ sym (ap (λ (x : Outgoing). x.opening.starts) is)
same_starts starts o o' p false same is = same ∙ sym (ap (λ (x : Outgoing). x.opening.starts) is)

-- told, whether it was posted or is due
tied_told : (newest : Option ℕ) (held got : List Request) (state : State) (down : Bool) (o o' : Outgoing) (p : Notice) (b : Bool) → o.due ≡ [] → MatchBool b (o' ≡ with_posted o p) (o' ≡ with_due o p)
    → IsTied o.opening (all_of o ++ p ∷ []) newest held got state down → IsTied o'.opening (all_of o') newest held got state down
tied_told newest held got state down o o' p true none is h = tied_posted newest held got state down o o' p none is h
tied_told newest held got state down o o' p false none is h = tied_due newest held got state down o o' p none is h

-- paid, or not
pub tied_paid : (newest : Option ℕ) (held got : List Request) (state : State) (down : Bool) (o o' : Outgoing) (b : Bool) → MatchBool b (o' ≡ paid o) ((o' ≡ o) × (o.due ≢ []))
    → IsTied o.opening (all_of o) newest held got state down → IsTied o'.opening (all_of o') newest held got state down
tied_paid newest held got state down o o' true is h = tied_along newest held got state down o.opening (all_of o) o' (ap (λ (x : Outgoing). x.opening) is) (ap all_of is ∙ append-nil (o.posted ++ o.due)) h
tied_paid newest held got state down o o' false is h = tied_along newest held got state down o.opening (all_of o) o' (ap (λ (x : Outgoing). x.opening) is.0) (ap all_of is.0) h

-- lawful behind what is posted
pub lawful_behind : (o : Outgoing) (p : Notice) → o.due ≡ [] → IsLawful o.opening.starts o.opening.count (all_of o ++ p ∷ []) → IsLawful o.opening.starts o.opening.count (o.posted ++ p ∷ [])
lawful_behind o p none h = subst (λ (l : List Notice). IsLawful o.opening.starts o.opening.count (l ++ p ∷ [])) (all_bare o none) h

-- the same with equal parts
retie : (opening : Opening) (log : List Notice) (got : List Request) (newest newest' : Option ℕ) (held held' : List Request) (state state' : State) (down down' : Bool) → newest' ≡ newest → held' ≡ held → state' ≡ state → down' ≡ down
    → IsTied opening log newest held got state down → IsTied opening log newest' held' got state' down'
retie opening log got newest newest' held held' state state' down down' n h s d t =
    subst (λ (x : Option ℕ × (List Request × (State × Bool))). IsTied opening log x.0 x.1.0 got x.1.1.0 x.1.1.1) (λ i. (sym n i, (sym h i, (sym s i, sym d i)))) t

-- ---- requests were taken

pub tied_now : (o : Outgoing) (newest : Option ℕ) (held now got got' : List Request) (state state' : State) (down down' : Bool) (starts : List ℕ) → IsTied o.opening (all_of o) newest held got state down
    → held ≡ [] → got' ≡ got ++ now → Rises starts (asked got') → starts ≡ o.opening.starts → state' ≡ state → down' ≡ down → IsTied o.opening (all_of o) newest now got' state' down'
tied_now o newest held now got got' state state' down down' starts t none front rises same s d =
    let bare = retie o.opening (all_of o) got newest newest held [] state state' down down' refl (sym none) s d t in
    tied_taken o.opening (all_of o) newest got now got' state' down' bare front (subst (λ (ts : List ℕ). Rises ts (asked got')) same rises)

-- ---- the marks of what is held

marks_behind : (o : Outgoing) (marks : List Mark) (many : ℕ) (next : State) (newest : Option ℕ) (held got : List Request) (state : State) (down : Bool) → IsTied o.opening (all_of o) newest held got state down → down ≡ false
    → IsSettled state held marks many next → IsTied o.opening (all_of o ++ Marked marks ∷ []) newest [] got next false
marks_behind o marks many next newest held got state down t up is =
    tied_marks o.opening (all_of o) newest held got state next marks many (retie o.opening (all_of o) got newest newest held held state state down false refl refl refl (sym up) t) is

-- they are lawful behind what is posted
pub marks_lawful : (o : Outgoing) (p : Notice) (marks : List Mark) (many : ℕ) (next : State) (newest : Option ℕ) (held got : List Request) (state : State) (down : Bool) → IsTied o.opening (all_of o) newest held got state down → down ≡ false → o.due ≡ []
    → p ≡ Marked marks → IsSettled state held marks many next → IsLawful o.opening.starts o.opening.count (o.posted ++ p ∷ [])
marks_lawful o p marks many next newest held got state down t up none at is =
    subst (λ (q : Notice). IsLawful o.opening.starts o.opening.count (o.posted ++ q ∷ [])) (sym at) (lawful_behind o (Marked marks) none (marks_behind o marks many next newest held got state down t up is).lawful)

-- and were told
pub told_marks : (o o' : Outgoing) (p : Notice) (b : Bool) (marks : List Mark) (many : ℕ) (next : State) (newest : Option ℕ) (held held' got : List Request) (state state' : State) (down down' : Bool) → IsTied o.opening (all_of o) newest held got state down → down ≡ false → o.due ≡ []
    → p ≡ Marked marks → IsSettled state held marks many next → MatchBool b (o' ≡ with_posted o p) (o' ≡ with_due o p) → held' ≡ [] → state' ≡ next → down' ≡ false
    → IsTied o'.opening (all_of o') newest held' got state' down'
told_marks o o' p b marks many next newest held held' got state state' down down' t up none at is told h s d =
    let now = marks_behind o marks many next newest held got state down t up is in
    let with_p : IsTied o.opening (all_of o ++ p ∷ []) newest [] got next false = subst (λ (q : Notice). IsTied o.opening (all_of o ++ q ∷ []) newest [] got next false) (sym at) now in
    retie o'.opening (all_of o') got newest newest [] held' next state' false down' refl h s d (tied_told newest [] got next false o o' p b none told with_p)

-- ---- that the device failed

down_behind : (o : Outgoing) (p : Notice) (newest : Option ℕ) (held got : List Request) (state : State) (down : Bool) → IsTied o.opening (all_of o) newest held got state down → down ≡ false
    → p ≡ Failed → IsTied o.opening (all_of o ++ p ∷ []) newest held got state true
down_behind o p newest held got state down t up is =
    subst (λ (q : Notice). IsTied o.opening (all_of o ++ q ∷ []) newest held got state true) (sym is)
    (tied_down o.opening (all_of o) newest held got state (retie o.opening (all_of o) got newest newest held held state state down false refl refl refl (sym up) t))

-- it is lawful behind what is posted
pub down_lawful : (o : Outgoing) (p : Notice) (newest : Option ℕ) (held got : List Request) (state : State) (down : Bool) → IsTied o.opening (all_of o) newest held got state down → down ≡ false → o.due ≡ []
    → p ≡ Failed → IsLawful o.opening.starts o.opening.count (o.posted ++ p ∷ [])
down_lawful o p newest held got state down t up none is = lawful_behind o p none (down_behind o p newest held got state down t up is).lawful

-- and was told
pub told_down : (o o' : Outgoing) (p : Notice) (b : Bool) (newest : Option ℕ) (held held' got : List Request) (state state' : State) (down down' : Bool) → IsTied o.opening (all_of o) newest held got state down → down ≡ false → o.due ≡ []
    → p ≡ Failed → MatchBool b (o' ≡ with_posted o p) (o' ≡ with_due o p) → held' ≡ held → state' ≡ state → down' ≡ true
    → IsTied o'.opening (all_of o') newest held' got state' down'
told_down o o' p b newest held held' got state state' down down' t up none is told h s d =
    retie o'.opening (all_of o') got newest newest held held' state state' true down' refl h s d (tied_told newest held got state true o o' p b none told (down_behind o p newest held got state down t up is))

-- ---- a generation

-- it is tied behind what is posted and due, and so lawful
pub earlier_tied : (o : Outgoing) (scheme : Parts) (number : ℕ) (newest : Option ℕ) (held got : List Request) (state : State) (down : Bool) → IsTied o.opening (all_of o) newest held got state down → down ≡ false
    → number ≤ state.count → IsAhead number (all_of o) → (number ≡ state.count → Serves state.graph (tables scheme))
    → IsTied o.opening (all_of o ++ Built number scheme ∷ []) (Some number) held got state down
earlier_tied o scheme number newest held got state down t up reached ahead serves =
    let now = retie o.opening (all_of o) got newest newest held held state state down false refl refl refl (sym up) t in
    subst (λ (d : Bool). IsTied o.opening (all_of o ++ Built number scheme ∷ []) (Some number) held got state d) (sym up)
    (tied_earlier o.opening (all_of o) newest held got state number scheme now reached ahead serves)

-- ---- what was due is paid

pub not_some : {A : Type 0} (xs : List A) → (xs ≢ [] → ⊥) → xs ≡ []
not_some [] none = refl
not_some (x ∷ xs) none = absurd (none (λ e. cc))

-- where nothing is kept and nothing came back, nothing is paid
pub pays_nothing : (w : Posts) (back back' : Option Posting) (o : Outgoing) → w.kept ≡ [] → back ≡ None → back' ≡ None → outgoing w back ≡ o → outgoing w back' ≡ paid o
pays_nothing w back back' o none was now is =
    let due : (b : Option Posting) → b ≡ None → w.kept ++ back_of b ≡ [] = λ b e. ap (λ x. w.kept ++ back_of x) e ∙ (append-nil w.kept ∙ none) in
    let posted : w.posted ≡ w.posted ++ (w.kept ++ back_of back) = sym (ap (λ l. w.posted ++ l) (due back was) ∙ append-nil w.posted) in
    let pays : outgoing w back' ≡ paid (outgoing w back) = λ i. record { opening = w.opening; posted = posted i; due = due back' now i } in
    pays ∙ ap paid is
