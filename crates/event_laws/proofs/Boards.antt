-- What a board of a life says of a session, and the state of its store.
use Rattle.std.proofs.Common.{◌≡◌, ◌<◌, ◌≤◌, ◌==◌, ℕ, Bool, true, false, cond, List, ◌++◌, length, map, fold, take, drop, Option, Some, None, refl, sym, ap, ◌∙◌, subst, arith, append_assoc}
use Rattle.std.proofs.Math.Seq.{take-append_seam}
use Rattle.std.proofs.lemmas.List.{take-append-drop}
use Rattle.std.proofs.lemmas.Bool.{eqb-true}
use Rattle.requests.specs.Tickets.{sessions, last_of, tickets_after, times, Rises, NoneOf}
use Rattle.requests.specs.declared.request.Request.{Request}
use Rattle.requests.proofs.TicketLemmas.{after_wide, no_less, greatest, rises_first, rises_rest, none_of, after_append}
use Rattle.layout_2.specs.State.{State, asked}
use Rattle.generations.specs.declared.posting.Mark.{Mark}
use Rattle.generations.specs.declared.posting.Notice.{Notice}
use Rattle.generations.specs.Notices.{told_to, marks_in}
use Rattle.generations.specs.Boards.{BoardState, board_of, accepting, mark_of}
use Rattle.generations.proofs.LastMarks.{mark_there}
use Rattle.generations.proofs.Lawfulness.{marks_append, accepted_as_told}
use Rattle.group_commit.specs.Settling.{Settled, settle}
use Rattle.group_commit.proofs.SettlingLemmas.{settle-append, one_mark_each}
use Rattle.intake.specs.declared.outcome.Outcome.TheVariants.{Down, Waiting}
use Rattle.intake.specs.Outcomes.{by_mark, unsettled, told, is_open}
use Rattle.request_lists.proofs.Posted.{marks_take}
use Rattle.event_laws.specs.LaterLives.{LifeLists, let_in, answered, IsLife}
use Rattle.event_laws.specs.Submits.{board_of_lists, IsLastOf, is_busy}
use Rattle.event_laws.specs.OnceLaws.{FreeShowsLast}
use Rattle.event_laws.proofs.Every.{on_bool}
use Rattle.event_laws.proofs.Settled.{asked_append, none_first, board_shows, untouched, told_time}

-- ---- the last marks of a board

-- a ticket that isn't open on a board is that of the session's last mark there
record IsMarked (o : Option Mark) (l : ℕ) : Type 0 where
  mark : Mark
  is : o ≡ Some mark
  own : mark.ticket ≡ l

-- one that isn't settled is open
open_by : (down : Bool) → is_open (cond down Down Waiting) ≡ false → ⊥
open_by true e = cc
open_by false e = cc

is_marked : (b : BoardState) (l : ℕ) (o : Option Mark) → is_open (by_mark b l o) ≡ false → IsMarked o l
is_marked b l None free = absurd (open_by b.down free)
is_marked b l (Some m) free = on_bool (λ t. is_open (cond t (told l m.verdict) (unsettled b)) ≡ false → IsMarked (Some m) l) (m.ticket == l)
    (λ e _. record { mark = m; is = refl; own = eqb-true m.ticket l e })
    (λ _ h. absurd (open_by b.down h)) free

-- ---- a board of a life

-- how many requests of a life its board has the marks of, and which
record Looked (life : LifeLists) (k : ℕ) : Type 0 where
  many : ℕ
  marks : marks_in (take k life.posted) ≡ (settle life.opened (take many (take life.done life.taken))).marks

looked : (life : LifeLists) → IsLife life → (k : ℕ) → Looked life k
looked life is k =
    let log = take k life.posted in
    let ms = marks_in log in
    let later = marks_in (drop k life.posted) in
    let posted : ms ++ later ≡ marks_in life.posted = sym (marks_append log (drop k life.posted)) ∙ ap marks_in (take-append-drop k life.posted) in
    let whole : ms ++ (later ++ is.told.0) ≡ (answered life).marks = sym (append_assoc ms later is.told.0) ∙ (ap (λ (l : List Mark). l ++ is.told.0) posted ∙ is.told.1) in
    record { many = length ms; marks = sym (take-append_seam ms (later ++ is.told.0)) ∙ (ap (take (length ms)) whole ∙ marks_take life.opened (length ms) (take life.done life.taken)) }

-- what the session's last ticket is of all requests it is of the marked ones, where the session isn't busy
seen_by : (starts : List ℕ) (count : ℕ) (log : List Notice) (front whole : List Request) (s : ℕ) (last : Option ℕ) → length starts ≡ sessions → Rises starts (asked front) → map told_to (marks_in log) ≡ asked front
    → IsLastOf starts whole s last → is_busy (board_of starts count log) s last ≡ false → last_of (tickets_after starts (asked whole)) s ≤ last_of (tickets_after starts (asked front)) s
seen_by starts count log front whole s None wide rises each is free = let a = no_less starts (asked front) s wide rises in omega (arith, a, is)
seen_by starts count log front whole s (Some l) wide rises each is free =
    let b = board_of starts count log in
    let m = is_marked b l (mark_of b s) free in
    let there = mark_there starts count log s m.mark m.is in
    let some : 0 < times s l (asked front) = subst (λ (p : ℕ × ℕ). 0 < times p.0 p.1 (asked front)) (λ i. (there.0 i, m.own i)) (subst (λ (ps : List (ℕ × ℕ)). 0 < times m.mark.session m.mark.ticket ps) each (told_time (marks_in log) m.mark there.1)) in
    let a = greatest starts (asked front) s l wide rises some in
    omega (arith, a, is)

pub free_shows_last : FreeShowsLast
free_shows_last life is k s last is_last free =
    let ts = life.opened.tickets in
    let l = looked life is k in
    let rs = take life.done life.taken in
    let front = take l.many rs in
    let middle = drop l.many rs in
    let behind = drop life.done life.taken ++ life.waiting in
    let now = settle life.opened front in
    let parts : front ++ middle ≡ rs = take-append-drop l.many rs in
    let whole : let_in life ≡ front ++ (middle ++ behind) =
    ap (λ (x : List Request). x ++ life.waiting) (sym (take-append-drop life.done life.taken)) ∙ (append_assoc rs (drop life.done life.taken) life.waiting ∙ (ap (λ (x : List Request). x ++ behind) (sym parts) ∙ append_assoc front middle behind)) in
    let pairs : asked (let_in life) ≡ asked front ++ asked (middle ++ behind) = ap asked whole ∙ asked_append front (middle ++ behind) in
    let rises : Rises ts (asked front ++ asked (middle ++ behind)) = subst (Rises ts) pairs is.in_turn.0 in
    let each : map told_to (marks_in (take k life.posted)) ≡ asked front = ap (map told_to) l.marks ∙ one_mark_each life.opened front in
    let seen = seen_by ts life.opened.count (take k life.posted) front (let_in life) s last is.wide (rises_first ts (asked front) (asked (middle ++ behind)) rises) each is_last free in
    let all : last_of (tickets_after ts (asked (let_in life))) s ≡ last_of (tickets_after (tickets_after ts (asked front)) (asked (middle ++ behind))) s =
    ap (λ (x : List ℕ). last_of x s) (ap (tickets_after ts) pairs ∙ after_append ts (asked front) (asked (middle ++ behind))) in
    let none : NoneOf s (asked (middle ++ behind)) = none_of (tickets_after ts (asked front)) (asked (middle ++ behind)) s (after_wide ts (asked front) is.wide) (rises_rest ts (asked front) (asked (middle ++ behind)) rises) (omega (arith, all, seen)) in
    let none_between : NoneOf s (asked middle) = none_first s (asked middle) (asked behind) (subst (NoneOf s) (asked_append middle behind) none) in
    let board : (board_of_lists life k).accepted ≡ now.state.tickets = accepted_as_told ts life.opened.count (take k life.posted) ∙ (ap (fold accepting ts) l.marks ∙ board_shows life.opened front) in
    let settled : (answered life).state ≡ (settle now.state middle).state = ap (λ (x : List Request). (settle life.opened x).state) (sym parts) ∙ ap (λ (x : Settled). x.state) (settle-append life.opened front middle) in
    ap (λ (x : List ℕ). last_of x s) board ∙ (sym (untouched s now.state middle none_between) ∙ ap (λ (x : State). last_of x.tickets s) (sym settled))
