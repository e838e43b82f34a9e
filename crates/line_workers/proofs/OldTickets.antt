-- Tickets that are in, and tickets that were submitted before and aren't.
use Rattle.std.proofs.Common.{◌≡◌, ◌<◌, ◌≤◌, ◌++◌, ◌∷◌, [], ◌∙◌, sym, subst, refl, ℕ, List, Bool, true, false, cond, nat_le, nat_lt}
use Rattle.std.specs.Prelude.{Option, Some, None}
use Rattle.std.specs.List.{Contains}
use Rattle.std.specs.Option.{unwrap_or}
use Rattle.std.proofs.lemmas.Bool.{leb-false, leb-true}
use Rattle.std.proofs.lemmas.List.Concat.{flat_map-append}
use Rattle.std.proofs.lemmas.List.Elements.{Contains-append_left}
use mathlib.Core.Logic.{∥∥₁_map}
use Rattle.graph_edits.specs.declared.edits.Code.{Code}
use Rattle.graph_edits.specs.declared.edits.Op.{Op}
use Rattle.requests.specs.Tickets.{worn_limit}
use Rattle.generations.specs.declared.posting.Mark.{Mark}
use Rattle.generations.specs.declared.posting.Notice.{Notice}
use Rattle.generations.specs.declared.posting.Verdict.TheVariants.{Refused}
use Rattle.generations.specs.Notices.{marks_in, marks_of}
use Rattle.generations.specs.Beginnings.{Beginning, GoesOn, board_after}
use Rattle.intake.specs.declared.outcome.SubmitRefused.TheVariants.{Busy, AlreadyIn, OldTicket, Worn}
use Rattle.intake.specs.Editors.{Editing}
use Rattle.intake.specs.Outcomes.{is_open, outcome_on}
use Rattle.intake.specs.Turns.{last_asked}
use Rattle.service_actors.specs.Edited.{IsLastMark}
use Rattle.service_actors.specs.EditedAsAsked.{IsEditEnd, IsIn, IsOld, asked_ticket}
use Rattle.service_actors.specs.declared.session_editor.EditEnd.{EditEnd}
use Rattle.service_actors.specs.declared.session_editor.EditEnd.TheVariants as ends
use Rattle.live_lines.specs.declared.asked.Asked.TheVariants as asks
use Rattle.live_lines.specs.declared.answer.Answer.{Answer}
use Rattle.live_lines.specs.declared.answer.Answer.TheVariants as answers
use Rattle.live_lines.specs.Answers.{FitsAsked, IsOfTicket}
use Rattle.line_exchange.specs.OneList.{IsSaidBy, last_in}

-- ---- marks

-- a mark of a list is one of each list that goes on from it
marks_later : (a b : Beginning) (mark : Mark) → GoesOn a b → Contains (marks_in a.log) mark → Contains (marks_in b.log) mark
marks_later a b mark on has =
    subst (λ (l : List Notice). Contains (marks_in l) mark) on.1.1
    (subst (λ (ms : List Mark). Contains ms mark) (sym (flat_map-append marks_of a.log on.1.0)) (Contains-append_left (marks_in a.log) (marks_in on.1.0) mark has))

-- a mark that is known is said
edit_said : (known : Beginning) (session : ℕ) (named : Option ℕ) (change : List Op) (mark : Mark) → Contains (marks_in known.log) mark → IsSaidBy known (asks.Edit session named change) (answers.Settled mark)
edit_said known session named change mark has all lawful are_named on = marks_later known all mark on has

-- ---- why a ticket isn't let in

in_by : (busy accepted old worn : Bool) → cond busy (Some Busy) (cond accepted (Some AlreadyIn) (cond old (Some OldTicket) (cond worn (Some Worn) None))) ≡ Some AlreadyIn → accepted ≡ true
in_by true a o w is = absurd (cc)
in_by false true o w is = refl
in_by false false true w is = absurd (cc)
in_by false false false true is = absurd (cc)
in_by false false false false is = absurd (cc)

out_by : (busy accepted old worn : Bool) → cond busy (Some Busy) (cond accepted (Some AlreadyIn) (cond old (Some OldTicket) (cond worn (Some Worn) None))) ≡ Some OldTicket → accepted ≡ false
out_by true a o w is = absurd (cc)
out_by false true o w is = absurd (cc)
out_by false false o w is = refl

-- a ticket that is in already, by the board
is_in : (known : Beginning) (e : Editing) (ticket : ℕ) → IsIn known e ticket → ticket ≤ last_in known e.session
is_in known e ticket is =
    let s = board_after known in
    leb-true ticket (last_in known e.session)
    (in_by (is_open (outcome_on s e.session (last_asked e.put))) (nat_le ticket (last_in known e.session)) (nat_le ticket (unwrap_or (last_asked e.put) e.start)) (nat_lt worn_limit ticket) is)

-- .. and an old one, which isn't
is_out : (known : Beginning) (e : Editing) (ticket : ℕ) → IsOld known e ticket → last_in known e.session < ticket
is_out known e ticket is =
    let s = board_after known in
    leb-false ticket (last_in known e.session)
    (out_by (is_open (outcome_on s e.session (last_asked e.put))) (nat_le ticket (last_in known e.session)) (nat_le ticket (unwrap_or (last_asked e.put) e.start)) (nat_lt worn_limit ticket) is)

-- ---- what each list says that goes on from what is known

in_said : (known : Beginning) (e : Editing) (session : ℕ) (named : Option ℕ) (change : List Op) (ticket : ℕ) → session ≡ e.session → IsIn known e ticket → IsSaidBy known (asks.Edit session named change) (answers.AlreadyIn session ticket)
in_said known e session named change ticket of is all lawful are_named on = (known, on, subst (λ (s : ℕ). ticket ≤ last_in known s) (sym of) (is_in known e ticket is))

refused_said : (known : Beginning) (e : Editing) (session : ℕ) (named : Option ℕ) (change : List Op) (ticket op : ℕ) (code : Code) → session ≡ e.session → IsOld known e ticket
    → ∥ IsLastMark e known (record { session = e.session; ticket = ticket; verdict = Refused op code }) ∥₁ → ∥ IsSaidBy known (asks.Edit session named change) (answers.RefusedBefore session ticket op code) ∥₁
refused_said known e session named change ticket op code of is told =
    ∥∥₁_map told (λ last. subst (λ (s : ℕ). IsSaidBy known (asks.Edit s named change) (answers.RefusedBefore s ticket op code)) (sym of) (λ all lawful are_named on. (known, on, is_out known e ticket is, last.0.1)))

old_said : (known : Beginning) (e : Editing) (session : ℕ) (named : Option ℕ) (change : List Op) (ticket : ℕ) → session ≡ e.session → IsOld known e ticket
    → ∥ ((mark : Mark) × IsLastMark e known mark × (ticket < mark.ticket)) ∥₁ → ∥ IsSaidBy known (asks.Edit session named change) (answers.OldTicket session ticket) ∥₁
old_said known e session named change ticket of is told =
    ∥∥₁_map told (λ last. subst (λ (s : ℕ). IsSaidBy known (asks.Edit s named change) (answers.OldTicket s ticket)) (sym of)
    (λ all lawful are_named on. (last.0, last.1.0.0, last.2, (known, on, is_out known e ticket is, last.1.0.1))))

-- ---- what came of an edit

-- how it is answered; nothing is where its ticket is past the limit
abbrev pub answer_for : ℕ → ℕ → EditEnd → Answer
answer_for session ticket (ends.Settled mark) = answers.Settled mark
answer_for session ticket ends.AlreadyIn = answers.AlreadyIn session ticket
answer_for session ticket (ends.RefusedBefore op code) = answers.RefusedBefore session ticket op code
answer_for session ticket ends.OldTicket = answers.OldTicket session ticket
answer_for session ticket ends.PastLimit = answers.NotUnderstood

each_said : (e new : Editing) (session : ℕ) (named : Option ℕ) (change : List Op) (ticket : ℕ) (end : EditEnd) → session ≡ e.session → IsEditEnd e ticket change new end
    → ∥ IsSaidBy new.known (asks.Edit session named change) (answer_for session ticket end) ∥₁
each_said e new session named change ticket (ends.Settled mark) of is = ∣ edit_said new.known session named change mark is.0.told.1 ∣₁
each_said e new session named change ticket ends.AlreadyIn of is = ∣ in_said new.known e session named change ticket of is.1 ∣₁
each_said e new session named change ticket (ends.RefusedBefore op code) of is = refused_said new.known e session named change ticket op code of is.1 is.2
each_said e new session named change ticket ends.OldTicket of is = old_said new.known e session named change ticket of is.1 is.2
each_said e new session named change ticket ends.PastLimit of is = ∣ (λ all lawful are_named on. tt) ∣₁

pub end_said : (e new : Editing) (session : ℕ) (named : Option ℕ) (change : List Op) (ticket : ℕ) (end came : EditEnd) → end ≡ came → session ≡ e.session → IsEditEnd e ticket change new end
    → ∥ IsSaidBy new.known (asks.Edit session named change) (answer_for session ticket came) ∥₁
end_said e new session named change ticket end came same of is = each_said e new session named change ticket came of (subst (λ (x : EditEnd). IsEditEnd e ticket change new x) same is)

-- a change that is settled was put
pub settled_put : (e new : Editing) (change : List Op) (ticket : ℕ) (end : EditEnd) (mark : Mark) → end ≡ ends.Settled mark → IsEditEnd e ticket change new end
    → new.put ≡ e.put ++ record { session = mark.session; ticket = mark.ticket; change = change } ∷ []
settled_put e new change ticket end mark same is =
    let put = subst (λ (x : EditEnd). IsEditEnd e ticket change new x) same is in
    put.0.put ∙ (λ i. e.put ++ record { session = sym put.0.told.0 i; ticket = mark.ticket; change = change } ∷ [])

of_ticket : (e : Editing) (named : Option ℕ) (ticket told : ℕ) → ticket ≡ asked_ticket e named → told ≡ ticket → IsOfTicket named told
of_ticket e None ticket told is same = tt
of_ticket e (Some asked) ticket told is same = same ∙ is

-- and its mark is of what was asked for
pub settled_fits : (e new : Editing) (session : ℕ) (named : Option ℕ) (change : List Op) (ticket : ℕ) (end : EditEnd) (mark : Mark) → end ≡ ends.Settled mark → session ≡ e.session → ticket ≡ asked_ticket e named
    → IsEditEnd e ticket change new end → FitsAsked (asks.Edit session named change) (answers.Settled mark)
settled_fits e new session named change ticket end mark same of under is =
    let put = subst (λ (x : EditEnd). IsEditEnd e ticket change new x) same is in
    (put.0.told.0 ∙ sym of, of_ticket e named ticket mark.ticket under put.1)
