-- What an editor does with a change under a ticket that is asked for.
use Rattle.std.specs.Prelude.{◌≡◌, ◌<◌, ◌+◌, ◌-◌, ◌^◌, min, ◌++◌, ◌∷◌, [], ℕ, List, Option, Some, None}
use Rattle.graph_edits.specs.declared.edits.Op.{Op}
use Rattle.generations.specs.Beginnings.{Beginning}
use Rattle.generations.specs.declared.posting.Mark.{Mark}
use Rattle.generations.specs.declared.posting.Verdict.TheVariants.{Refused}
use Rattle.intake.specs.declared.outcome.SubmitRefused.TheVariants as refused
use Rattle.intake.specs.Editors.{Editing, refusal_by}
use Rattle.intake.specs.Turns.{last_or_start}
use Rattle.service_actors.specs.declared.session_editor.EditEnd.{EditEnd}
use Rattle.service_actors.specs.declared.session_editor.EditEnd.TheVariants.{Settled, AlreadyIn, RefusedBefore, OldTicket, PastLimit}
use Rattle.service_actors.specs.declared.session_editor.Put.{Put}
use Rattle.service_actors.specs.declared.session_editor.Put.TheVariants as tried
use Rattle.service_actors.specs.Edited.{IsEdited, IsLastMark}

-- the ticket is at most the last one that is in by the board so far
abbrev pub IsIn : Beginning → Editing → ℕ → Type 0
IsIn seen e ticket = refusal_by seen e ticket ≡ Some refused.AlreadyIn

-- it isn't in, and at most the last one that was submitted
abbrev pub IsOld : Beginning → Editing → ℕ → Type 0
IsOld seen e ticket = refusal_by seen e ticket ≡ Some refused.OldTicket

-- it is past its limit
abbrev pub IsPastLimit : Beginning → Editing → ℕ → Type 0
IsPastLimit seen e ticket = refusal_by seen e ticket ≡ Some refused.Worn

-- it is above all that were submitted
abbrev pub IsNew : Editing → ℕ → Type 0
IsNew e ticket = last_or_start e.start e.put < ticket

-- what became of a change that was to be put into the queue
abbrev pub HasPut : Editing → ℕ → List Op → Editing → Put → Type 0
HasPut old ticket change new tried.In = (new.put ≡ old.put ++ record { session = old.session; ticket = ticket; change = change } ∷ []) × IsNew old ticket
HasPut old ticket change new tried.AlreadyIn = (new.put ≡ old.put) × IsIn new.known old ticket
HasPut old ticket change new tried.Old = (new.put ≡ old.put) × IsOld new.known old ticket
HasPut old ticket change new tried.PastLimit = (new.put ≡ old.put) × IsPastLimit new.known old ticket

-- the last change has this mark, or one of a later ticket
abbrev pub IsToldBefore : Option Mark → ℕ → EditEnd → Type 0
IsToldBefore told ticket (RefusedBefore op code) = (mark : Mark) × (told ≡ Some mark) × (mark.ticket ≡ ticket) × (mark.verdict ≡ Refused op code)
IsToldBefore told ticket OldTicket = (mark : Mark) × (told ≡ Some mark) × (ticket < mark.ticket)
IsToldBefore told ticket other = ⊥

-- What came of it: its mark is under the ticket that was asked for, which is above all before; or the ticket is in; or the last change's
-- mark is a refusal under it, or has a later ticket; or it is past its limit.
abbrev pub IsEditEnd : Editing → ℕ → List Op → Editing → EditEnd → Type 0
IsEditEnd old ticket change new (Settled mark) = IsEdited old change new mark × (mark.ticket ≡ ticket) × IsNew old ticket
IsEditEnd old ticket change new AlreadyIn = (new.put ≡ old.put) × IsIn new.known old ticket
IsEditEnd old ticket change new (RefusedBefore op code) =
    (new.put ≡ old.put) × IsOld new.known old ticket × ∥ IsLastMark old new.known (record { session = old.session; ticket = ticket; verdict = Refused op code }) ∥₁
IsEditEnd old ticket change new OldTicket = (new.put ≡ old.put) × IsOld new.known old ticket × ∥ ((mark : Mark) × IsLastMark old new.known mark × (ticket < mark.ticket)) ∥₁
IsEditEnd old ticket change new PastLimit = (new.put ≡ old.put) × IsPastLimit new.known old ticket

-- the ticket that is asked for: where none is named, the one behind the last that was submitted, or behind the start; no number is above
-- that of 64 bits
abbrev pub asked_ticket : Editing → Option ℕ → ℕ
asked_ticket e (Some ticket) = ticket
asked_ticket e None = min (last_or_start e.start e.put + 1) (2 ^ 64 - 1)
