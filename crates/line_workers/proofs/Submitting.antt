-- Requests that lines put, and what was noted of the lines.
use Rattle.std.proofs.Common.{◌≡◌, ◌≢◌, ◌+◌, ◌++◌, ◌∷◌, [], ℕ, List, Option, Some, length, refl, sym, ap, subst, ◌∙◌, length-append}
use Rattle.std.specs.Prelude.{slice_get}
use mathlib.Core.Logic.{∥∥₁_map}
use Rattle.logbook.specs.Pages.{Book}
use Rattle.graph_edits.specs.declared.edits.Op.{Op}
use Rattle.requests.specs.declared.request.Request.{Request}
use Rattle.generations.specs.declared.posting.Mark.{Mark}
use Rattle.generations.proofs.Sharing.{goes_self, goes_trans}
use Rattle.put_lines.specs.declared.put_line.PutLine.{PutLine}
use Rattle.put_lines.specs.Lines.{AddsLine, Listed, lines_of_session}
use Rattle.intake.specs.Editors.{Editing}
use Rattle.service_actors.specs.Edited.{IsSameEditor}
use Rattle.live_lines.specs.declared.asked.Asked.{Asked}
use Rattle.live_lines.specs.declared.asked.Asked.TheVariants.{Edit}
use Rattle.live_lines.specs.declared.answer.Answer.{Answer}
use Rattle.live_lines.specs.declared.answer.Answer.TheVariants.{Settled}
use Rattle.live_lines.specs.Answers.{FitsAsked, IsOfTicket}
use Rattle.line_exchange.specs.Inputs.{Input}
use Rattle.line_exchange.specs.Streams.{IsAskedAt}
use Rattle.line_exchange.specs.PutLines.{put_by}
use Rattle.line_exchange.specs.declared.messages.Noted.{Noted}
use Rattle.line_workers.specs.Submits.{ArePutBy, HasNoted, HasPutFor, IsPutAt, NotesAnswer}

-- one more was put, by a line more
by_more : (input : Input) (editors : ℕ) (lines : List PutLine) (requests : List Request) (line : PutLine) (request : Request) → ArePutBy input editors lines requests → line.ticket ≡ request.ticket
    → ∥ IsPutAt input editors line.place request ∥₁ → ArePutBy input editors (lines ++ line ∷ []) (requests ++ request ∷ [])
by_more input editors [] [] line request are ticket put = (ticket, put, tt)
by_more input editors (l ∷ lines) (r ∷ requests) line request are ticket put = (are.0, are.1, by_more input editors lines requests line request are.2 ticket put)
by_more input editors [] (r ∷ requests) line request are ticket put = absurd are
by_more input editors (l ∷ lines) [] line request are ticket put = absurd are

-- a line that asks for an edit put this request
put_at : (input : Input) (editors place session s told : ℕ) (ticket : Option ℕ) (change : List Op) → ∥ IsAskedAt input editors place (Edit session ticket change) ∥₁ → s ≡ session → IsOfTicket ticket told
    → ∥ IsPutAt input editors place (record { session = s; ticket = told; change = change }) ∥₁
put_at input editors place session s told ticket change asked same under =
    ∥∥₁_map asked (λ a. record { ticket = ticket; asked = subst (λ (n : ℕ). IsAskedAt input editors place (Edit n ticket change)) (sym same) a; under = under })

-- nothing was put, and nothing was noted
noted_still : (book : Book) (input : Input) (editors : ℕ) (old new : Editing) (before after : Noted) → HasNoted book input editors old before → new.session ≡ old.session → new.put ≡ old.put → after.number ≡ before.number → after.lines ≡ before.lines
    → HasNoted book input editors new after
noted_still book input editors old new before after has own put number lines =
    let same : lines_of_session new.session after.lines.lines ≡ lines_of_session old.session before.lines.lines = (λ i. lines_of_session (own i) (lines i).lines) in
    record {
      book_is = ap (λ (l : Listed). l.book) lines ∙ has.book_is;
      number = number ∙ (has.number ∙ ap length (sym same));
      put = subst (λ (rs : List Request). ArePutBy input editors (lines_of_session new.session after.lines.lines) rs) (sym put)
          (subst (λ (ls : List PutLine). ArePutBy input editors ls old.put) (sym same) has.put);
    }

-- a line put a request, and was noted
noted_put : (book : Book) (input : Input) (editors place : ℕ) (line : Asked) (mark : Mark) (old new : Editing) (before after : Noted) → HasNoted book input editors old before → new.session ≡ old.session
    → ∥ IsAskedAt input editors place line ∥₁ → FitsAsked line (Settled mark) → HasPutFor line (Settled mark) old new → NotesAnswer old.session place (Settled mark) before after → HasNoted book input editors new after
noted_put book input editors place (Edit session ticket change) mark old new before after has own asked fits put notes =
    let line = put_by mark place in
    let request : Request = record { session = mark.session; ticket = mark.ticket; change = change } in
    let mine : mark.session ≡ new.session = notes.0 ∙ sym own in
    let all : lines_of_session new.session after.lines.lines ≡ lines_of_session old.session before.lines.lines ++ line ∷ [] =
    subst (λ (s : ℕ). lines_of_session s after.lines.lines ≡ lines_of_session s before.lines.lines ++ line ∷ []) mine notes.2.added ∙ ap (λ (s : ℕ). lines_of_session s before.lines.lines ++ line ∷ []) own in
    record {
      book_is = notes.2.book ∙ has.book_is;
      number = notes.1 ∙ (ap (λ (n : ℕ). n + 1) has.number ∙ sym (ap length all ∙ length-append (lines_of_session old.session before.lines.lines) (line ∷ [])));
      put = subst (λ (rs : List Request). ArePutBy input editors (lines_of_session new.session after.lines.lines) rs) (sym put)
          (subst (λ (ls : List PutLine). ArePutBy input editors ls (old.put ++ request ∷ [])) (sym all)
          (by_more input editors (lines_of_session old.session before.lines.lines) old.put line request has.put refl (put_at input editors place session mark.session mark.ticket ticket change asked fits.0 fits.1)));
    }
noted_put book input editors place _ mark old new before after has own asked fits put notes = absurd fits

-- an answer that is no verdict tells that nothing was put
nothing_put : (line : Asked) (answer : Answer) (old new : Editing) → ((mark : Mark) → answer ≢ Settled mark) → HasPutFor line answer old new → new.put ≡ old.put
nothing_put (Edit session ticket change) (Settled mark) old new other put = absurd (other mark refl)
nothing_put (Edit session ticket change) _ old new other put = put
nothing_put _ answer old new other put = put

-- a line was answered
pub noted_for : (book : Book) (input : Input) (editors place : ℕ) (line : Asked) (answer : Answer) (old new : Editing) (before after : Noted) → HasNoted book input editors old before → new.session ≡ old.session
    → ∥ IsAskedAt input editors place line ∥₁ → FitsAsked line answer → HasPutFor line answer old new → NotesAnswer old.session place answer before after → HasNoted book input editors new after
noted_for book input editors place line (Settled mark) old new before after has own asked fits put notes = noted_put book input editors place line mark old new before after has own asked fits put notes
noted_for book input editors place line answer old new before after has own asked fits put notes =
    noted_still book input editors old new before after has own (nothing_put line answer old new (λ mark is. cc) put) notes.0 notes.1

-- before any line
pub none_noted : (book : Book) (input : Input) (editors : ℕ) (editor : Editing) (noted : Noted) → noted.lines.book ≡ book → noted.number ≡ 0 → noted.lines.lines ≡ [] → editor.put ≡ [] → HasNoted book input editors editor noted
none_noted book input editors editor noted of number none put = record {
  book_is = of;
  number = number ∙ ap (λ (ls : List PutLine). length (lines_of_session editor.session ls)) (sym none);
  put = subst (λ (ls : List PutLine). ArePutBy input editors (lines_of_session editor.session ls) editor.put) (sym none) (subst (λ (rs : List Request). ArePutBy input editors [] rs) (sym put) tt);
}

-- ---- a message

last_there : (lines : List PutLine) (line : PutLine) → slice_get (lines ++ line ∷ []) (length lines) ≡ Some line
last_there [] line = refl
last_there (l ∷ lines) line = last_there lines line

-- a line that was added is the next one
pub next_there : (old : Listed) (line : PutLine) (new after : Listed) (number : ℕ) → AddsLine old line new → number ≡ length (lines_of_session line.session old.lines) → after ≡ new → slice_get (lines_of_session line.session after.lines) number ≡ Some line
next_there old line new after number adds many same =
    subst (λ (l : Listed). slice_get (lines_of_session line.session l.lines) number ≡ Some line) (sym same)
    (subst (λ (n : ℕ). slice_get (lines_of_session line.session new.lines) n ≡ Some line) (sym many)
    (subst (λ (ls : List PutLine). slice_get ls (length (lines_of_session line.session old.lines)) ≡ Some line) (sym adds.added) (last_there (lines_of_session line.session old.lines) line)))

-- ---- one editor

pub same_first : (e : Editing) → IsSameEditor e e
same_first e = record { queue = refl; session = refl; start = refl; known = goes_self e.known }

pub same_twice : (old mid new : Editing) → IsSameEditor old mid → IsSameEditor mid new → IsSameEditor old new
same_twice old mid new one two =
    record { queue = two.queue ∙ one.queue; session = two.session ∙ one.session; start = two.start ∙ one.start; known = goes_trans old.known mid.known new.known one.known two.known }
