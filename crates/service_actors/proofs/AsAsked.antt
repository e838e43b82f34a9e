-- Changes under a ticket that is asked for.
use Rattle.std.specs.Prelude.{ℕ, ◌≡◌, ◌++◌, ◌∷◌, [], List, Option, Some}
use Rattle.std.specs.Option.{unwrap_or}
use Rattle.std.proofs.Common.{ap, sym, ◌∙◌, subst}
use Rattle.graph_edits.specs.declared.edits.Op.{Op}
use Rattle.requests.specs.declared.request.Request.{Request}
use Rattle.generations.specs.declared.posting.Mark.{Mark}
use Rattle.generations.specs.Beginnings.{board_after}
use Rattle.generations.proofs.LastMarks.{mark_there}
use Rattle.intake.specs.Editors.{Editing}
use Rattle.intake.specs.Turns.{last_asked, last_or_start}
use Rattle.intake.proofs.Refusals.{asked_push}
use Rattle.intake.proofs.SettledMarks.{settled_by}
use Rattle.service_actors.specs.Edited.{IsSameEditor, IsTold}
use Rattle.service_actors.specs.Settled.{IsMarkOf}
use Rattle.service_actors.specs.declared.session_editor.EditEnd.TheVariants.{Settled}
use Rattle.service_actors.specs.declared.session_editor.Put.TheVariants as tried
use Rattle.service_actors.specs.EditedAsAsked.{HasPut, IsEditEnd}

-- the last ticket is that of the change that was put last
last_put : (put before : List Request) (session ticket : ℕ) (change : List Op) → put ≡ before ++ record { session = session; ticket = ticket; change = change } ∷ [] → last_asked put ≡ Some ticket
last_put put before session ticket change is = ap last_asked is ∙ asked_push before (record { session = session; ticket = ticket; change = change })

-- so it is the session's last one
pub last_after : (put before : List Request) (start session ticket : ℕ) (change : List Op) → put ≡ before ++ record { session = session; ticket = ticket; change = change } ∷ [] → ticket ≡ last_or_start start put
last_after put before start session ticket change is = sym (ap (λ (o : Option ℕ). unwrap_or o start) (last_put put before session ticket change is))

-- the mark of a change that was put last has its ticket
marked_under : (e : Editing) (mark : Mark) (before : List Request) (session ticket : ℕ) (change : List Op) → e.put ≡ before ++ record { session = session; ticket = ticket; change = change } ∷ []
    → IsMarkOf e mark → mark.ticket ≡ ticket
marked_under e mark before session ticket change is marked =
    let last : Some mark.ticket ≡ Some ticket = sym marked.ticket ∙ last_put e.put before session ticket change is in
    cc

-- and stands in what the editor knows
is_told : (e : Editing) (mark : Mark) → IsMarkOf e mark → IsTold e.session e.known mark
is_told e mark is =
    let shown = settled_by (board_after e.known) e.session (last_asked e.put) mark is.told in
    (is.session, (mark_there e.known.opening.starts e.known.opening.count e.known.log e.session mark shown.0).1)

-- a change that was put, and then settled
pub settled_as_asked : (old put now : Editing) (change : List Op) (ticket : ℕ) (mark : Mark) → IsSameEditor old put → IsSameEditor put now → now.put ≡ put.put
    → HasPut old ticket change put tried.In → IsMarkOf now mark → IsEditEnd old ticket change now (Settled mark)
settled_as_asked old put now change ticket mark one two none asked marked =
    let under : mark.ticket ≡ ticket = marked_under now mark old.put old.session ticket change (none ∙ asked.0) marked in (
      record {
        put = none ∙ asked.0 ∙ ap (λ n. old.put ++ record { session = old.session; ticket = n; change = change } ∷ []) (sym under);
        told = subst (λ (s : ℕ). IsTold s now.known mark) (two.session ∙ one.session) (is_told now mark marked);
      },
      under,
      asked.1,
    )
