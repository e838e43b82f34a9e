-- Editors between two changes.
use Rattle.std.specs.Prelude.{ℕ, ◌≡◌, ◌≢◌, ◌<◌, ◌++◌, ◌∷◌, [], List, Option, Some, None, IfSome}
use Rattle.std.specs.List.{Contains}
use Rattle.std.proofs.Common.{refl, sym, ap, ◌∙◌, subst}
use Rattle.std.proofs.Math.Nat.{ℕ_set}
use mathlib.Core.Logic.{∥∥₁_elim, ∥∥₁_map}
use Rattle.std.proofs.lemmas.List.Concat.{flat_map-append}
use Rattle.std.proofs.lemmas.List.Elements.{Contains-append_left}
use Rattle.graph_edits.specs.declared.edits.Code.{Code}
use Rattle.graph_edits.specs.declared.edits.Op.{Op}
use Rattle.requests.specs.declared.request.Request.{Request}
use Rattle.generations.specs.declared.posting.Mark.{Mark}
use Rattle.generations.specs.declared.posting.Notice.{Notice}
use Rattle.generations.specs.declared.posting.Verdict.TheVariants.{Refused}
use Rattle.generations.specs.Notices.{marks_in, marks_of}
use Rattle.generations.specs.Beginnings.{Beginning, GoesOn}
use Rattle.intake.specs.Editors.{Editing}
use Rattle.intake.specs.Turns.{last_or_start}
use Rattle.service_actors.specs.Edited.{IsEdited, IsLastMark, IsSameEditor, IsTold}
use Rattle.service_actors.specs.EditedAsAsked.{HasPut, IsEditEnd, IsNew, IsToldBefore}
use Rattle.service_actors.specs.declared.session_editor.EditEnd.{EditEnd}
use Rattle.service_actors.specs.declared.session_editor.EditEnd.TheVariants.{Settled, RefusedBefore, OldTicket}
use Rattle.service_actors.specs.declared.session_editor.Put.TheVariants as tried
use Rattle.service_actors.specs.AtRest.{IsAtRest, IsLastTold, RisesFrom, last_by}
use Rattle.service_actors.proofs.AsAsked.{last_after}

-- ---- rising tickets

-- the start goes on to the ticket of the first request
pub start_more : (start : ℕ) (r : Request) (rs : List Request) → last_or_start start (r ∷ rs) ≡ last_or_start r.ticket rs
start_more start r [] = refl
start_more start r (q ∷ rs) = start_more start q rs ∙ sym (start_more r.ticket q rs)

rises_more : (start : ℕ) (rs : List Request) (r : Request) → RisesFrom start rs → last_or_start start rs < r.ticket → RisesFrom start (rs ++ r ∷ [])
rises_more start [] r rises new = (new, tt)
rises_more start (q ∷ rs) r rises new = (rises.0, rises_more q.ticket rs r rises.1 (subst (λ (l : ℕ). l < r.ticket) (start_more start q rs) new))

-- ---- at rest

-- an editor that has submitted nothing
pub rests_new : (e : Editing) → e.put ≡ [] → ∥ IsAtRest e None ∥₁
rests_new e none = ∣ record { rises = subst (λ (rs : List Request). RisesFrom e.start rs) (sym none) tt; told = none } ∣₁

told_later : (session : ℕ) (known later : Beginning) (mark : Mark) → GoesOn known later → IsTold session known mark → IsTold session later mark
told_later session known later mark on told = (
  told.0,
  subst (λ (l : List Notice). Contains (marks_in l) mark) on.1.1
      (subst (λ (ms : List Mark). Contains ms mark) (sym (flat_map-append marks_of known.log on.1.0)) (Contains-append_left (marks_in known.log) (marks_in on.1.0) mark told.1)),
)

-- the ticket of the last mark is the last one that was submitted
last_told : (e : Editing) (told : Option Mark) → IsLastTold e told → last_by told e.start ≡ last_or_start e.start e.put
last_told e None none = sym (ap (λ (rs : List Request). last_or_start e.start rs) none)
last_told e (Some mark) is = is.1

pub last_resting : (e : Editing) (told : Option Mark) → ∥ IsAtRest e told ∥₁ → last_by told e.start ≡ last_or_start e.start e.put
last_resting e told rests = ∥∥₁_elim rests (ℕ_set _ _) (λ r. last_told e told r.told)

-- one that has submitted nothing more
told_still : (old new : Editing) (told : Option Mark) → IsSameEditor old new → new.put ≡ old.put → IsLastTold old told → IsLastTold new told
told_still old new None same put none = put ∙ none
told_still old new (Some mark) same put is = (
  subst (λ (s : ℕ). IsTold s new.known mark) (sym same.session) (told_later old.session old.known new.known mark same.known is.0),
  is.1 ∙ sym (ap (λ (s : ℕ). last_or_start s new.put) same.start ∙ ap (λ (rs : List Request). last_or_start old.start rs) put),
)

rests_still : (old new : Editing) (told : Option Mark) → IsSameEditor old new → new.put ≡ old.put → ∥ IsAtRest old told ∥₁ → ∥ IsAtRest new told ∥₁
rests_still old new told same put rests = ∥∥₁_map rests (λ r. still r)
  where
    still : IsAtRest old told → IsAtRest new told
    still r = record {
      rises = subst (λ (s : ℕ). RisesFrom s new.put) (sym same.start) (subst (λ (rs : List Request). RisesFrom old.start rs) (sym put) r.rises);
      told = told_still old new told same put r.told;
    }

-- one whose change more is settled
rests_settled : (old new : Editing) (told : Option Mark) (change : List Op) (ticket : ℕ) (mark : Mark) → IsSameEditor old new → IsEdited old change new mark → mark.ticket ≡ ticket → IsNew old ticket → ∥ IsAtRest old told ∥₁
    → ∥ IsAtRest new (Some mark) ∥₁
rests_settled old new told change ticket mark same edited under is rests = ∥∥₁_map rests (λ r. settled r)
  where
    settled : IsAtRest old told → IsAtRest new (Some mark)
    settled r = record {
      rises = subst (λ (s : ℕ). RisesFrom s new.put) (sym same.start) (subst (λ (rs : List Request). RisesFrom old.start rs) (sym edited.put)
          (rises_more old.start old.put (record { session = old.session; ticket = mark.ticket; change = change }) r.rises (subst (λ (t : ℕ). IsNew old t) (sym under) is)));
      told = (subst (λ (s : ℕ). IsTold s new.known mark) (sym same.session) edited.told, last_after new.put old.put new.start old.session mark.ticket change edited.put);
    }

-- whatever its change came to
pub rests_after : (old new : Editing) (told last : Option Mark) (change : List Op) (ticket : ℕ) (end : EditEnd) → IsSameEditor old new → IsEditEnd old ticket change new end
    → ((mark : Mark) → end ≡ Settled mark → last ≡ Some mark) → (((mark : Mark) → end ≢ Settled mark) → last ≡ told) → ∥ IsAtRest old told ∥₁ → ∥ IsAtRest new last ∥₁
rests_after old new told last change ticket (Settled mark) same ended settled others rests =
    subst (λ (o : Option Mark). ∥ IsAtRest new o ∥₁) (sym (settled mark refl)) (rests_settled old new told change ticket mark same ended.0 ended.1 ended.2 rests)
rests_after old new told last change ticket _ same ended settled others rests = subst (λ (o : Option Mark). ∥ IsAtRest new o ∥₁) (sym (others (λ mark is. cc))) (rests_still old new told same ended.0 rests)

-- ---- tickets that were submitted before

-- the mark of the last change is known still
still_told : (old new : Editing) (told : Option Mark) (mark : Mark) → IsSameEditor old new → told ≡ Some mark → ∥ IsAtRest old told ∥₁ → ∥ IsLastMark old new.known mark ∥₁
still_told old new told mark same is rests = ∥∥₁_map rests (λ r. known (subst (λ (o : Option Mark). IsLastTold old o) is r.told))
  where
    known : IsLastMark old old.known mark → IsLastMark old new.known mark
    known last = (told_later old.session old.known new.known mark same.known last.0, last.1)

refused_again : (e : Editing) (known : Beginning) (ticket op : ℕ) (code : Code) (mark : Mark) → mark.ticket ≡ ticket → mark.verdict ≡ Refused op code → IsLastMark e known mark
    → IsLastMark e known (record { session = e.session; ticket = ticket; verdict = Refused op code })
refused_again e known ticket op code mark under verdict last =
    let same : mark ≡ record { session = e.session; ticket = ticket; verdict = Refused op code } = λ i. record { session = last.0.0 i; ticket = under i; verdict = verdict i } in
    subst (λ (m : Mark). IsLastMark e known m) same last

-- what is said of a ticket that isn't in, and isn't new
pub before_as_asked : (old new : Editing) (told : Option Mark) (change : List Op) (ticket : ℕ) (answer : Option EditEnd) → IsSameEditor old new → HasPut old ticket change new tried.Old → ∥ IsAtRest old told ∥₁
    → IfSome answer (λ end. IsToldBefore told ticket end) → IfSome answer (λ end. IsEditEnd old ticket change new end)
before_as_asked old new told change ticket None same put rests before = tt
before_as_asked old new told change ticket (Some (RefusedBefore op code)) same put rests before =
    (put.0, put.1, ∥∥₁_map (still_told old new told before.0 same before.1 rests) (λ last. refused_again old new.known ticket op code before.0 before.2 before.3 last))
before_as_asked old new told change ticket (Some OldTicket) same put rests before = (put.0, put.1, ∥∥₁_map (still_told old new told before.0 same before.1 rests) (λ last. (before.0, last, before.2)))
before_as_asked old new told change ticket (Some _) same put rests before = absurd before
