-- The tickets of a store are no later than those of all that was taken, so that what is taken next may be given to its desk.
use Rattle.std.proofs.Common.{◌≡◌, ◌≤◌, ℕ, List, [], ◌∷◌, ◌++◌, map, fold, sym, ap, ◌∙◌, subst, arith}
use Rattle.std.proofs.lemmas.List.{map-append}
use Rattle.requests.specs.Tickets.{worn_limit, raise, tickets_after, Rises}
use Rattle.requests.specs.Requests.{asked_by}
use Rattle.requests.specs.declared.request.Request.{Request}
use Rattle.requests.proofs.TicketLemmas.{after_append, rises_rest}
use Rattle.layout_2.specs.State.{asked, IsNext}
use Rattle.generations.specs.declared.posting.Mark.{Mark}
use Rattle.generations.specs.declared.posting.Verdict.{Verdict}
use Rattle.generations.specs.declared.posting.Verdict.TheVariants.{Accepted, Refused}
use Rattle.generations.specs.Notices.{told_to}
use Rattle.generations.specs.Boards.{accepting, accepted_by}
use Rattle.group_commit.specs.Turns.{AreBehind}
use Rattle.group_commit.proofs.TurnLemmas.{behind_itself, behind_at, behind_both, behind_ahead, tickets_push}
use Rattle.committer.specs.Turns.{HoldsNoLater}

-- more pairs on both sides
pub behind_after : (ts us : List ℕ) (ps : List (ℕ × ℕ)) → AreBehind ts us → AreBehind (tickets_after ts ps) (tickets_after us ps)
behind_after ts us [] h = h
behind_after ts us (p ∷ ps) h = behind_after (raise ts p) (raise us p) ps (behind_both ts us p.0 p.1 h)

-- the accepted tickets of marks are no later than all of theirs
pub accepted_behind : (ts us : List ℕ) (ms : List Mark) → AreBehind ts us → Rises us (map told_to ms) → AreBehind (fold accepting ts ms) (tickets_after us (map told_to ms))
accepted_behind ts us [] h rises = h
accepted_behind ts us (m ∷ ms) h rises =
    let one : (v : Verdict) → AreBehind (accepted_by v ts (told_to m)) (raise us (told_to m)) = λ v. elim v as (λ v. AreBehind (accepted_by v ts (told_to m)) (raise us (told_to m))) [
      | Accepted count ↦ behind_both ts us m.session m.ticket h
      | Refused op code ↦ behind_ahead ts us m.session m.ticket h rises.1
    ] in
    accepted_behind (accepting ts m) (raise us (told_to m)) ms (one m.verdict) rises.2

-- so it is of a store that is told by these marks, with the requests that are held
pub held_no_later : (starts tickets : List ℕ) (ms : List Mark) (held got : List Request) → Rises starts (map told_to ms) → fold accepting starts ms ≡ tickets → map told_to ms ++ asked held ≡ asked got → HoldsNoLater tickets held starts got
held_no_later starts tickets ms held got rises is all =
    let marked : AreBehind (fold accepting starts ms) (tickets_after starts (map told_to ms)) = accepted_behind starts starts ms (behind_itself starts) rises in
    let now : AreBehind (tickets_after tickets (asked held)) (tickets_after (tickets_after starts (map told_to ms)) (asked held)) =
    behind_after tickets (tickets_after starts (map told_to ms)) (asked held) (subst (λ (t : List ℕ). AreBehind t (tickets_after starts (map told_to ms))) is marked) in
    subst (AreBehind (tickets_after tickets (asked held))) (sym (after_append starts (map told_to ms) (asked held)) ∙ ap (tickets_after starts) all) now

-- one request more
asked_more : (rs : List Request) (r : Request) → asked (rs ++ r ∷ []) ≡ asked rs ++ asked_by r ∷ []
asked_more rs r = map-append asked_by rs (r ∷ [])

pub holds_more : (tickets tickets' : List ℕ) (held held' : List Request) (starts starts' : List ℕ) (got got' : List Request) (r : Request) → HoldsNoLater tickets held starts got → tickets' ≡ tickets → held' ≡ held ++ r ∷ [] → starts' ≡ starts → got' ≡ got ++ r ∷ []
    → HoldsNoLater tickets' held' starts' got'
holds_more tickets tickets' held held' starts starts' got got' r h tickets_are held_is same got_is =
    let a : tickets_after tickets' (asked held') ≡ raise (tickets_after tickets (asked held)) (asked_by r) = ap (λ l. tickets_after l (asked held')) tickets_are ∙ (ap (λ l. tickets_after tickets (asked l)) held_is ∙ tickets_push tickets held r) in
    let b : tickets_after starts' (asked got') ≡ raise (tickets_after starts (asked got)) (asked_by r) =
    ap (λ l. tickets_after l (asked got')) same ∙ (ap (λ l. tickets_after starts (asked l)) got_is ∙ tickets_push starts got r) in
    subst (λ (x : List ℕ × List ℕ). AreBehind x.0 x.1) (λ i. (sym a i, sym b i)) (behind_both (tickets_after tickets (asked held)) (tickets_after starts (asked got)) r.session r.ticket h)

-- a request that is taken next may be given
pub next_here : (tickets : List ℕ) (held : List Request) (starts starts' : List ℕ) (got got' : List Request) (r : Request) → HoldsNoLater tickets held starts got → starts' ≡ starts → got' ≡ got ++ r ∷ []
    → Rises starts' (asked got') → r.ticket ≤ worn_limit → IsNext (tickets_after tickets (asked held)) r
next_here tickets held starts starts' got got' r h same got_is rises fits =
    let all : Rises starts (asked got ++ asked_by r ∷ []) = subst (λ (x : List ℕ × List (ℕ × ℕ)). Rises x.0 x.1) (λ i. (same i, (ap asked got_is ∙ asked_more got r) i)) rises in
    let last = rises_rest starts (asked got) (asked_by r ∷ []) all in
    let no_more = behind_at (tickets_after tickets (asked held)) (tickets_after starts (asked got)) r.session h in
    (last.0, (let above = last.1 in omega (arith, no_more, above)), fits)
