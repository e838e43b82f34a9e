-- What a settling tells and stores.
use Rattle.std.proofs.Common.{◌≡◌, ℕ, List, [], ◌∷◌, length, map, fold, Option, Some, refl, ap, sym, ◌∙◌, subst}
use Rattle.layout_2.specs.State.{State, asked}
use Rattle.graph_edits.specs.Changes.{fold as fold_changes}
use Rattle.requests.specs.Requests.{asked_by}
use Rattle.requests.specs.Tickets.{raise, tickets_after}
use Rattle.requests.specs.declared.request.Request.{Request}
use Rattle.layout_2.specs.State.{changes_of}
use Rattle.generations.specs.declared.posting.Mark.{Mark}
use Rattle.generations.specs.declared.posting.Verdict.{Verdict}
use Rattle.generations.specs.declared.posting.Verdict.TheVariants.{Accepted, Refused}
use Rattle.generations.specs.declared.posting.Posting.{Posting}
use Rattle.generations.specs.declared.posting.Posting.TheVariants.{Marks, Down, Generation}
use Rattle.generations.specs.declared.posting.Notice.TheVariants.{Marked, Failed}
use Rattle.generations.specs.Notices.{notice_of, told_to}
use Rattle.generations.specs.Boards.{accepting, accepted_by}
use Rattle.group_commit.specs.Settling.{settle}
use Rattle.group_commit.specs.Laws.{if_accepted, marked_accepted}
use Rattle.group_commit.specs.Postings.{MarksAreDue}
use Rattle.group_commit.proofs.SettlingLemmas.{one_mark_each, counts_go_on, settled_count, settled_tickets, graphs_lead, accepted_as_marked}
use Rattle.committer.proofs.Settled.{IsSettled}

-- where nothing is accepted the graph stays
none_accepted : (s : State) (rs : List Request) → length (settle s rs).accepted ≡ 0 → (settle s rs).state.graph ≡ s.graph
none_accepted s rs none = by (settle s rs).accepted none (graphs_lead s rs)
  where
    by : (cs : List Request) → length cs ≡ 0 → fold_changes s.graph (changes_of cs) ≡ Some (settle s rs).state.graph → (settle s rs).state.graph ≡ s.graph
    by [] n e = cc
    by (c ∷ rest) n e = absurd cc

-- the tickets of the requests that are marked as accepted are those that the marks tell
tickets_told : (tickets : List ℕ) (rs : List Request) (ms : List Mark) → map told_to ms ≡ map asked_by rs → fold accepting tickets ms ≡ tickets_after tickets (asked (marked_accepted rs ms))
tickets_told tickets [] [] e = refl
tickets_told tickets [] (m ∷ ms) e = absurd cc
tickets_told tickets (r ∷ rs) [] e = absurd cc
tickets_told tickets (r ∷ rs) (m ∷ ms) e =
    let one : told_to m ≡ asked_by r = cc in
    let rest : map told_to ms ≡ map asked_by rs = cc in
    let by : (v : Verdict) → fold accepting (accepted_by v tickets (told_to m)) ms ≡ tickets_after tickets (asked (if_accepted v r (marked_accepted rs ms))) = λ v. elim v as (λ v. fold accepting (accepted_by v tickets (told_to m)) ms ≡ tickets_after tickets (asked (if_accepted v r (marked_accepted rs ms)))) [
      | Accepted count ↦ ap (λ (p : ℕ × ℕ). fold accepting (raise tickets p) ms) one ∙ tickets_told (raise tickets (asked_by r)) rs ms rest
      | Refused op code ↦ tickets_told tickets rs ms rest
    ] in
    by m.verdict

-- a settling tells of the requests, and its state is what follows
pub settles : (s : State) (rs : List Request) → IsSettled s rs (settle s rs).marks (length (settle s rs).accepted) (settle s rs).state
settles s rs = record {
  each = one_mark_each s rs;
  counts = counts_go_on s rs;
  count = settled_count s rs;
  graph = none_accepted s rs;
  tickets = tickets_told s.tickets rs (settle s rs).marks (one_mark_each s rs) ∙ (ap (λ l. tickets_after s.tickets (asked l)) (sym (accepted_as_marked s rs)) ∙ sym (settled_tickets s rs));
}

-- the posting of these marks says them
pub marks_said : (d : Option Posting) (p : Posting) (ms : List Mark) → Some p ≡ d → MarksAreDue d ms → notice_of p ≡ Marked ms
marks_said d p ms e is = by p (subst (λ (x : Option Posting). MarksAreDue x ms) (sym e) is)
  where
    by : (p : Posting) → MarksAreDue (Some p) ms → notice_of p ≡ Marked ms
    by (Marks told) is = ap Marked is
    by Down is = absurd is
    by (Generation number scheme) is = absurd is

-- the posting that the device failed says so
pub down_said : (d : Option Posting) (p : Posting) → Some p ≡ d → d ≡ Some Down → notice_of p ≡ Failed
down_said d p e is = let same : p ≡ Down = (let both : Some p ≡ Some Down = e ∙ is in cc) in ap notice_of same
