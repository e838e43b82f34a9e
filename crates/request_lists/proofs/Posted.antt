-- What was posted, without what is due.
use Rattle.std.proofs.Common.{◌≡◌, ◌≤◌, ◌+◌, ℕ, zero, suc, Bool, List, [], ◌∷◌, ◌++◌, length, take, Result, Ok, Err, refl, sym, ap, ◌∙◌, arith, append_assoc, length-append}
use Rattle.std.proofs.lemmas.List.{take_at, take-take, length-take-le, length-map}
use Rattle.graph_edits.specs.declared.edits.Code.{Code}
use Rattle.graph_edits.specs.Edges.{Network}
use Rattle.graph_edits.specs.Changes.{after as graph_after}
use Rattle.requests.specs.Requests.{asked_by}
use Rattle.requests.specs.declared.request.Request.{Request}
use Rattle.layout_2.specs.State.{State}
use Rattle.generations.specs.declared.posting.Mark.{Mark}
use Rattle.generations.specs.declared.posting.Verdict.TheVariants.{Accepted, Refused}
use Rattle.generations.specs.declared.posting.Notice.{Notice}
use Rattle.generations.specs.declared.posting.Notice.TheVariants.{Built}
use Rattle.generations.specs.Notices.{told_to, marks_in}
use Rattle.generations.proofs.Lawfulness.{lawful_first, marks_append}
use Rattle.group_commit.specs.Settling.{settle, one_more}
use Rattle.group_commit.proofs.SettlingLemmas.{settle_by, settle_step, one_mark_each}
use Rattle.request_lists.specs.declared.builds.Builds.{Builds}
use Rattle.request_lists.specs.Lists.{AreListed}
use Rattle.request_lists.specs.Posted.{ArePosted}

-- the first marks are those of the first requests
pub marks_take : (s : State) (n : ℕ) (rs : List Request) → take n (settle s rs).marks ≡ (settle s (take n rs)).marks
marks_take s zero rs = refl
marks_take s (suc n) [] = refl
marks_take s (suc n) (r ∷ rs) =
    let by : (o : Result Network (ℕ × Code)) → take (suc n) (settle_by s r rs o).marks ≡ (settle_by s r (take n rs) o).marks = λ o. elim o as (λ o. take (suc n) (settle_by s r rs o).marks ≡ (settle_by s r (take n rs) o).marks) [
      | Ok graph ↦ ap (λ (ms : List Mark). record { session = r.session; ticket = r.ticket; verdict = Accepted (s.count + 1) } ∷ ms) (marks_take (one_more s r graph) n rs)
      | Err at ↦ ap (λ (ms : List Mark). record { session = r.session; ticket = r.ticket; verdict = Refused at.0 at.1 } ∷ ms) (marks_take s n rs)
    ] in
    rw (settle_step s r rs, settle_step s r (take n rs)) (by (graph_after s.graph r.change))

-- each request has one mark
marks_many : (s : State) (rs : List Request) → length (settle s rs).marks ≡ length rs
marks_many s rs = sym (length-map (settle s rs).marks told_to) ∙ (ap (λ (l : List (ℕ × ℕ)). length l) (one_mark_each s rs) ∙ length-map rs asked_by)

-- what was posted, and not what is due, has the marks of the first requests
pub posted_first : {builds : Builds} → (first : State) (posted due : List Notice) (asked : List Request) (done taken : ℕ) (state : State) (down : Bool) → AreListed builds first (posted ++ due) asked done taken state down → ArePosted builds first asked posted
posted_first first posted due asked done taken state down is =
    let many : ℕ = length (marks_in posted) in
    let fits : done ≤ length asked = let a = is.started in let b = is.within in omega (arith, a, b) in
    let all : marks_in posted ++ marks_in due ≡ (settle first (take done asked)).marks = sym (marks_append posted due) ∙ is.marks in
    let whole : length (marks_in posted ++ marks_in due) ≡ done = ap (λ (l : List Mark). length l) all ∙ (marks_many first (take done asked) ∙ length-take-le done asked fits) in
    let few : length (marks_in posted) ≤ done = let l = length-append (marks_in posted) (marks_in due) in omega (arith, l, whole) in
    record {
      many = many;
      within = omega (arith, few, fits);
      marks = sym (take_at (marks_in posted) (marks_in due) many refl) ∙ (ap (take many) all ∙ (marks_take first many (take done asked) ∙ ap (λ (rs : List Request). (settle first rs).marks) (take-take many done asked few)));
      lawful = lawful_first first.tickets first.count posted (posted ++ due) (due, refl) is.lawful;
      durable = λ before after number scheme e. is.durable before (after ++ due) number scheme (ap (λ (l : List Notice). l ++ due) e ∙ append_assoc before (Built number scheme ∷ after) due);
    }
