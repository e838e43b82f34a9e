use Rattle.std.proofs.Common.{◌≡◌, ◌∙◌, ap, length, sym, ℕ, List, Some}
use Rattle.std.proofs.lemmas.Option.{none-some, same_Some}
use Rattle.table_view.proofs.Places.{count_read, has_parts, head_read, its_parts}
use Rattle.table_view.proofs.answers.figures_in.Goals as goal

pub returns-in_err-head : goal.returns-in_err-head
returns-in_err-head c a spelled = absurd (has_parts c.args.table.now a spelled c.in_err-head.ensures.parts)

pub returns-in_err-router : goal.returns-in_err-router
returns-in_err-router c a spelled = absurd (none-some _ (head_read c.args.table.now _ a c.in_ok-head.ensures.parts spelled _ c.in_err-router.ensures))

pub returns-in_err-members : goal.returns-in_err-members
returns-in_err-members c a spelled = absurd (none-some _ (sym c.in_err-members.ensures ∙ count_read c.args.table.now _ a c.in_ok-head.ensures.parts spelled))

pub returns : goal.returns
returns c a spelled =
    let parts = its_parts c.args.table.now a _ spelled c.in_ok-head.ensures.parts in
    let head = same_Some c.in_ok-router.router a.head (head_read c.args.table.now _ a c.in_ok-head.ensures.parts spelled _ c.in_ok-router.ensures) in
    let many : c.in_ok-members.members ≡ length a.directory = ap (λ (x : ℕ × List ℕ). x.0) (same_Some {A = ℕ × List ℕ} _ _ (sym c.in_ok-members.ensures ∙ count_read c.args.table.now _ a c.in_ok-head.ensures.parts spelled)) in
    λ i. Some (record {
      generation = (head i).generation;
      nodes = (head i).nodes;
      node = (head i).node;
      ports = (parts i).1;
      entries = (parts i).3;
      members = many i;
    })
