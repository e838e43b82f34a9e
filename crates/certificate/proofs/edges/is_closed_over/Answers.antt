use Rattle.certificate.proofs.Words.{◌≤◌, ◌+◌, ◌≡◌, subst, MatchOption, Some, None, tables, IsClosedOver, found_first}
use Rattle.certificate.proofs.edges.is_closed_over.Goals as goal

pub returns-in-Some : goal.returns-in-Some
unfolding IsClosedOver
returns-in-Some c =
    let o = (tables c.args.scheme.now).entry c.args.edge.0 c.args.entry.now.root in
    found_first o c.in-Some.there.now (λ g. g.distance ≤ c.args.entry.now.distance + c.args.edge.1) _ c.is_at_most.result
    (subst (λ b. MatchOption b (o ≡ None) (λ f. o ≡ Some f.now)) c.in-Some.is c.requires) (rw (c.distance.ensures, c.distance-in-Some.ensures) at c.is_at_most.ensures)
