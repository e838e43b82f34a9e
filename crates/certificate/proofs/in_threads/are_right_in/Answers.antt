use Rattle.certificate.proofs.Words.{◌≡◌, ◌+◌, ◌*◌, min, subst, IsTreeRight}
use Rattle.certificate.proofs.Ranges.{in_range}
use Rattle.certificate.proofs.in_threads.are_right_in.Goals as goal

pub returns : goal.returns
returns c right =
    let size = c.args.size in
    let i = c.args.i in
    let nodes = c.nodes.ensures.nodes in
    in_range (IsTreeRight c.args.graph.now c.args.scheme.now) c.args.graph.now.nodes size i c.bounds-first.result.0 c.bounds-first.result.1
    (subst (λ n. c.bounds-first.result.0 ≡ min (i * size) n) nodes c.bounds-first.ensures.first)
    (subst (λ n. c.bounds-first.result.1 ≡ min (i * size + size) n) nodes c.bounds-first.ensures.last) (c.are_trees_right.ensures right)
