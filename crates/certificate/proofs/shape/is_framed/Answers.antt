use Rattle.certificate.proofs.Words.{arith, subst, sym, iff_false, HasPlaces, IsFramed, refused, accepted}
use Rattle.certificate.proofs.LookUps.{framed_ascend}
use Rattle.certificate.proofs.shape.is_framed.Goals as goal

pub returns-then-not-has_places-clause-framed : goal.returns-then-not-has_places-clause-framed
unfolding IsFramed
returns-then-not-has_places-clause-framed c = refused (λ h. iff_false c.has_places.ensures c.if-not-has_places.true (subst (λ n. HasPlaces n c.args.scheme.now) (sym c.nodes.ensures.nodes) h.0))

pub returns-then-not-is_node_framed-clause-framed : goal.returns-then-not-is_node_framed-clause-framed
unfolding IsFramed
returns-then-not-is_node_framed-clause-framed c = refused (λ h. iff_false c.is_node_framed.ensures c.if-not-is_node_framed.true (h.1 c.loop-x.x (omega (arith, c.loop-x-test.true, c.nodes-x-end.ensures.nodes))))

pub returns-clause-framed : goal.returns-clause-framed
unfolding IsFramed
returns-clause-framed c = accepted (
  subst (λ n. HasPlaces n c.args.scheme.now) c.nodes.ensures.nodes (c.has_places.ensures.0 c.if-not-has_places.false),
  λ x l. c.loop-x.invariant x (omega (arith, l, c.loop-x-test.false, c.nodes-x-end.ensures.nodes)),
)

pub returns-clause-ascend : goal.returns-clause-ascend
returns-clause-ascend c t = framed_ascend c.args.graph.now c.args.scheme.now ((returns-clause-framed c).0 t)
