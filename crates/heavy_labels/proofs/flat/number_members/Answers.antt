use Rattle.std.proofs.Common.{length, map, subst, arith}
use Rattle.heavy_labels.specs.FlatNumbers.{AreFlat}
use Rattle.heavy_labels.specs.HeavyKids.{AreAheadTo, AreHeavy}
use Rattle.heavy_labels.specs.Numbered.{seen}
use Rattle.heavy_labels.proofs.FlatSteps.{flat_nodes, flat_listed, flat_over}
use Rattle.heavy_labels.proofs.NumbersOf.{flat_numbers}
use Rattle.heavy_labels.proofs.flat.number_members.Goals as goal

pub returns-clause-nodes : goal.returns-clause-nodes
returns-clause-nodes g c =
    flat_nodes c.args.members.now c.as_slice.result.now c.as_slice-3.result.now c.in_ok-ahead.ahead.items c.loop-at.out.items
    (subst (λ n. AreFlat c.args.members.now c.as_slice.result.now c.as_slice-3.result.now c.in_ok-ahead.ahead.items n (map seen c.loop-at.out.items)) (omega arith) c.loop-at.invariant)

pub returns-clause-numbers : goal.returns-clause-numbers
returns-clause-numbers g c d =
    let flat = subst (λ n. AreFlat c.args.members.now c.as_slice.result.now c.as_slice-3.result.now c.in_ok-ahead.ahead.items n (map seen c.loop-at.out.items)) (omega arith) c.loop-at.invariant in
    flat_numbers c.args.members.now d c.loop-at.out.items c.requires.members
    (flat_nodes c.args.members.now c.as_slice.result.now c.as_slice-3.result.now c.in_ok-ahead.ahead.items c.loop-at.out.items flat)
    (flat_listed c.args.members.now c.in_ok-above.above.items c.in_ok-heavy.heavy.items c.in_ok-ahead.ahead.items c.in_ok-by_node.by_node.items (map seen c.loop-at.out.items) c.requires.members
    c.in_ok-above.ensures c.in_ok-by_node.ensures
    (subst (λ z. AreHeavy c.args.members.now z c.in_ok-heavy.heavy.items) c.deref-4.ensures.value c.in_ok-heavy.ensures)
    (subst (λ z. AreAheadTo c.args.members.now z (length z) c.in_ok-ahead.ahead.items) c.as_slice-4.ensures.value c.in_ok-ahead.ensures)
    (flat_over _ _ _ _ _ _ _ _ c.as_slice.ensures.value c.as_slice-3.ensures.value flat) d)
