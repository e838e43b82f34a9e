use Rattle.std.proofs.Common.{◌++◌, ◌∷◌, [], ap, ◌∙◌, sym, subst, arith}
use Rattle.route_tree.proofs.Waiting.{no_member}
use Rattle.heavy_labels.specs.Sizes.{AreParentsTo}
use Rattle.heavy_labels.proofs.SizeSteps.{parents_first, parents_more}
use Rattle.heavy_labels.proofs.sizes.parents.Goals as goal

pub loop-i-init : goal.loop-i-init
loop-i-init g c = subst (AreParentsTo c.args.members.now 1) (sym (c.in_ok-push.ensures.items ∙ ap (λ z. z ++ 0 ∷ []) (c.in_ok-reserve_exact.ensures.items ∙ c.new-above.ensures.items))) (parents_first c.args.members.now 0)

pub overflow_cast-parent_place : goal.overflow_cast-parent_place
overflow_cast-parent_place g c = (let b = (c.parent_place.ensures no_member).before in omega (arith, b, c.requires.members.few))

pub loop-i-preserved : goal.loop-i-preserved
loop-i-preserved g c =
    subst (AreParentsTo c.args.members.now _) (sym c.in_ok-push-2.ensures.items) (parents_more c.args.members.now c.loop-i.i c.parent_place.result c.loop-i.above.items c.loop-i.invariant c.parent_place.ensures)

pub returns : goal.returns
returns g c =
    subst (λ n. AreParentsTo c.args.members.now n c.loop-i.above.items) (let s = c.requires.members.some in omega (arith, s)) c.loop-i.invariant
