use Rattle.std.proofs.Common.{subst, arith}
use Rattle.std.proofs.lemmas.List.{take_all, places}
use Rattle.heavy_labels.specs.HeavyKids.{AreHeavy}
use Rattle.heavy_labels.proofs.HeavySteps.{none_met}
use Rattle.heavy_labels.proofs.heavy_kids.heavy_children.Goals as goal

pub loop-j-init : goal.loop-j-init
loop-j-init g c = none_met _ _ (grind (arith, places)) (λ k l. grind (arith, places))

pub returns : goal.returns
returns g c = subst (λ met. AreHeavy c.args.members.now met c.loop-j.heavy.items) (take_all c.loop-j.j c.args.by_node.now (omega arith)) c.loop-j.invariant
