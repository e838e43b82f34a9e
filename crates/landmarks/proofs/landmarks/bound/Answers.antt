use Rattle.std.proofs.Common.{refl}
use Rattle.landmarks.proofs.Roots.{square_above}
use Rattle.landmarks.proofs.landmarks.bound.Goals as goal

pub returns : goal.returns
returns c = (c.loop-root.root, (record { above = square_above c.args.nodes c.loop-root.root c.loop-root.invariant.some c.loop-root-test.false; least = c.loop-root.invariant.least }, refl))
