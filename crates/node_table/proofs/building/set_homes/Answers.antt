use Rattle.std.proofs.Common.{refl}
use Rattle.node_table.proofs.Builds.BuildSteps.{homes_more}
use Rattle.node_table.proofs.building.set_homes.Goals as goal

pub loop-member-preserved : goal.loop-member-preserved
loop-member-preserved c =
    homes_more c.args.nearest.now c.args.root c.args.numbered.now c.loop-member.member-index c.member-item.result c.args.homes.now c.loop-member.homes c.set_home.new.homes _ c.loop-member-test.true c.member-item.is refl
    c.loop-member.invariant c.set_home.ensures
