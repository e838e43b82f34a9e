use Rattle.std.proofs.Common.{◌∙◌}
use Rattle.node_table.proofs.Builds.BuildSteps.{added_more}
use Rattle.node_table.proofs.building.add_entries.Goals as goal

pub loop-member-preserved : goal.loop-member-preserved
loop-member-preserved c =
    record {
      size = c.in_ok-push_at.ensures.size ∙ c.loop-member.invariant.size;
      items = added_more _ c.args.entries.now.items c.loop-member.entries.items c.push_at.new.lists.items c.args.root c.args.reached.now c.args.places.now c.args.numbered.now c.loop-member.member-index c.member-item.result
          c.entry_of-entry.result c.loop-member-test.true c.member-item.is c.entry_of-entry.ensures c.loop-member.invariant.items c.in_ok-push_at.ensures.items;
    }
