use Rattle.std.proofs.lemmas.List.{length-set}
use Rattle.node_table.proofs.Builds.BuildSteps.{pushed_at}
use Rattle.node_table.proofs.building.push_at.Goals as goal

pub returns : goal.returns
returns c = record {
  size = length-set c.args.lists.now.items c.args.at c.push_entry.new.list;
  items = λ x. pushed_at _ c.args.lists.now.items c.args.at c.index_mut.result.now c.push_entry.new.list c.args.entry c.requires c.index_mut.ensures.value c.in_ok-push_entry.ensures x;
}
