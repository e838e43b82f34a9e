use Rattle.node_table.proofs.Builds.BuildSteps.{directory_of}
use Rattle.node_table.proofs.building.directory.Goals as goal

pub returns : goal.returns
returns c = directory_of c.args.numbered.items _ _ c.in_ok-all.ensures c.sort_by_node.ensures.same c.sort_by_node.ensures.ascend c.requires
