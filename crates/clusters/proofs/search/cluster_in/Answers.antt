use Rattle.distances.specs.Nearest.{near_limit}
use Rattle.distances.specs.Workspace.{reached_of}
use Rattle.clusters.proofs.ClusterLemmas.{are_gentle, center_within, cluster_from, cut_tree, has_parents}
use Rattle.clusters.proofs.search.cluster_in.Goals as goal

pub tree_within-requires-clause-root_within : goal.tree_within-requires-clause-root_within
tree_within-requires-clause-root_within c = center_within c.args.graph.now c.nodes-sound.ensures.sound c.args.nearest.now.nearest c.distances.result.now c.distances.ensures c.args.center c.requires.nearest c.requires.no_landmark

pub tree_within-requires-clause-gentle : goal.tree_within-requires-clause-gentle
tree_within-requires-clause-gentle c = are_gentle c.args.graph.now c.nodes-sound.ensures.sound c.args.nearest.now.nearest c.distances.result.now c.distances.ensures c.requires.nearest

pub returns-clause-tree : goal.returns-clause-tree
returns-clause-tree c = cut_tree c.args.graph.now c.nodes-sound.ensures.sound c.args.nearest.now.nearest c.distances.result.now c.distances.ensures c.args.center (reached_of c.tree_within.new.self.members) c.in_ok-pops.ensures.tree

pub returns-clause-members : goal.returns-clause-members
returns-clause-members c = λ flags near. cluster_from c.args.graph.now.edges flags c.args.center c.args.nearest.now.nearest (reached_of c.tree_within.new.self.members) near (returns-clause-tree c)

pub returns-clause-closed : goal.returns-clause-closed
returns-clause-closed c = has_parents c.args.graph.now c.nodes-sound.ensures.sound c.args.center (near_limit c.args.nearest.now.nearest) (reached_of c.tree_within.new.self.members) (returns-clause-tree c)
