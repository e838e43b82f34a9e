-- What is known of the members of a tree before they are numbered.
use Rattle.std.specs.Prelude.{◌≡◌, ℕ, List, length}
use Rattle.route_tree.specs.Members.{AreMembers}
use Rattle.route_tree.specs.declared.member.Member.{Member}
use Rattle.heavy_labels.specs.ByNode.{AreByNode}
use Rattle.heavy_labels.specs.Sizes.{AreParents, AreSizes}

-- the members of a tree, each with its parent's place and its size, and their places by node
pub record AreMeasured (ms : List Member) (parents counts is : List ℕ) : Type 0 where
  -- they are the members of a tree
  pub members : AreMembers ms
  -- the parents are places of members
  pub above : AreParents ms parents
  -- there is a count for each member
  pub length_is : length counts ≡ length ms
  -- it is that of the member and all below it
  pub sizes : AreSizes ms 1 counts
  -- the places are in the order of the members' nodes
  pub by_node : AreByNode ms is
