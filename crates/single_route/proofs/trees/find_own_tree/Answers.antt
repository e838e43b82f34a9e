use Rattle.std.proofs.Common.{◌≡◌, ap, sym, ◌∙◌, true, false}
use Rattle.std.proofs.lemmas.Bool.{iff_false}
use Rattle.distances.specs.Workspace.{reached_of}
use Rattle.distances.specs.Nearest.{near_limit}
use Rattle.landmarks.specs.Chosen.{IsLandmark}
use Rattle.single_route.specs.FoundTrees.{has_node}
use Rattle.single_route.proofs.RuleLemmas.{centre, own_found, own_missed}
use Rattle.single_route.proofs.ListedTrees.{any_has, any_lacks}
use Rattle.single_route.proofs.trees.find_own_tree.Goals as goal

pub cluster_in-requires-clause-nearest : goal.cluster_in-requires-clause-nearest
cluster_in-requires-clause-nearest c = (c.args.landmarks.now, c.requires.known.nearest)

pub returns-clause-tree : goal.returns-clause-tree
returns-clause-tree c = λ own.
    let m = c.args.graph.now in
    let flags = c.args.landmarks.now in
    let members = c.cluster_in.new.workspace.members in
    let plain : IsLandmark flags c.args.from → ⊥ = iff_false c.holds.ensures c.if-holds.false in
    let tree = c.in_ok-_pops.ensures.tree in
    let found : has_node members c.args.to ≡ true = ap (λ z. has_node z c.args.to) (sym c.members.ensures) ∙ sym c.is_member.ensures ∙ own in
    own_found m.edges flags c.args.from c.args.to (near_limit c.args.nearest.now.nearest) (reached_of members) plain (c.in_ok-_pops.ensures.members flags c.requires.known.nearest) tree
    (centre m flags c.args.nearest.now.nearest c.args.from (reached_of members) c.nodes-sound.ensures.sound c.requires.known.nearest plain tree) (any_has c.args.to members found)

pub returns-clause-other : goal.returns-clause-other
returns-clause-other c = λ missed own.
    let m = c.args.graph.now in
    let flags = c.args.landmarks.now in
    let members = c.cluster_in.new.workspace.members in
    let none : has_node members c.args.to ≡ false = ap (λ z. has_node z c.args.to) (sym c.members.ensures) ∙ sym c.is_member.ensures ∙ missed in
    own_missed m.edges flags c.args.from c.args.to (reached_of members) (c.in_ok-_pops.ensures.members flags c.requires.known.nearest) (any_lacks c.args.to members none) own
