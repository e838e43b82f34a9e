use Rattle.std.proofs.Common.{◌≡◌, ap, sym, ◌∙◌, subst, true, false}
use Rattle.distances.specs.Workspace.{reached_of}
use Rattle.distances.specs.Nearest.{IsNearestOf}
use Rattle.single_route.specs.FoundTrees.{has_node}
use Rattle.single_route.proofs.RuleLemmas.{landmark_found, landmark_missed}
use Rattle.single_route.proofs.ListedTrees.{any_has, any_lacks}
use Rattle.single_route.proofs.trees.find_tree.Goals as goal

pub returns-clause-tree : goal.returns-clause-tree
returns-clause-tree c = λ yes.
    let m = c.args.graph.now in
    let flags = c.args.landmarks.now in
    let members = c.from_root.new.self.members in
    let near = subst (IsNearestOf m.edges flags c.args.to) (sym c.in-Some.ensures) (c.requires.known.nearest c.args.to) in
    let found : has_node members c.args.from ≡ true = ap (λ z. has_node z c.args.from) (sym c.members.ensures) ∙ sym c.is_member.ensures ∙ yes in
    landmark_found m.edges flags c.args.from c.args.to c.in-Some.near (reached_of members) (c.in_ok-find_own_tree.ensures.other c.if-branch.false) near c.in_ok-_pops.ensures.tree (any_has c.args.from members found)

pub returns-clause-apart : goal.returns-clause-apart
returns-clause-apart c = λ no.
    let m = c.args.graph.now in
    let flags = c.args.landmarks.now in
    let members = c.from_root.new.self.members in
    let near = subst (IsNearestOf m.edges flags c.args.to) (sym c.in-Some.ensures) (c.requires.known.nearest c.args.to) in
    let none : has_node members c.args.from ≡ false = ap (λ z. has_node z c.args.from) (sym c.members.ensures) ∙ sym c.is_member.ensures ∙ no in
    landmark_missed m.edges flags c.args.from c.args.to c.in-Some.near (reached_of members) near c.in_ok-_pops.ensures.tree (any_lacks c.args.from members none)
