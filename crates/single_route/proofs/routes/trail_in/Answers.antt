use Rattle.std.proofs.Common.{◌≡◌, ℕ, Bool, sym, subst, true, List, rules}
use Rattle.graph_edits.specs.Edges.{EdgeMap}
use Rattle.distances.specs.Workspace.{reached_of}
use Rattle.distances.specs.declared.linked.Linked.{Linked}
use Rattle.single_route.specs.FoundTrees.{IsFoundFor, IsTreeFor}
use Rattle.single_route.proofs.RuleLemmas.{parents_before, one_root_listed}
use Rattle.single_route.proofs.FoundTrails.{found_way, found_trail}
use Rattle.single_route.proofs.routes.trail_in.Goals as goal

-- the tree that was found, as the path is sought in it
tree_here : (m : EdgeMap) (flags : List Bool) (u v : ℕ) (members here : List Linked) (found : Bool) → IsFoundFor m flags u v members found → found ≡ true → here ≡ members
    → IsTreeFor m flags u v (reached_of here)
tree_here m flags u v members here found tree is e = subst (λ z. IsTreeFor m flags u v (reached_of z)) (sym e) (tree is)

pub path_between-requires-clause-before : goal.path_between-requires-clause-before
path_between-requires-clause-before c =
    let m = c.args.graph.now in
    let t = tree_here m.edges c.args.landmarks.now c.args.from c.args.to _ c.members.result.now c.in_ok-find_tree.field-0 c.in_ok-find_tree.ensures.tree (search rules) c.members.ensures in
    parents_before m c.nodes-sound.ensures.sound c.args.landmarks.now t.root (reached_of c.members.result.now) t.tree_is

pub path_between-requires-clause-one_root : goal.path_between-requires-clause-one_root
path_between-requires-clause-one_root c =
    let m = c.args.graph.now in
    let t = tree_here m.edges c.args.landmarks.now c.args.from c.args.to _ c.members.result.now c.in_ok-find_tree.field-0 c.in_ok-find_tree.ensures.tree (search rules) c.members.ensures in
    one_root_listed m c.nodes-sound.ensures.sound c.args.landmarks.now t.root (reached_of c.members.result.now) t.tree_is

pub path_between-requires-clause-from : goal.path_between-requires-clause-from
path_between-requires-clause-from c = (tree_here c.args.graph.now.edges c.args.landmarks.now c.args.from c.args.to _ c.members.result.now c.in_ok-find_tree.field-0 c.in_ok-find_tree.ensures.tree (search rules) c.members.ensures).from

pub path_between-requires-clause-to : goal.path_between-requires-clause-to
path_between-requires-clause-to c = (tree_here c.args.graph.now.edges c.args.landmarks.now c.args.from c.args.to _ c.members.result.now c.in_ok-find_tree.field-0 c.in_ok-find_tree.ensures.tree (search rules) c.members.ensures).to

pub trail_over-requires : goal.trail_over-requires
trail_over-requires c =
    let m = c.args.graph.now in
    let t = tree_here m.edges c.args.landmarks.now c.args.from c.args.to _ c.members.result.now c.in_ok-find_tree.field-0 c.in_ok-find_tree.ensures.tree (search rules) c.members.ensures in
    found_way m c.nodes-sound.ensures.sound c.args.landmarks.now c.args.from c.args.to c.requires.from c.requires.to (reached_of c.members.result.now) t c.in_ok-path.path.items c.in_ok-path.ensures

pub returns-clause-trail : goal.returns-clause-trail
returns-clause-trail c =
    let m = c.args.graph.now in
    let t = tree_here m.edges c.args.landmarks.now c.args.from c.args.to _ c.members.result.now c.in_ok-find_tree.field-0 c.in_ok-find_tree.ensures.tree (search rules) c.members.ensures in
    found_trail m c.nodes-sound.ensures.sound c.args.landmarks.now c.args.from c.args.to c.requires.from c.requires.to (reached_of c.members.result.now) t c.in_ok-path.path.items c.in_ok-path.ensures
    c.in_ok-trail.trail c.in_ok-trail.ensures.nodes c.in_ok-trail.ensures.measured
