use Rattle.std.proofs.Common.{◌≡◌, sym, subst, rules, Some}
use Rattle.std.proofs.lemmas.Bool.{iff_false}
use Rattle.distances.specs.Workspace.{reached_of}
use Rattle.single_route.proofs.ListedTrees.{IsClimbing, climbing_past, climbing_up, reached_push}
use Rattle.single_route.proofs.paths.line_up.Goals as goal

pub loop-member-preserved-then-not-is_node : goal.loop-member-preserved-then-not-is_node
loop-member-preserved-then-not-is_node c =
    let tree = reached_of c.args.members.now in
    let split = reached_push c.loop-member.left.now c.in-Some.before.now c.in-Some.member.now c.in-Some.ensures.cases.0 in
    climbing_past tree (reached_of c.loop-member.left.now) (reached_of c.in-Some.before.now) c.args.node c.loop-member.line.items c.loop-member.above c.in-Some.member.now.reached split
    (iff_false c.is_node.ensures (search rules)) c.loop-member.invariant

pub loop-member-preserved : goal.loop-member-preserved
loop-member-preserved c =
    let tree = reached_of c.args.members.now in
    let split = reached_push c.loop-member.left.now c.in-Some.before.now c.in-Some.member.now c.in-Some.ensures.cases.0 in
    let is : c.loop-member.above ≡ Some c.in-Some.member.now.reached.node = c.is_node.ensures.0 (search rules) in
    let here = subst (IsClimbing tree (reached_of c.loop-member.left.now) c.args.node c.loop-member.line.items) is c.loop-member.invariant in
    let more = climbing_up tree (reached_of c.loop-member.left.now) (reached_of c.in-Some.before.now) c.args.node c.loop-member.line.items c.in-Some.member.now.reached split here in
    subst (λ z. IsClimbing tree (reached_of c.in-Some.before.now) c.args.node z c.in-Some.member.now.reached.parent) (sym c.in_ok-push.ensures.items) more
