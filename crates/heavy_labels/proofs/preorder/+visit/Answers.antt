use Rattle.std.proofs.Common.{◌∙◌, ap, eqb, length, ◌++◌, ◌+◌, map, arith, subst, sym}
use Rattle.route_tree.specs.Rose.{tree_size}
use Rattle.heavy_labels.specs.Numbered.{HasRoom, seen, tree_briefs}
use Rattle.heavy_labels.specs.Numbering.{lights_at}
use Rattle.heavy_labels.proofs.Left.{Left, left_first, left_next, child_room, few, pushed, child_less}
use Rattle.heavy_labels.proofs.preorder.+visit.Goals as goal

pub loop-i-init : goal.loop-i-init
loop-i-init g t c =
    subst (λ z. Left (tree_size c.args.twig.now) c.args.first c.args.lights.now c.children-children.result.now 0 (c.args.first + 1) z (map seen c.args.out.now.items ++ tree_briefs c.args.twig.now c.args.first c.args.lights.now))
    (sym (pushed c.args.out.now.items c.push.new.self.items c.member_at.result _ c.in_ok-push.ensures.items c.member_at.ensures))
    (left_first c.args.twig.now c.args.first c.args.lights.now c.children-children.result.now (map seen c.args.out.now.items) c.requires.room c.children-children.ensures)

pub child_lights-ports-requires : goal.child_lights-ports-requires
child_lights-ports-requires g t c =
    let l = c.loop-i.invariant in
    let room = child_room _ _ _ _ _ _ _ _ c.index-children-i.result l (omega arith) c.index-children-i.is in
    let short = few c.index-children-i.result c.loop-i.next _ room in
    let same = ap (λ z. length (lights_at (eqb c.loop-i.i 0) c.args.lights.now z)) c.down.ensures in
    omega (arith, short, same)

pub visit-requires : goal.visit-requires
visit-requires g t c κs within =
    let l = c.loop-i.invariant in
    let room = child_room _ _ _ _ _ _ _ _ c.index-children-i.result l (omega arith) c.index-children-i.is in
    let ports = c.child_lights-ports.ensures ∙ ap (lights_at (eqb c.loop-i.i 0) c.args.lights.now) c.down.ensures in
    let less = child_less c.children-children.result.now c.loop-i.i c.index-children-i.result c.args.twig.now.below (omega arith) c.index-children-i.is c.children-children.ensures in
    (omega (arith, less, c.decreases), (within, subst (HasRoom c.index-children-i.result c.loop-i.next) (sym ports) room))

pub loop-i-preserved : goal.loop-i-preserved
loop-i-preserved g t c =
    let l = c.loop-i.invariant in
    let ports = c.child_lights-ports.ensures ∙ ap (lights_at (eqb c.loop-i.i 0) c.args.lights.now) c.down.ensures in
    let more = c.in_ok-visit.ensures ∙ ap (λ z. map seen c.loop-i.out.items ++ tree_briefs c.index-children-i.result c.loop-i.next z) ports in
    let next = left_next _ _ _ _ _ _ _ _ c.index-children-i.result l (omega arith) c.index-children-i.is _ more in
    subst (λ z. Left (tree_size c.args.twig.now) c.args.first c.args.lights.now c.children-children.result.now (c.loop-i.i + 1) (c.loop-i.next + z) (map seen c.visit.new.out.items) (map seen c.args.out.now.items ++ tree_briefs c.args.twig.now c.args.first c.args.lights.now)) (sym c.size.ensures) next
