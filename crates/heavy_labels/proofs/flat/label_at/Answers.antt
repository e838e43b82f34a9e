use Rattle.std.proofs.Common.{◌∙◌, length, get_or, arith, ap}
use Rattle.std.specs.Prelude.{slice_index, ◌==◌}
use Rattle.std.proofs.lemmas.List.{length-map}
use Rattle.heavy_labels.specs.ByNode.{nobody, tree_of}
use Rattle.heavy_labels.specs.FlatNumbers.{label_below}
use Rattle.heavy_labels.specs.Label.{Label}
use Rattle.heavy_labels.specs.Numbered.{seen}
use Rattle.heavy_labels.specs.Numbering.{lights_at}
use Rattle.heavy_labels.proofs.FlatSteps.{root_label, before, label_fits, label_few, next_label, few_lights, read_label}
use Rattle.heavy_labels.proofs.flat.label_at.Goals as goal

pub returns-then-at-eq0 : goal.returns-then-at-eq0
returns-then-at-eq0 c = root_label _ _ _ _ c.args.at _ _ c.requires.measured.members (omega arith) c.of.ensures

pub bounds-tree-parent : goal.bounds-tree-parent
bounds-tree-parent c = (let i = before _ _ _ _ _ c.args.at _ c.requires.measured.members c.requires.measured.above c.requires.measured.by_node c.requires.heavy c.requires.ahead c.requires.flat (omega arith) c.requires.there in omega (arith, i, c.requires.there, c.requires.heavy.length_is))

pub bounds-out-parent : goal.bounds-out-parent
bounds-out-parent c = (let i = before _ _ _ _ _ c.args.at _ c.requires.measured.members c.requires.measured.above c.requires.measured.by_node c.requires.heavy c.requires.ahead c.requires.flat (omega arith) c.requires.there in let n = length-map c.args.out.now seen in omega (arith, i, n, c.requires.flat.length_is))

pub child_label-requires-clause-number : goal.child_label-requires-clause-number
child_label-requires-clause-number c =
    let fit = label_fits _ _ _ _ _ c.args.at _ c.requires.measured.members c.requires.measured.above c.requires.measured.by_node c.requires.heavy c.requires.ahead c.requires.flat (omega arith) c.requires.there in
    let same = ap (λ (z : Label). z.first) (read_label c.args.out.now (slice_index c.args.tree.now.above.now c.args.at) c.index-out-parent.result
    (let i = before _ _ _ _ _ c.args.at _ c.requires.measured.members c.requires.measured.above c.requires.measured.by_node c.requires.heavy c.requires.ahead c.requires.flat (omega arith) c.requires.there in let n = length-map c.args.out.now seen in omega (arith, i, n, c.requires.flat.length_is))) in
    omega (arith, fit, same, c.requires.measured.members.few)

pub child_label-requires-clause-lights : goal.child_label-requires-clause-lights
child_label-requires-clause-lights c =
    let few = few_lights c.args.tree.now.members.now (tree_of c.args.tree.now.members.now c.args.at) _ c.requires.measured.members (label_few _ _ _ _ _ c.args.at _ c.requires.measured.members c.requires.measured.above c.requires.measured.by_node c.requires.heavy c.requires.ahead c.requires.flat (omega arith) c.requires.there) in
    let same = ap (λ (z : Label). length (lights_at (slice_index c.args.tree.now.heavy.now (slice_index c.args.tree.now.above.now c.args.at) == c.args.at) z.lights (get_or c.args.tree.now.members.now c.args.at nobody).down)) (read_label c.args.out.now (slice_index c.args.tree.now.above.now c.args.at) c.index-out-parent.result
    (let i = before _ _ _ _ _ c.args.at _ c.requires.measured.members c.requires.measured.above c.requires.measured.by_node c.requires.heavy c.requires.ahead c.requires.flat (omega arith) c.requires.there in let n = length-map c.args.out.now seen in omega (arith, i, n, c.requires.flat.length_is))) in
    omega (arith, few, same)

pub returns : goal.returns
returns c =
    next_label _ _ _ _ _ c.args.at _ c.requires.measured.members c.requires.measured.above c.requires.measured.by_node c.requires.heavy c.requires.ahead c.requires.flat (omega arith) c.requires.there c.child_label.result
    (c.child_label.ensures ∙ ap (λ (z : Label). label_below z (slice_index c.args.ahead.now c.args.at) (slice_index c.args.tree.now.heavy.now (slice_index c.args.tree.now.above.now c.args.at) == c.args.at) (get_or c.args.tree.now.members.now c.args.at nobody).down) (read_label c.args.out.now (slice_index c.args.tree.now.above.now c.args.at) c.index-out-parent.result
    (let i = before _ _ _ _ _ c.args.at _ c.requires.measured.members c.requires.measured.above c.requires.measured.by_node c.requires.heavy c.requires.ahead c.requires.flat (omega arith) c.requires.there in let n = length-map c.args.out.now seen in omega (arith, i, n, c.requires.flat.length_is))))
