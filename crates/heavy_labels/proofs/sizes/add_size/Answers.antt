use Rattle.std.proofs.Common.{arith}
use Rattle.std.specs.Prelude.{slice_index}
use Rattle.route_tree.proofs.Waiting.{no_member}
use Rattle.heavy_labels.proofs.SizeSteps.{sizes_step, sum_fits}
use Rattle.heavy_labels.proofs.sizes.add_size.Goals as goal

pub bounds-sizes-place : goal.bounds-sizes-place
bounds-sizes-place c =
    let b = (c.requires.above.each c.args.at no_member c.requires.below_root c.requires.there).before in
    omega (arith, b, c.requires.there, c.requires.length)

pub overflow_add-sizes : goal.overflow_add-sizes
overflow_add-sizes c =
    let s = c.requires.above.each c.args.at no_member c.requires.below_root c.requires.there in
    let f = sum_fits c.args.members.now c.args.at (slice_index c.args.above.now c.args.at) c.args.sizes.now no_member c.requires.there c.requires.members.once s c.requires.sizes in
    omega (arith, f, c.requires.members.few)

pub returns-clause-sizes : goal.returns-clause-sizes
returns-clause-sizes c =
    sizes_step c.args.members.now c.args.at (slice_index c.args.above.now c.args.at) c.args.sizes.now c.requires.there c.requires.members.once
    (λ d. c.requires.above.each c.args.at d c.requires.below_root c.requires.there) c.requires.length c.requires.sizes

pub bounds-sizes-place-2 : goal.bounds-sizes-place-2
bounds-sizes-place-2 c =
    let b = (c.requires.above.each c.args.at no_member c.requires.below_root c.requires.there).before in
    omega (arith, b, c.requires.there, c.requires.length)
