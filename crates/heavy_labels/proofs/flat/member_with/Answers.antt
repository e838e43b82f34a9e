use Rattle.std.proofs.Common.{◌∙◌, ℕ, List, arith, length, ap}
use Rattle.std.specs.Prelude.{slice_index, is_none, ◌-◌}
use Rattle.heavy_labels.proofs.BehindThem.{size_at}
use Rattle.heavy_labels.proofs.FlatSteps.{heavy_fits, port_there, made}
use Rattle.heavy_labels.proofs.flat.member_with.Goals as goal

pub overflow_sub-tree_record : goal.overflow_sub-tree_record
overflow_sub-tree_record c = (let n = size_at c.args.tree.now.members.now c.args.tree.now.sizes.now c.args.at c.requires.measured.members c.requires.measured.sizes c.requires.there in omega (arith, n))

pub overflow_add-tree_record : goal.overflow_add-tree_record
overflow_add-tree_record c = (let n = size_at c.args.tree.now.members.now c.args.tree.now.sizes.now c.args.at c.requires.measured.members c.requires.measured.sizes c.requires.there in let f = c.first-first.ensures in omega (arith, n, f, c.requires.fits, c.requires.measured.members.few))

pub overflow_add-tree_record-2 : goal.overflow_add-tree_record-2
overflow_add-tree_record-2 c =
    let n = heavy_fits c.args.tree.now.members.now c.args.tree.now.sizes.now c.args.tree.now.heavy.now c.args.tree.now.by_node.now c.args.at c.requires.measured.members c.requires.measured.by_node c.requires.measured.sizes c.requires.heavy c.requires.there in
    let e = c.heavy_size.ensures in
    let f = c.first-first.ensures in
    omega (arith, n, e, f, c.requires.fits, c.requires.measured.members.few)

pub invariant_of-tree_record : goal.invariant_of-tree_record
invariant_of-tree_record c = record {
  heavy_port_there =
      let n = size_at c.args.tree.now.members.now c.args.tree.now.sizes.now c.args.at c.requires.measured.members c.requires.measured.sizes c.requires.there in
      ap is_none c.heavy_port.ensures ∙ port_there c.args.tree.now.members.now c.args.tree.now.sizes.now c.args.tree.now.heavy.now c.args.tree.now.by_node.now c.args.at c.requires.measured.members c.requires.measured.by_node c.requires.measured.sizes c.requires.heavy c.requires.there c.first-first.result (slice_index c.args.tree.now.sizes.now c.args.at - 1) (omega (arith, n));
}

pub returns : goal.returns
returns c =
    let n = size_at c.args.tree.now.members.now c.args.tree.now.sizes.now c.args.at c.requires.measured.members c.requires.measured.sizes c.requires.there in
    let e = c.heavy_size.ensures in
    made c.args.tree.now.members.now c.args.tree.now.sizes.now c.args.tree.now.heavy.now c.args.tree.now.by_node.now c.args.at c.requires.measured.members c.requires.measured.by_node c.requires.measured.sizes c.requires.heavy c.requires.there
    c.args.label c.first-first.result _ _ _ c.heavy_port.result c.first-first.ensures (omega (arith, n)) (omega (arith, e)) (ap (λ (z : List ℕ). length z) c.lights.ensures.same) c.heavy_port.ensures
