use Rattle.std.proofs.Common.{◌+◌, ◌∙◌, subst, sym, ap, arith}
use Rattle.std.specs.Prelude.{slice_index}
use Rattle.std.proofs.lemmas.Bool.{both_ways}
use Rattle.heavy_labels.specs.ByNode.{AreByNodeTo}
use Rattle.heavy_labels.proofs.Spots.{node_more, node_none, all_nodes}
use Rattle.heavy_labels.proofs.by_node.by_table.Goals as goal
use Rattle.heavy_labels.proofs.by_node.by_table.Goals.{then-is_place_of+in_ok-push, else-is_place_of}

pub loop-x-preserved : goal.loop-x-preserved
loop-x-preserved g c = elim c.if-is_place_of.branch [
  | then-is_place_of+in_ok-push w ↦
      node_more c.args.members.now c.loop-x.x (slice_index c.args.places.now c.loop-x.x) c.loop-x.all.items c.if-is_place_of.all.items c.requires.members (c.is_place_of.ensures.0 w.if-is_place_of.true)
      (ap (λ v. v.items) w.all-is ∙ w.in_ok-push.ensures.items) c.loop-x.invariant
  | else-is_place_of w ↦
      subst (AreByNodeTo c.args.members.now (c.loop-x.x + 1)) (sym (ap (λ v. v.items) w.all-is))
      (node_none c.args.members.now c.loop-x.x c.args.places.now c.loop-x.all.items c.requires.places (λ h. both_ways _ w.if-is_place_of.false (c.is_place_of.ensures.1 h)) c.loop-x.invariant)
]

pub returns : goal.returns
returns g c = all_nodes c.args.members.now c.loop-x.x c.args.places.now c.loop-x.all.items c.requires.places (omega arith) c.loop-x.invariant
