use Rattle.std.proofs.Common.{◌<◌, sym, ap, ◌∙◌, subst, T, nat_cmp, length, arith}
use Rattle.std.proofs.lemmas.List.{length-map}
use Rattle.std.specs.FinMap.{put, is_sorted}
use Rattle.graph_edits.specs.Rows.{lists, row_of}
use Rattle.graph_edits.specs.Placed.{placed}
use Rattle.graph_edits.proofs.Placing.{at_slot, slots_written, placed_written}
use Rattle.graph_edits.proofs.prepared.put_half.Goals as goal

pub put_neighbour-requires : goal.put_neighbour-requires
put_neighbour-requires c =
    let within : c.args.node < length (lists c.args.base.now) = omega (arith, length-map c.args.base.now (λ row. row.items)) in
    let row = at_slot (lists c.args.base.now) c.args.node c.slot_of.new.rows.items c.in_ok-i.i c.index_mut.result.now within c.in_ok-i.ensures.place c.index_mut.ensures.value in
    subst (λ r. T (is_sorted nat_cmp r)) (sym (row ∙ ap (λ l. row_of l c.args.node) c.in_ok-i.ensures.rows)) c.requires.sorted

pub returns-clause-slots : goal.returns-clause-slots
returns-clause-slots c = slots_written _ c.args.node c.slot_of.new.rows.items c.in_ok-i.i c.index_mut.result.now c.put_neighbour.new.row c.requires.node c.in_ok-i.ensures.slots c.in_ok-i.ensures.place c.index_mut.ensures.value

pub returns-clause-rows : goal.returns-clause-rows
returns-clause-rows c =
    let within : c.args.node < length (lists c.args.base.now) = omega (arith, length-map c.args.base.now (λ row. row.items)) in
    placed_written (lists c.args.base.now) (placed (lists c.args.base.now) c.args.rows.now.items) c.args.node c.slot_of.new.rows.items c.in_ok-i.i c.index_mut.result.now c.put_neighbour.new.row (put nat_cmp c.args.neighbour c.args.weight)
    within c.in_ok-i.ensures.place c.index_mut.ensures.value c.in_ok-put_neighbour.ensures.ok c.in_ok-i.ensures.rows
