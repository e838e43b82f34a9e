use Rattle.std.proofs.Common.{◌≡◌, sym, ◌∙◌, subst, T, nat_cmp}
use Rattle.std.specs.FinMap.{is_sorted}
use Rattle.graph_edits.specs.Rows.{lists, MissesAt, row_of}
use Rattle.graph_edits.proofs.Networks.{row_read}
use Rattle.graph_edits.proofs.Placing.{inserted, inserted_at, placed_copy, slots_put}
use Rattle.graph_edits.proofs.prepared.slot_of.Goals as goal

pub find_place-requires : goal.find_place-requires
find_place-requires c = subst (λ es. T (is_sorted nat_cmp es)) (sym c.deref.ensures.value) c.requires.slots.sorted

pub returns-in_ok-insert-in-Err-clause-slots : goal.returns-in_ok-insert-in-Err-clause-slots
returns-in_ok-insert-in-Err-clause-slots c =
    let missing : MissesAt nat_cmp c.args.rows.now.items c.args.node c.in-Err.i = rw c.deref.ensures.value at c.in-Err.ensures.missing in
    let is = inserted c.args.node c.args.rows.now.items c.in-Err.i c.in_ok-row-in-Err.row c.insert.new.self.items missing c.in_ok-insert-in-Err.ensures.items in
    rw is (slots_put _ c.args.node c.in_ok-row-in-Err.row c.args.rows.now.items c.requires.node c.requires.slots)

pub returns-in_ok-insert-in-Err-clause-rows : goal.returns-in_ok-insert-in-Err-clause-rows
returns-in_ok-insert-in-Err-clause-rows c =
    let missing : MissesAt nat_cmp c.args.rows.now.items c.args.node c.in-Err.i = rw c.deref.ensures.value at c.in-Err.ensures.missing in
    let is = inserted c.args.node c.args.rows.now.items c.in-Err.i c.in_ok-row-in-Err.row c.insert.new.self.items missing c.in_ok-insert-in-Err.ensures.items in
    let copied : c.in_ok-row-in-Err.row.items ≡ row_of (lists c.args.base.now) c.args.node = c.in_ok-row-in-Err.ensures ∙ c.deref-in-Err.ensures.value ∙ sym (row_read c.args.base.now c.args.node c.index-base-node.result c.requires.node c.index-base-node.is) in
    placed_copy (lists c.args.base.now) c.args.node c.args.rows.now.items c.in-Err.i c.in_ok-row-in-Err.row c.insert.new.self.items c.requires.slots.sorted missing copied is

pub returns-in_ok-insert-in-Err-clause-place : goal.returns-in_ok-insert-in-Err-clause-place
returns-in_ok-insert-in-Err-clause-place c =
    let missing : MissesAt nat_cmp c.args.rows.now.items c.args.node c.in-Err.i = rw c.deref.ensures.value at c.in-Err.ensures.missing in
    inserted_at c.args.node c.args.rows.now.items c.in-Err.i c.in_ok-row-in-Err.row c.insert.new.self.items missing
    (inserted c.args.node c.args.rows.now.items c.in-Err.i c.in_ok-row-in-Err.row c.insert.new.self.items missing c.in_ok-insert-in-Err.ensures.items)
