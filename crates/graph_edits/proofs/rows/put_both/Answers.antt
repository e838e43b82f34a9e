use Rattle.std.proofs.Common.{◌≡◌, T, List, [], set, sym, ap, subst, ◌∙◌, arith}
use Rattle.std.specs.Ordering.{nat_cmp}
use Rattle.std.specs.FinMap.{put, is_sorted}
use Rattle.std.proofs.lemmas.List.{length-set, get_or-set_other}
use Rattle.graph_edits.specs.Rows.{Row, lists, row_of}
use Rattle.graph_edits.proofs.Networks.{row_read}
use Rattle.graph_edits.proofs.InPlace.{same_row, new_row, on_err}
use Rattle.graph_edits.proofs.rows.put_both.Goals as goal

pub returns-in_err-reserve-clause-unchanged : goal.returns-in_err-reserve-clause-unchanged
returns-in_err-reserve-clause-unchanged c =
    on_err _ c.from_residual.result (same_row c.args.rows.now.items c.args.b c.index_mut.result.now c.reserve.new.self c.requires.second c.index_mut.ensures.value c.reserve.ensures.items)

pub put_neighbour-requires : goal.put_neighbour-requires
put_neighbour-requires c =
    let rows = c.args.rows.now.items in
    let first = set rows c.args.b c.reserve.new.self in
    let same : lists first ≡ lists rows = same_row rows c.args.b c.index_mut.result.now c.reserve.new.self c.requires.second c.index_mut.ensures.value c.reserve.ensures.items in
    let here : row_of (lists first) c.args.a ≡ c.index_mut-2.result.now.items = row_read first c.args.a c.index_mut-2.result.now (omega (arith, length-set rows c.args.b c.reserve.new.self, c.requires.first)) c.index_mut-2.ensures.value in
    subst (λ (r : Row). T (is_sorted nat_cmp r)) (ap (λ (l : List Row). row_of l c.args.a) (sym same) ∙ here) (c.requires.sorted c.args.a)

pub returns-in_err-put_neighbour-clause-unchanged : goal.returns-in_err-put_neighbour-clause-unchanged
returns-in_err-put_neighbour-clause-unchanged c =
    let rows = c.args.rows.now.items in
    let first = set rows c.args.b c.reserve.new.self in
    let same : lists first ≡ lists rows = same_row rows c.args.b c.index_mut.result.now c.reserve.new.self c.requires.second c.index_mut.ensures.value c.reserve.ensures.items in
    on_err _ c.from_residual-in_err-put_neighbour.result (same_row first c.args.a c.index_mut-2.result.now c.put_neighbour.new.row (omega (arith, length-set rows c.args.b c.reserve.new.self, c.requires.first)) c.index_mut-2.ensures.value c.in_err-put_neighbour.ensures.unchanged ∙ same)

pub put_entry-requires-clause-sorted : goal.put_entry-requires-clause-sorted
put_entry-requires-clause-sorted c =
    let rows = c.args.rows.now.items in
    let a = c.args.a in let b = c.args.b in let w = c.args.weight in
    let first = set rows b c.reserve.new.self in
    let second = set first a c.put_neighbour.new.row in
    let same : lists first ≡ lists rows = same_row rows b c.index_mut.result.now c.reserve.new.self c.requires.second c.index_mut.ensures.value c.reserve.ensures.items in
    let made : lists second ≡ set (lists rows) a (put nat_cmp b w (row_of (lists rows) a)) =
    new_row first a c.index_mut-2.result.now c.put_neighbour.new.row (put nat_cmp b w) (omega (arith, length-set rows b c.reserve.new.self, c.requires.first)) c.index_mut-2.ensures.value c.in_ok-put_neighbour.ensures.ok
    ∙ ap (λ (l : List Row). set l a (put nat_cmp b w (row_of l a))) same in
    let here : row_of (lists second) b ≡ c.index_mut-3.result.now.items = row_read second b c.index_mut-3.result.now (omega (arith, length-set first a c.put_neighbour.new.row, length-set rows b c.reserve.new.self, c.requires.second)) c.index_mut-3.ensures.value in
    let row_b : row_of (lists second) b ≡ row_of (lists rows) b = ap (λ (l : List Row). row_of l b) made ∙ get_or-set_other (lists rows) a b (put nat_cmp b w (row_of (lists rows) a)) [] (λ e. c.requires.apart (sym e)) in
    subst (λ (r : Row). T (is_sorted nat_cmp r)) (sym row_b ∙ here) (c.requires.sorted b)

pub returns-clause-ok : goal.returns-clause-ok
returns-clause-ok c =
    let rows = c.args.rows.now.items in
    let a = c.args.a in let b = c.args.b in let w = c.args.weight in
    let first = set rows b c.reserve.new.self in
    let second = set first a c.put_neighbour.new.row in
    let same : lists first ≡ lists rows = same_row rows b c.index_mut.result.now c.reserve.new.self c.requires.second c.index_mut.ensures.value c.reserve.ensures.items in
    let with_a = set (lists rows) a (put nat_cmp b w (row_of (lists rows) a)) in
    let made : lists second ≡ with_a =
    new_row first a c.index_mut-2.result.now c.put_neighbour.new.row (put nat_cmp b w) (omega (arith, length-set rows b c.reserve.new.self, c.requires.first)) c.index_mut-2.ensures.value c.in_ok-put_neighbour.ensures.ok
    ∙ ap (λ (l : List Row). set l a (put nat_cmp b w (row_of l a))) same in
    let row_b : row_of (lists second) b ≡ row_of (lists rows) b = ap (λ (l : List Row). row_of l b) made ∙ get_or-set_other (lists rows) a b (put nat_cmp b w (row_of (lists rows) a)) [] (λ e. c.requires.apart (sym e)) in
    new_row second b c.index_mut-3.result.now c.put_entry.new.entries (put nat_cmp a w) (omega (arith, length-set first a c.put_neighbour.new.row, length-set rows b c.reserve.new.self, c.requires.second)) c.index_mut-3.ensures.value c.put_entry.ensures.items
    ∙ ap (λ (l : List Row). set l b (put nat_cmp a w (row_of (lists second) b))) made ∙ ap (λ (r : Row). set with_a b (put nat_cmp a w r)) row_b
