use Rattle.std.proofs.Common.{◌≡◌, T, List, [], set, sym, ap, subst, ◌∙◌, arith}
use Rattle.std.specs.Ordering.{nat_cmp}
use Rattle.std.specs.FinMap.{is_sorted}
use Rattle.std.proofs.lemmas.List.{length-set, get_or-set_other}
use Rattle.graph_edits.specs.Rows.{Row, lists, row_of, cut_row}
use Rattle.graph_edits.proofs.Networks.{row_read}
use Rattle.graph_edits.proofs.InPlace.{new_row}
use Rattle.graph_edits.proofs.rows.cut_both.Goals as goal

pub cut_entry-requires : goal.cut_entry-requires
cut_entry-requires c =
    subst (λ (r : Row). T (is_sorted nat_cmp r)) (row_read c.args.rows.now.items c.args.a c.index_mut.result.now c.requires.first c.index_mut.ensures.value) (c.requires.sorted c.args.a)

pub cut_entry-requires-2 : goal.cut_entry-requires-2
cut_entry-requires-2 c =
    let rows = c.args.rows.now.items in
    let a = c.args.a in let b = c.args.b in
    let first = set rows a c.cut_entry.new.entries in
    let made : lists first ≡ set (lists rows) a (cut_row b (row_of (lists rows) a)) =
    new_row rows a c.index_mut.result.now c.cut_entry.new.entries (cut_row b) c.requires.first c.index_mut.ensures.value c.cut_entry.ensures.items in
    let here : row_of (lists first) b ≡ c.index_mut-2.result.now.items = row_read first b c.index_mut-2.result.now (omega (arith, length-set rows a c.cut_entry.new.entries, c.requires.second)) c.index_mut-2.ensures.value in
    let row_b : row_of (lists first) b ≡ row_of (lists rows) b = ap (λ (l : List Row). row_of l b) made ∙ get_or-set_other (lists rows) a b (cut_row b (row_of (lists rows) a)) [] (λ e. c.requires.apart (sym e)) in
    subst (λ (r : Row). T (is_sorted nat_cmp r)) (sym row_b ∙ here) (c.requires.sorted b)

pub returns : goal.returns
returns c =
    let rows = c.args.rows.now.items in
    let a = c.args.a in let b = c.args.b in
    let first = set rows a c.cut_entry.new.entries in
    let with_a = set (lists rows) a (cut_row b (row_of (lists rows) a)) in
    let made : lists first ≡ with_a = new_row rows a c.index_mut.result.now c.cut_entry.new.entries (cut_row b) c.requires.first c.index_mut.ensures.value c.cut_entry.ensures.items in
    let row_b : row_of (lists first) b ≡ row_of (lists rows) b = ap (λ (l : List Row). row_of l b) made ∙ get_or-set_other (lists rows) a b (cut_row b (row_of (lists rows) a)) [] (λ e. c.requires.apart (sym e)) in
    new_row first b c.index_mut-2.result.now c.cut_entry-2.new.entries (cut_row a) (omega (arith, length-set rows a c.cut_entry.new.entries, c.requires.second)) c.index_mut-2.ensures.value c.cut_entry-2.ensures.items
    ∙ ap (λ (l : List Row). set l b (cut_row a (row_of (lists first) b))) made ∙ ap (λ (r : Row). set with_a b (cut_row a r)) row_b
