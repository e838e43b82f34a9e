use Rattle.certificate.proofs.Words.{◌≡◌, ◌+◌, ◌-◌, ◌<◌, ◌∙◌, ap, arith, subst, sym, length, map, drop, get_or, rules, ◌↔◌, IsTrue, eqb-true, All, neighbours_of, tables, IsRightOver, AreChildrenFit, AreNumbered, IsWidest, StartsAt, but, children_among, with_child, refused}
use Rattle.heavy_labels.specs.declared.tree_record.Record.{Record}
use Rattle.certificate.proofs.RowLemmas.{children_more, each_more, fit_at_front, rest_numbered}
use Rattle.certificate.proofs.records.are_children_fit.Goals as goal

pub returns-in-None : goal.returns-in-None
unfolding AreChildrenFit
returns-in-None c = refused (λ h. (
    let t = tables c.args.scheme.now in
    let e = c.args.entry.now in
    let row = c.neighbours-row.result.now in
    let i = c.loop-left.left - 1 in
    let more = children_more t e.root c.args.x i c.loop-left.left row (omega (arith, c.loop-left-test.true)) (omega (arith, c.loop-left-test.true, c.loop-left.invariant.within)) in
    let below = c.child_of-below.ensures t (get_or row i (0, 0)).0 e.root (rw c.root.ensures at c.entry_near-behind.ensures) in
    let ks = children_among t e.root c.args.x (map (λ f. f.0) (drop c.loop-left.left row)) in
    let same = sym c.tree_record-own.ensures in
    let y = (get_or row i (0, 0)).0 in
    let start = subst (λ (z : Record). StartsAt t e.root (z.light_depth + 1) (e.tree_record.last + 1) (but c.args.heavy ks) c.loop-left.start) same c.loop-left.invariant.start in
    let whole = subst (λ z. AreNumbered t e.root (e.tree_record.heavy_last + 1) (e.tree_record.light_depth + 1) (e.tree_record.last + 1) (but c.args.heavy (children_among t e.root c.args.x (map (λ f. f.0) z)))) (sym c.neighbours-row.ensures.list) h.1.1 in
    let rest = rest_numbered t e.root c.args.x (e.tree_record.light_depth + 1) (e.tree_record.last + 1) c.args.heavy i row (e.tree_record.heavy_last + 1) whole in
    let all = subst (λ z. AreNumbered t e.root rest.0 (e.tree_record.light_depth + 1) (e.tree_record.last + 1) (but c.args.heavy z)) (sym more) rest.1 in
    c.in-None.ensures t e.root c.args.x (e.tree_record.last + 1) ks below start rest.0
    (subst (λ (z : Record). AreNumbered t e.root rest.0 (z.light_depth + 1) (e.tree_record.last + 1) (but c.args.heavy (with_child t e.root c.args.x y ks))) same all)))

pub loop-left-preserved : goal.loop-left-preserved
loop-left-preserved c =
    let t = tables c.args.scheme.now in
    let e = c.args.entry.now in
    let row = c.neighbours-row.result.now in
    let v = c.loop-left.invariant in
    let i = c.loop-left.left - 1 in
    let back : i + 1 ≡ c.loop-left.left = omega (arith, c.loop-left-test.true) in
    let inside : i < length row = omega (arith, c.loop-left-test.true, v.within) in
    let more = children_more t e.root c.args.x i c.loop-left.left row back inside in
    let below = c.child_of-below.ensures t (get_or row i (0, 0)).0 e.root (rw c.root.ensures at c.entry_near-behind.ensures) in
    let ks = children_among t e.root c.args.x (map (λ f. f.0) (drop c.loop-left.left row)) in
    let first = (rw c.tree_record-own.ensures at (c.in-Some.ensures t e.root c.args.x (e.tree_record.last + 1) ks below)) v.start in
    record {
      within = omega (arith, v.within);
      right = each_more (IsRightOver t e) row i c.loop-left.left back inside (c.is_right_over.ensures.0 c.if-not-is_right_over.false) v.right;
      start = subst (λ z. StartsAt t e.root (e.tree_record.light_depth + 1) (e.tree_record.last + 1) (but c.args.heavy z) c.in-Some.first) more first;
      widest = subst (λ z. IsWidest t e.root z c.wider_child-widest.result) more (c.wider_child-widest.ensures t e.root c.args.x ks below v.widest);
    }

pub returns-then-start-own : goal.returns-then-start-own
returns-then-start-own c =
    let t = tables c.args.scheme.now in
    let e = c.args.entry.now in
    let row = c.neighbours-row.result.now in
    let v = c.loop-left.invariant in
    let k = fit_at_front c.args.graph.now t c.args.x e c.args.heavy row c.loop-left.left c.loop-left.start c.loop-left.widest c.loop-left-test.false c.neighbours-row.ensures.list v.start v.widest in
    let all : All (IsRightOver t e) (neighbours_of c.args.graph.now c.args.x) = λ j d l. subst (λ z. IsRightOver t e (get_or z j d)) c.neighbours-row.ensures.list
    (v.right j d (omega (arith, c.loop-left-test.false)) (let n = ap length c.neighbours-row.ensures.list in omega (arith, l, n))) in
    let last = ap (λ (z : Record). z.heavy_last + 1) c.tree_record-own.ensures in
    let same : IsTrue c.eq.result ↔ (c.loop-left.widest.0 ≡ c.args.heavy) = search (rules, c.eq.ensures) in
    (λ b. (all, k.0 (sym last ∙ sym c.if-start-own.true, same.0 b)), λ h. same.1 (k.1 h.1).1)

pub returns-else-start-own : goal.returns-else-start-own
returns-else-start-own c =
    let e = c.args.entry.now in
    let v = c.loop-left.invariant in
    let k = fit_at_front c.args.graph.now (tables c.args.scheme.now) c.args.x e c.args.heavy c.neighbours-row.result.now c.loop-left.left c.loop-left.start c.loop-left.widest c.loop-left-test.false c.neighbours-row.ensures.list v.start v.widest in
    let last = ap (λ (z : Record). z.heavy_last + 1) c.tree_record-own.ensures in (
      λ b. absurd (c.if-start-own.false (eqb-true c.loop-left.start (c.tree_record-own.result.heavy_last + 1) b)),
      λ h. absurd (c.if-start-own.false (sym (k.1 h.1).0 ∙ sym last)),
    )
