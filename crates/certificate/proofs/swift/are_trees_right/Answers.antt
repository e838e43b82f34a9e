use Rattle.certificate.proofs.Words.{◌≡◌, ◌<◌, ◌∙◌, ℕ, ap, arith, inl, inr, subst, sym, length, get_or, replicate, slice_index, cases_eq, get_or-replicate, length-replicate, Entry, IsRootRight}
use Rattle.certificate.proofs.LookUps.{kept_nought}
use Rattle.certificate.proofs.TreeLemmas.{right_first, right_last}
use Rattle.certificate.proofs.swift.are_trees_right.Goals as goal

nothing_at : (e : Entry) (x : ℕ) (d : Entry) → x < length (replicate 16384 e) → e.root ≡ 65535 → (get_or (replicate 16384 e) x d).root ≡ 65535
nothing_at e x d l none =
    let same = length-replicate 16384 e in
    ap (λ (z : Entry). z.root) (get_or-replicate 16384 x e d (omega (arith, l, same))) ∙ none

pub loop-root-init : goal.loop-root-init
loop-root-init c = record {
  right = right_first c.args.graph.now c.args.scheme.now c.args.first c.put_places.new.places (λ x l. c.put_places.ensures.below x (omega (arith, l, c.nodes.ensures.nodes)));
  next = c.put_places.ensures.next (λ x q le lt. let less : q < slice_index (replicate 16384 0) x = lt in absurd (omega (arith, less, kept_nought 16384 x)));
  entries = λ x d l. inl (nothing_at c.no_entry-entries.result x d l c.no_entry-entries.ensures);
  roots = λ x a b. absurd (omega (arith, a, b));
}

pub sweep_tree-requires-clause-ahead : goal.sweep_tree-requires-clause-ahead
sweep_tree-requires-clause-ahead c = record { next = c.loop-root.invariant.next; entries = c.put_entries.ensures.kept c.loop-root.invariant.entries }

pub loop-root-preserved : goal.loop-root-preserved
loop-root-preserved c = record {
  right = c.sweep_tree.ensures.on.right c.args.first c.loop-root.invariant.right;
  next = c.put_nexts.ensures.next c.loop-root.invariant.next;
  entries = c.put_entries.ensures.kept c.loop-root.invariant.entries;
  roots = λ x a b. elim (cases_eq x c.loop-root.root) [
    | inl s ↦ subst (IsRootRight c.args.graph.now c.args.scheme.now) (sym s) (c.sweep_tree.ensures.root c.if-not-sweep_tree.false)
    | inr ne ↦ c.loop-root.invariant.roots x a (omega (arith, b, ne))
  ];
}

pub returns : goal.returns
returns c t x from to = record {
  root = c.loop-root.invariant.roots x from (omega (arith, to, c.loop-root-test.false));
  entries = right_last c.args.graph.now c.args.scheme.now c.args.first c.args.last x c.loop-root.places c.requires.ascend c.loop-root.invariant.right (λ y l. c.are_past.ensures t y (omega (arith, l, c.nodes-2.ensures.nodes))) from to;
}
