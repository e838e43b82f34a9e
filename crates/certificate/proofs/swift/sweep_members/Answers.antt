use Rattle.certificate.proofs.Words.{◌≡◌, ◌∙◌, ap, arith, get_or, inl, inr, length, subst, sym, IsSome, cases_eq, get_or_default, Listed, directory_at, first_listed, tables, GoOn}
use Rattle.certificate.proofs.LookUps.{listed_at}
use Rattle.certificate.proofs.TreeLemmas.{goes_on, stays}
use Rattle.certificate.proofs.swift.sweep_members.Goals as goal
use Rattle.certificate.proofs.swift.sweep_members.Goals.{then-x-nodes-via-then-x-nodes, then-x-nodes-via-else-x-nodes+then-not-sweep}

pub sweep-requires-clause-listed : goal.sweep-requires-clause-listed
sweep-requires-clause-listed c _ =
    let es = directory_at c.args.scheme.now c.args.root in
    let i = c.loop-listed.listed-index in
    let d = c.listed-item.result in
    let n = ap length c.directory_of-listed-items.ensures in
    subst (λ (z : Listed). IsSome (first_listed z.node es)) (sym (c.listed-item.is ∙ ap (λ xs. get_or xs i d) c.directory_of-listed-items.ensures)) (listed_at es i d (omega (arith, c.loop-listed-test.true, n)))

pub returns-then-x-nodes-clause-on : goal.returns-then-x-nodes-clause-on
returns-then-x-nodes-clause-on c = goes_on c.args.graph.now c.args.scheme.now c.args.places.now c.loop-listed.places c.then-x-nodes.places c.loop-listed.invariant.on (elim c.then-x-nodes.branch [
  | then-x-nodes-via-then-x-nodes w ↦ subst (GoOn c.args.graph.now c.args.scheme.now c.loop-listed.places) (sym w.places-is) (stays c.args.graph.now c.args.scheme.now c.loop-listed.places)
  | then-x-nodes-via-else-x-nodes+then-not-sweep w ↦ subst (GoOn c.args.graph.now c.args.scheme.now c.loop-listed.places) (sym w.places-is) w.sweep.ensures.on
])

pub loop-listed-preserved : goal.loop-listed-preserved
loop-listed-preserved c = record {
  on = goes_on c.args.graph.now c.args.scheme.now c.args.places.now c.loop-listed.places c.sweep.new.places c.loop-listed.invariant.on c.sweep.ensures.on;
  there = λ k d l. elim (cases_eq k c.loop-listed.listed-index) [
    | inl s ↦ (
        let es = directory_at c.args.scheme.now c.args.root in
        let i = c.loop-listed.listed-index in
        let n = ap length c.directory_of-listed-items.ensures in
        let is : c.listed-item.result ≡ get_or es i d = c.listed-item.is ∙ ap (λ xs. get_or xs i c.listed-item.result) c.directory_of-listed-items.ensures ∙ get_or_default es i c.listed-item.result d (omega (arith, c.loop-listed-test.true, n)) in
        subst (λ j. IsSome ((tables c.args.scheme.now).entry (get_or es j d).node c.args.root)) (sym s) (subst (λ (z : Listed). IsSome ((tables c.args.scheme.now).entry z.node c.args.root)) is (c.sweep.ensures.there c.if-not-sweep.false)))
    | inr ne ↦ c.loop-listed.invariant.there k d (omega (arith, l, ne))
  ];
}
