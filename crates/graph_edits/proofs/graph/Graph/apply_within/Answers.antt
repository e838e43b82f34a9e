use Rattle.std.proofs.Common.{sym, ap, ◌∙◌, subst, Ok}
use Rattle.std.specs.Option.{IsSome}
use Rattle.graph_edits.specs.Changes.{fold, err_of, edges_after_within}
use Rattle.graph_edits.proofs.Applied.{after_lower, one_accepted, only_change}
use Rattle.graph_edits.proofs.graph.Graph.apply_within.Goals as goal

pub prepare-requires : goal.prepare-requires
prepare-requires c =
    let g = c.args.self.now in
    let passed = ap (λ ops. err_of (edges_after_within c.args.limit g.nodes g.edges 0 ops)) (sym c.ops.ensures.ops) ∙ sym c.first_refused.ensures ∙ c.in_default.is in
    record { accepted = subst (λ changes. IsSome (fold g changes)) (sym c.from_ref.ensures.value) (one_accepted c.args.limit g c.args.change.now c.requires passed) }

pub returns-in-Ok-clause-ok : goal.returns-in-Ok-clause-ok
returns-in-Ok-clause-ok c =
    let g = c.args.self.now in
    let passed = ap (λ ops. err_of (edges_after_within c.args.limit g.nodes g.edges 0 ops)) (sym c.ops.ensures.ops) ∙ sym c.first_refused.ensures ∙ c.in_default.is in
    after_lower c.args.limit g c.args.change.now c.requires passed
    ∙ only_change g c.in-Ok.prepared.after c.args.change.now (ap (fold g) (sym c.from_ref.ensures.value) ∙ sym c.in-Ok.ensures.after)
    ∙ ap Ok (sym c.install.ensures)
