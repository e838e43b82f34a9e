use Rattle.std.proofs.Common.{rules}
use Rattle.std.proofs.lemmas.List.Sorted.{answers_always}
use Rattle.router_table.proofs.Searching.{found, missing, comparisons_rise}
use Rattle.router_table.proofs.search.find.Goals as goal

pub returns-in-Ok : goal.returns-in-Ok
returns-in-Ok g c =
    let facts = c.in-Ok.ensures in
    found g.T.Keyed.key c.args.number c.args.items.now c.requires c.in-Ok.place c.index-items-place.result facts.bound
    (facts.position g.T.Keyed.key (answers_always _ _ _ (λ f a r h called. search rules))) c.index-items-place.is

pub returns-in-Err : goal.returns-in-Err
returns-in-Err g c =
    missing g.T.Keyed.key c.args.number c.args.items.now c.requires c.in-Err.field-0
    (c.in-Err.ensures.position g.T.Keyed.key (answers_always _ _ _ (λ f a r h called. search rules)) (comparisons_rise g.T.Keyed.key c.args.number c.args.items.now c.requires))
