use Rattle.std.proofs.Common.{nat_lt, rules}
use Rattle.std.proofs.lemmas.List.Sorted.{answers_always}
use Rattle.schemes.proofs.Basics.Searches.{ascending_answer}
use Rattle.router_table.proofs.fields.do_ascend.Goals as goal

pub returns : goal.returns
returns g c =
    ascending_answer g.T.Keyed.key c.args.items.now c.is_sorted_by.result
    (c.is_sorted_by.ensures.cases (λ x y. nat_lt (g.T.Keyed.key x) (g.T.Keyed.key y)) (answers_always _ _ _ (λ f a r h k. search rules)))
