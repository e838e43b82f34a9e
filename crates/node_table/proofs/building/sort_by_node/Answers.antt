use Rattle.std.proofs.Common.{rules}
use Rattle.std.proofs.lemmas.List.Sorted.{IsNonDecreasingBy-from_sort_by_key}
use Rattle.node_table.proofs.building.sort_by_node.Goals as goal

pub returns-clause-ascend : goal.returns-clause-ascend
returns-clause-ascend c = IsNonDecreasingBy-from_sort_by_key (λ e. e.node) _ c.sort_unstable_by_key.ensures.sorted (λ a r q k. search rules)
