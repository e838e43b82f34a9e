use Rattle.std.proofs.Common.{rules}
use Rattle.std.proofs.lemmas.List.Sorted.{IsNonDecreasingBy-from_sort_by_key}
use Rattle.heavy_labels.proofs.by_node.sort_by_node.Goals as goal

pub returns-clause-ascend : goal.returns-clause-ascend
returns-clause-ascend g c = IsNonDecreasingBy-from_sort_by_key (λ s. s.node) _ c.sort_unstable_by_key.ensures.sorted (λ a r q k. search rules)
