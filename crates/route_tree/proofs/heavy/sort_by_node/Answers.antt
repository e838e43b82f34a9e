use Rattle.std.proofs.Common.{arith, rules}
use Rattle.std.proofs.lemmas.List.Sorted.{IsNonDecreasingBy-from_sort_by_key, IsNonDecreasingBy-short}
use Rattle.route_tree.proofs.heavy.sort_by_node.Goals as goal

pub returns-then-trees-gt1-clause-ascending : goal.returns-then-trees-gt1-clause-ascending
returns-then-trees-gt1-clause-ascending g c = IsNonDecreasingBy-from_sort_by_key (λ t. t.node) _ c.sort_unstable_by_key.ensures.sorted (λ a r q k. search rules)

pub returns-else-trees-gt1-clause-ascending : goal.returns-else-trees-gt1-clause-ascending
returns-else-trees-gt1-clause-ascending g c = IsNonDecreasingBy-short (λ t. t.node) _ (omega (arith, c.if-trees-gt1.false))
