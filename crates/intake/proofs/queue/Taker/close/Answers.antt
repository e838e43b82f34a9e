use Rattle.std.proofs.Common.{rules, ap}
use Rattle.intake.specs.declared.queue.View.{View}
use Rattle.intake.proofs.InTurns.{merges, compares}
use Rattle.intake.proofs.queue.Taker.close.Goals as goal

pub absorb-requires-clause-rule : goal.absorb-requires-clause-rule
absorb-requires-clause-rule c = merges _ _ _ _ c.self.invariant.1 (ap (λ (v : View). v.sends) c.sender.invariant.1)

pub learn_as-requires-clause-rule : goal.learn_as-requires-clause-rule
learn_as-requires-clause-rule c = compares _ _ (search rules) (search rules)
