use Rattle.std.proofs.Common.{ap}
use Rattle.intake.specs.declared.queue.View.{View}
use Rattle.intake.proofs.InTurns.{tells}
use Rattle.intake.proofs.queue.tell_all.Goals as goal

pub another-told-requires-clause-rule : goal.another-told-requires-clause-rule
another-told-requires-clause-rule c =
    let is = c.tell.ensures.view in
    tells _ _ _ _ (ap (λ (v : View). v.takes) is) (ap (λ (v : View). v.made) is) (ap (λ (v : View). v.got) is)
