use Rattle.std.proofs.Common.{ap}
use Rattle.intake.specs.declared.queue.View.{View}
use Rattle.intake.proofs.InTurns.{tells}
use Rattle.intake.proofs.queue.+tell.Goals as goal

pub another-doubled-requires-clause-rule : goal.another-doubled-requires-clause-rule
another-doubled-requires-clause-rule t c =
    let is = c.tell.ensures.view in
    tells _ _ _ _ (ap (λ (v : View). v.takes) is) (ap (λ (v : View). v.made) is) (ap (λ (v : View). v.got) is)

pub another-raised-requires-clause-rule : goal.another-raised-requires-clause-rule
another-raised-requires-clause-rule t c =
    let is = c.another-doubled.ensures.rule.0 in
    tells _ _ _ _ (ap (λ (v : View). v.takes) is) (ap (λ (v : View). v.made) is) (ap (λ (v : View). v.got) is)
