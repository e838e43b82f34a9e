use Rattle.std.proofs.Common.{◌≡◌, ap, sym, ◌∙◌}
use Rattle.crossbeam_queue.specs.Passes.{view}
use Rattle.intake.specs.Ends.{Taking}
use Rattle.intake.proofs.InTurns.{skips}
use Rattle.intake.proofs.queue.Taker.skip.Goals as goal

pub another-skipped-requires-clause-rule : goal.another-skipped-requires-clause-rule
another-skipped-requires-clause-rule c =
    let p = view c.self.inside.pass in
    let first : p.first ≡ c.args.self.now.first = ap (λ (t : Taking). t.first) c.self.view_is in
    let made : p.made ≡ c.args.self.now.made = ap (λ (t : Taking). t.made) c.self.view_is in
    skips _ _ c.self.invariant.1 (first ∙ (c.requires.none ∙ sym made))
