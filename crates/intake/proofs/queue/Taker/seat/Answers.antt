use Rattle.std.proofs.Common.{◌≡◌, ap, sym, ◌∙◌, length, arith}
use Rattle.crossbeam_queue.specs.Passes.{view}
use Rattle.intake.specs.Ends.{Taking}
use Rattle.intake.proofs.InTurns.{counts, seats}
use Rattle.intake.proofs.queue.Taker.seat.Goals as goal

pub another-pass-requires-clause-rule : goal.another-pass-requires-clause-rule
another-pass-requires-clause-rule c =
    let p = view c.self.inside.pass in
    let made : p.made ≡ c.args.session = ap (λ (t : Taking). t.made) c.self.view_is ∙ sym c.requires.next in
    let long : length p.starts ≡ length c.args.self.now.starts = ap (λ (t : Taking). length t.starts) c.self.view_is in
    let first : p.first ≡ c.args.self.now.first = ap (λ (t : Taking). t.first) c.self.view_is in
    seats _ _ c.self.invariant.1 (omega (arith, first, made, c.requires.next, c.requires.ordered)) (omega (arith, made, c.requires.there.0)) (omega (arith, made, long, c.requires.there.1))

pub of-misses-requires-clause-rule : goal.of-misses-requires-clause-rule
of-misses-requires-clause-rule c = counts
