use Rattle.std.proofs.Common.{◌≡◌, ap, sym, ◌∙◌, arith}
use Rattle.crossbeam_queue.specs.Passes.{view}
use Rattle.intake.specs.declared.queue.View.{View}
use Rattle.intake.specs.Turns.{last_or_start}
use Rattle.intake.specs.Ends.{Sending}
use Rattle.intake.proofs.InTurns.{puts, counts, waits}
use Rattle.intake.proofs.queue.Sender.put.Goals as goal

pub push-requires-clause-counts : goal.push-requires-clause-counts
push-requires-clause-counts g c = counts

pub push-requires-clause-pushes : goal.push-requires-clause-pushes
push-requires-clause-pushes g c =
    let p = view c.self.inside.pass in
    let i = c.self.invariant.1 in
    let last : last_or_start p.start p.put ≡ last_or_start c.args.self.now.start c.args.self.now.put = ap (λ n. last_or_start n p.put) (ap (λ (v : View). v.start) i) ∙ ap (λ (s : Sending). last_or_start s.start s.put) c.self.view_is in
    puts _ _ _ _ (ap (λ (v : View). v.sends) i) (c.requires.session ∙ (sym (ap (λ (s : Sending). s.session) c.self.view_is) ∙ sym (ap (λ (v : View). v.session) i))) (omega (arith, last, c.requires.ticket)) c.requires.within

pub push-requires-clause-learns : goal.push-requires-clause-learns
push-requires-clause-learns g c = waits _ _ (ap (λ (v : View). v.sends) c.self.invariant.1)
