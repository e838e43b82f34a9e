use Rattle.std.proofs.Common.{subst, ℕ}
use mathlib.Core.Logic.{∥∥₁_elim, ∥∥₁_prop}
use Rattle.line_exchange.proofs.Answering.{answers_known}
use Rattle.line_workers.specs.Submits.{NotesAnswer}
use Rattle.line_workers.proofs.editing.answered.Goals as goal

pub invariant_of-answered : goal.invariant_of-answered
invariant_of-answered g c =
    let never = c.in_ok-editor.ensures.never in
    record {
      named = c.known.ensures.named;
      is_answer = ∥∥₁_elim c.in_ok-editor.ensures.said ∥∥₁_prop
          (λ said. answers_known c.known.result c.in_ok-editor.editor.editor.known g.J.Stream.input g.J.Stream.editors c.args.ask.place c.args.ask.asked c.in_ok-editor.answer c.known.ensures.same c.args.ask.is_line
          (record { fits = c.in_ok-editor.ensures.fits; said = said; off = λ gone. absurd (never gone) }));
      is_off = λ gone. absurd (never gone);
    }

pub returns-clause-noted : goal.returns-clause-noted
returns-clause-noted g c = subst (λ (s : ℕ). NotesAnswer s c.args.ask.place c.in_ok-editor.answer c.args.noted.now c.in-Some.more) c.session-session.ensures c.in-Some.ensures
