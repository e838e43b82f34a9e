use Rattle.std.proofs.Common.{◌≡◌, ℕ, List, IfOk, ap, subst, sym, ◌∙◌}
use Rattle.std.specs.String.{string_bytes}
use Rattle.live_lines.specs.Answers.{answer_text}
use Rattle.live_lines.specs.Metrics.{metrics_text}
use Rattle.live_lines.proofs.answer.Answer.text.Goals as goal

pub returns-in-Metrics : goal.returns-in-Metrics
returns-in-Metrics c =
    let same : metrics_text c.deref.result.now ≡ answer_text c.args.self.now = ap metrics_text c.deref.ensures ∙ sym (ap answer_text c.in-Metrics.is) in
    subst (λ (line : List ℕ). IfOk c.metrics_line.result (λ text. string_bytes text ≡ line)) same c.metrics_line.ensures
