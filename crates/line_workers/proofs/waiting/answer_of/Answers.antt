use Rattle.std.proofs.Common.{sym, subst}
use Rattle.live_lines.specs.declared.asked.Asked.{Asked}
use Rattle.line_exchange.specs.OneList.{AnswersBy}
use Rattle.line_workers.proofs.waiting.answer_of.Goals as goal

pub returns-in-Backup-clause-answers : goal.returns-in-Backup-clause-answers
returns-in-Backup-clause-answers g c =
    subst (λ (asked : Asked). AnswersBy c.backed_of.result.1 asked c.backed_of.result.0) (sym c.in-Backup.is) (c.backed_of.ensures.answers c.in-Backup.file)
