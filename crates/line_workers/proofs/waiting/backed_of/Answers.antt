use Rattle.std.proofs.Common.{◌∙◌}
use Rattle.line_workers.proofs.Standing.{backup_said, no_backup_said, told_said}
use Rattle.line_workers.proofs.waiting.backed_of.Goals as goal

pub returns-in-Ok-clause-answers : goal.returns-in-Ok-clause-answers
returns-in-Ok-clause-answers g c file =
    let stand = c.args.backed.now.stand in
    told_said c.history-known.result stand.told (c.history-known.ensures ∙ c.told.ensures.same) (backup_said stand.told stand.count stand.counted file)

pub returns-in-Err-clause-answers : goal.returns-in-Err-clause-answers
returns-in-Err-clause-answers g c = no_backup_said c.history-known.result c.in-Err.refused
