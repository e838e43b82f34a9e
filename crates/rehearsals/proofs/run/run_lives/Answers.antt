use Rattle.rehearsals.proofs.run.run_lives.Goals as goal

pub returns-clause-reported : goal.returns-clause-reported
returns-clause-reported c =
    let told = rw c.in_ok-report.was at c.lives_in_memory-report.ensures.told in
    (c.lives_in_memory-report.result.1, record { disk = c.in_ok-disk.disk; formatted = c.in_ok-disk.ensures.formatted; told = told })
