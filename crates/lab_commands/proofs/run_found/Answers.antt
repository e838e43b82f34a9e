use Rattle.std.proofs.Common.{codes, inl, inr, refl}
use Rattle.lab_parts.specs.Words.{rows_in}
use Rattle.lab_commands.proofs.Parsing.{named}
use Rattle.lab_commands.proofs.run_found.Goals as goal

pub returns-in-Some-load-default-clause-printed : goal.returns-in-Some-load-default-clause-printed
returns-in-Some-load-default-clause-printed g c = λ zero.
    (codes "load", rows_in c.in-Some-load-default.found.now, named _ _ _ _ c.in-Some-load-default.ensures.name c.in-Some-load-default.is-load c.in-Some-load-default.ensures.rows, inr (inl (inl (refl, c.run.ensures.printed zero))))

pub returns-in-Some-grow-default-clause-printed : goal.returns-in-Some-grow-default-clause-printed
returns-in-Some-grow-default-clause-printed g c = λ zero.
    (codes "grow", rows_in c.in-Some-grow-default.found.now, named _ _ _ _ c.in-Some-grow-default.ensures.name c.in-Some-grow-default.is-grow c.in-Some-grow-default.ensures.rows, inr (inl (inr (refl, c.run-in-Some-grow-default.ensures.printed zero))))

pub returns-in-Some-info-default-clause-printed : goal.returns-in-Some-info-default-clause-printed
returns-in-Some-info-default-clause-printed g c = λ zero.
    (codes "info", rows_in c.in-Some-info-default.found.now, named _ _ _ _ c.in-Some-info-default.ensures.name c.in-Some-info-default.is-info c.in-Some-info-default.ensures.rows, inl (inl (refl, c.run-in-Some-info-default.ensures.printed zero)))

pub returns-in-Some-journal-default-clause-printed : goal.returns-in-Some-journal-default-clause-printed
returns-in-Some-journal-default-clause-printed g c = λ zero.
    (codes "journal", rows_in c.in-Some-journal-default.found.now, named _ _ _ _ c.in-Some-journal-default.ensures.name c.in-Some-journal-default.is-journal c.in-Some-journal-default.ensures.rows, inl (inr (inl (refl, c.run-in-Some-journal-default.ensures.printed zero))))

pub returns-in-Some-landmarks-default-clause-printed : goal.returns-in-Some-landmarks-default-clause-printed
returns-in-Some-landmarks-default-clause-printed g c = λ zero.
    (codes "landmarks", rows_in c.in-Some-landmarks-default.found.now, named _ _ _ _ c.in-Some-landmarks-default.ensures.name c.in-Some-landmarks-default.is-landmarks c.in-Some-landmarks-default.ensures.rows, inl (inr (inr (refl, c.run-in-Some-landmarks-default.ensures.printed zero))))

pub returns-in-Some-rehearse-default-clause-printed : goal.returns-in-Some-rehearse-default-clause-printed
returns-in-Some-rehearse-default-clause-printed g c = λ zero.
    (codes "rehearse", rows_in c.in-Some-rehearse-default.found.now, named _ _ _ _ c.in-Some-rehearse-default.ensures.name c.in-Some-rehearse-default.is-rehearse c.in-Some-rehearse-default.ensures.rows, inr (inr (refl, c.run-in-Some-rehearse-default.ensures.printed zero)))
