use Rattle.std.proofs.Common.{ap, refl}
use Rattle.std.proofs.lemmas.Option.{same_Some}
use Rattle.table_view.specs.declared.answers.Figures.{Figures}
use Rattle.tz_c.specs.Codes.{info_from}
use Rattle.tz_c.proofs.tz_table_info.Goals as goal

pub returns-clause-told : goal.returns-clause-told
returns-clause-told c a spelled = (refl, ap info_from (same_Some {A = Figures} _ _ (c.in-Some.ensures a spelled)))
