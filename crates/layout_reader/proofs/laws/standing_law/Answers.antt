use Rattle.layout_reader.proofs.OneStateLemmas.{one_state}
use Rattle.layout_reader.proofs.laws.standing_law.Goals as goal

pub returns : goal.returns
returns g c = one_state g.L.Layout.form g.met.L.Layout.is_form
