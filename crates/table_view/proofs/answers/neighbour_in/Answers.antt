use Rattle.std.proofs.Common.{ap, ◌∙◌, ℕ, Option, Some}
use Rattle.table_view.proofs.Entries.{port_out}
use Rattle.table_view.proofs.Places.{has_parts, its_parts}
use Rattle.table_view.proofs.answers.neighbour_in.Goals as goal

pub returns-in_err-count : goal.returns-in_err-count
returns-in_err-count c a spelled = absurd (has_parts c.args.table.now a spelled c.in_err-count.ensures.parts)

pub returns : goal.returns
returns c a spelled = ap (λ (o : Option ℕ). Some o) (c.port_in.ensures ∙ port_out a spelled.fits _ (its_parts c.args.table.now a _ spelled c.in_ok-count.ensures.parts) c.args.port)
