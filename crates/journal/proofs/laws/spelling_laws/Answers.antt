use Rattle.journal.proofs.Lists.{one_group, length_payload, one_list}
use Rattle.journal.proofs.laws.spelling_laws.Goals as goal

pub returns-clause-one_group : goal.returns-clause-one_group
returns-clause-one_group g c = one_group g.E.Entry.form g.met.E.Entry.is_form

pub returns-clause-sizes : goal.returns-clause-sizes
returns-clause-sizes g c = length_payload g.E.Entry.form g.met.E.Entry.is_form

pub returns-clause-one_list : goal.returns-clause-one_list
returns-clause-one_list g c = one_list g.E.Entry.form g.met.E.Entry.is_form
