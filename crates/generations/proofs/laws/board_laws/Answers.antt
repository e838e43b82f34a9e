use Rattle.generations.proofs.Lawfulness.{lawful_first, lawful_push, accepted_as_told, count_as_told}
use Rattle.generations.proofs.laws.board_laws.Goals as goal

pub returns-clause-beginning : goal.returns-clause-beginning
returns-clause-beginning c = lawful_first

pub returns-clause-next : goal.returns-clause-next
returns-clause-next c = lawful_push

pub returns-clause-accepted : goal.returns-clause-accepted
returns-clause-accepted c = accepted_as_told

pub returns-clause-count : goal.returns-clause-count
returns-clause-count c = count_as_told
