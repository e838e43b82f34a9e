use Rattle.request_lists.proofs.Steps.{listed_first, listed_filled, listed_marks, listed_down, listed_built, listed_earlier, listed_beside}
use Rattle.request_lists.proofs.Posted.{posted_first}
use Rattle.request_lists.proofs.settled_lists_law.Goals as goal

pub returns-clause-begins : goal.returns-clause-begins
returns-clause-begins c builds = listed_first

pub returns-clause-taken : goal.returns-clause-taken
returns-clause-taken c builds = listed_filled

pub returns-clause-marks : goal.returns-clause-marks
returns-clause-marks c builds = listed_marks

pub returns-clause-failure : goal.returns-clause-failure
returns-clause-failure c builds = listed_down

pub returns-clause-generation : goal.returns-clause-generation
returns-clause-generation c builds = listed_built

pub returns-clause-earlier : goal.returns-clause-earlier
returns-clause-earlier c = listed_earlier

pub returns-clause-beside : goal.returns-clause-beside
returns-clause-beside c = listed_beside

pub returns-clause-posted : goal.returns-clause-posted
returns-clause-posted c builds = posted_first
