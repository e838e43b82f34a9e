use Rattle.single_route.proofs.TrailLaws.{trails_good, trails_one}
use Rattle.single_route.proofs.CarriedTrails.{carried_trails}
use Rattle.single_route.proofs.laws.trail_laws.Goals as goal

pub returns-clause-one : goal.returns-clause-one
returns-clause-one c = trails_one

pub returns-clause-good : goal.returns-clause-good
returns-clause-good c = trails_good

pub returns-clause-carried : goal.returns-clause-carried
returns-clause-carried c = carried_trails
