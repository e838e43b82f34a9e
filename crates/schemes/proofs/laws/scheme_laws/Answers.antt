use Rattle.schemes.proofs.Serving.SchemeLaws.{serves_law, exact_law, trees_law, nearest_law}
use Rattle.schemes.proofs.OnTheWay.WayLaws.{course_law, end_law}
use Rattle.schemes.proofs.laws.scheme_laws.Goals as goal

pub returns : goal.returns
returns c = record { serves = serves_law; exact = exact_law; trees = trees_law; nearest = nearest_law; course = course_law; ends = end_law }
