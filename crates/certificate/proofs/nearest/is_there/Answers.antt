use Rattle.certificate.proofs.Words.{◌≡◌, rules, found, and_more, IsThere}
use Rattle.certificate.proofs.nearest.is_there.Goals as goal

pub returns-in-Some : goal.returns-in-Some
unfolding IsThere
returns-in-Some c = and_more _ (cc (c.is_landmark.ensures)) (found _ _ (λ e. e.distance ≡ c.args.near.distance) _ c.in-Some.ensures (search rules))
