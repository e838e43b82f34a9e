-- Routes, one behind the other.
use Rattle.std.proofs.Common.{◌<◌, ℕ, Bool, List, [], ◌∷◌, ◌++◌, refl, subst, Ok, Err}
use Rattle.graph_edits.specs.Edges.{Network, IsSound}
use Rattle.schemes.specs.Trails.{IsGoodTrail}
use Rattle.schemes.specs.declared.trail.Trail.{Trail}
use Rattle.scheme_builds.specs.declared.queries.Route.{Route}
use Rattle.scheme_builds.specs.declared.queries.Route.TheVariants.{Along, Unreachable}
use Rattle.single_route.specs.Answers.{IsAnswer}
use Rattle.single_route.specs.LandmarkTrails.{IsTrailBetween}
use Rattle.single_route.specs.TrailLaws.{CarriedTrailsAreThese, TrailsAreGood, TrailsAreOne}
use Rattle.single_route.specs.declared.no_trail.NoTrail.TheVariants.{Unreachable as NotReached}
use Rattle.file_commands.specs.SchemeAnswers.{AreRoutesUnder, IsRouteUnder}

-- a trail that was found is a route
pub trail_routes : (m : Network) (flags : List Bool) (u v : ℕ) (trail : Trail) → IsSound m → u < m.nodes → v < m.nodes → TrailsAreOne → CarriedTrailsAreThese → IsAnswer m flags u v (Ok trail)
    → IsRouteUnder m flags u v (Along trail)
trail_routes m flags u v trail sound from to one carried is = record {
  connected = λ xs walk. is.good;
  apart = λ none. absurd (none is.good.trip is.good.good.walk);
  trail = is.trail;
  carried = λ p other checked same there.
      one m flags u v trail other sound is.trail (subst (λ (f : List Bool). IsTrailBetween m f u v other) same (carried m p u v other sound checked from to there));
}

-- and so is that there is none
pub none_routes : (m : Network) (flags : List Bool) (u v : ℕ) → IsSound m → u < m.nodes → v < m.nodes → TrailsAreGood → CarriedTrailsAreThese → IsAnswer m flags u v (Err NotReached)
    → IsRouteUnder m flags u v Unreachable
none_routes m flags u v sound from to good carried is = record {
  connected = λ xs walk. absurd (is.unreachable refl xs walk);
  apart = λ none. refl;
  trail = tt;
  carried = λ p other checked same there.
      let trip : IsGoodTrail m u v other = good m p.landmarks.items u v other sound from to (carried m p u v other sound checked from to there) in
      is.unreachable refl trip.trip trip.good.walk;
}

-- routes of pairs, and one more of each
pub one_route_more : (m : Network) (flags : List Bool) (pairs : List (ℕ × ℕ)) (routes : List Route) (p : ℕ × ℕ) (route : Route) → AreRoutesUnder m flags pairs routes → IsRouteUnder m flags p.0 p.1 route
    → AreRoutesUnder m flags (pairs ++ p ∷ []) (routes ++ route ∷ [])
one_route_more m flags [] [] p route are is = (is, tt)
one_route_more m flags [] (r ∷ routes) p route are is = absurd are
one_route_more m flags (q ∷ pairs) [] p route are is = absurd are
one_route_more m flags (q ∷ pairs) (r ∷ routes) p route are is = (are.0, one_route_more m flags pairs routes p route are.1 is)
