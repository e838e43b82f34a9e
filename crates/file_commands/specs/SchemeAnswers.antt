-- What `route`, `check` and `tables` answer of a device, and by which scheme.
use Rattle.std.specs.Prelude.{◌≡◌, ℕ, ◌<◌, Bool, true, false, cond, List, [], ◌∷◌, Option, Some, None, All}
use Rattle.std.specs.List.{flat_map, list_all}
use Rattle.certificate.specs.declared.fault.Fault.{Fault}
use Rattle.value_syntax.specs.declared.words.LandmarkWords.{LandmarkWords}
use Rattle.value_syntax.specs.Words.{AreWords, IsWithin}
use Rattle.graph_edits.specs.Edges.{Network}
use Rattle.graph_edits.specs.Walks.{IsWalk}
use Rattle.landmarks.specs.Chosen.{IsBound, chosen}
use Rattle.schemes.specs.Checks.{IsChecked}
use Rattle.schemes.specs.Service.{address}
use Rattle.schemes.specs.Tables.{tables}
use Rattle.schemes.specs.Trails.{IsTrailOf}
use Rattle.schemes.specs.declared.parts.Parts.{Parts}
use Rattle.schemes.specs.declared.trail.Trail.{Trail}
use Rattle.scheme_builds.specs.declared.queries.Checked.{Checked}
use Rattle.scheme_builds.specs.declared.queries.Route.{Route}
use Rattle.scheme_builds.specs.declared.queries.Route.TheVariants.{Along, Unreachable}
use Rattle.scheme_builds.specs.Queries.{IsFaultIn, IsGoodRoute, IsLandmarkCount, IsSchemeOf}
use Rattle.single_route.specs.LandmarkTrails.{IsTrailBetween}
use Rattle.single_route.specs.TrailLaws.{IsSameTrail}
use Rattle.command_output.specs.declared.ended.Ended.{Ended}
use Rattle.command_output.specs.declared.ended.Ended.TheVariants.{Done, Refused}
use Rattle.certificate.specs.Faults.{fault_text}
use Rattle.command_output.specs.Lines.{line}
use Rattle.command_output.specs.RouteLines.{route_text, unreachable_text, checked_text, broken_text}

-- each pair is of two nodes, of n
abbrev pub AreNodes : ℕ → List (ℕ × ℕ) → Type 0
AreNodes n pairs = All (λ p. (p.0 < n) × (p.1 < n)) pairs

-- of n nodes those are landmarks that the words choose
abbrev pub AreChosenBy : ℕ → List ℕ → List Bool → Type 0
AreChosenBy n words flags = (bound : ℕ) × (IsBound n bound × (flags ≡ chosen bound words))

-- the trail of a route is the one that these landmarks give
abbrev pub IsTrailUnder : Network → List Bool → ℕ → ℕ → Route → Type 0
IsTrailUnder m flags u v (Along trail) = IsTrailBetween m flags u v trail
IsTrailUnder m flags u v Unreachable = Unit {0}

-- the route goes along this trail
abbrev pub GoesAlong : Route → Trail → Type 0
GoesAlong (Along trail) other = IsSameTrail trail other
GoesAlong Unreachable other = ⊥

-- What becomes of a packet from u to v under these landmarks: it goes along the one trail that they give, a good one, where a walk
-- leads from u to v, and it has none where none does. Every scheme with these landmarks that keeps all rules carries it so.
pub record IsRouteUnder (m : Network) (flags : List Bool) (u v : ℕ) (route : Route) : Type 0 where
  pub connected : (xs : List ℕ) → IsWalk m.edges u xs v → IsGoodRoute m u v route
  pub apart : ((xs : List ℕ) → IsWalk m.edges u xs v → ⊥) → route ≡ Unreachable
  pub trail : IsTrailUnder m flags u v route
  pub carried : (p : Parts) (other : Trail) → IsChecked m p → p.landmarks.items ≡ flags → IsTrailOf (tables p) u (address (tables p) v) other → GoesAlong route other

-- a route for each pair, in order, and no other
abbrev pub AreRoutesUnder : Network → List Bool → List (ℕ × ℕ) → List Route → Type 0
AreRoutesUnder m flags [] [] = Unit {0}
AreRoutesUnder m flags (p ∷ pairs) (route ∷ routes) = IsRouteUnder m flags p.0 p.1 route × AreRoutesUnder m flags pairs routes
AreRoutesUnder m flags pairs routes = ⊥

-- What becomes of a packet from the first node of each pair to the second, in a graph, by the words that were asked for.
pub record AreRoutesOf (graph : Network) (asked : LandmarkWords) (pairs : List (ℕ × ℕ)) (routes : List Route) : Type 0 where
  pub nodes : AreNodes graph.nodes pairs
  pub within : IsWithin asked graph.nodes
  pub words : List ℕ
  pub are : AreWords asked graph.nodes words
  pub flags : List Bool
  pub landmarks : AreChosenBy graph.nodes words flags
  pub each : AreRoutesUnder graph flags pairs routes

-- What the checks say of the scheme of a graph by the words that were asked for: none fails, and the landmarks are those that the
-- words choose.
pub record IsCheckOf (graph : Network) (generation : ℕ) (asked : LandmarkWords) (checked : Checked) : Type 0 where
  pub within : IsWithin asked graph.nodes
  pub passes : checked.fault ≡ None
  pub count : (words : List ℕ) × (AreWords asked graph.nodes words × IsLandmarkCount graph words checked.landmarks)
  pub scheme : (words : List ℕ) × (AreWords asked graph.nodes words × ((p : Parts) × (IsSchemeOf graph words generation p × IsFaultIn graph p checked.fault)))

-- a scheme of a graph, of this generation, by the words that were asked for
pub record IsSchemeBy (graph : Network) (generation : ℕ) (asked : LandmarkWords) (p : Parts) : Type 0 where
  pub within : IsWithin asked graph.nodes
  pub words : List ℕ
  pub are : AreWords asked graph.nodes words
  pub scheme : IsSchemeOf graph words generation p

-- whether a route goes along a trail
abbrev pub is_along : Route → Bool
is_along (Along trail) = true
is_along Unreachable = false

-- how a command ends that answers these routes: well only where each goes along a trail
abbrev pub ended_after : List Route → Ended
ended_after routes = cond (list_all is_along routes) Done Refused

-- the text of a route
abbrev pub answered_text : ℕ → Route → List ℕ
answered_text generation (Along trail) = route_text generation trail.nodes.items trail.length
answered_text generation Unreachable = unreachable_text generation

-- the lines of routes
abbrev pub routes_text : ℕ → List Route → List ℕ
routes_text generation routes = flat_map (λ route. line (answered_text generation route)) routes

-- how a command ends that answers this first failing check
abbrev pub ended_at : Option Fault → Ended
ended_at None = Done
ended_at (Some fault) = Refused

-- the text of a check
abbrev pub checks_text : ℕ → ℕ → Option Fault → List ℕ
checks_text generation landmarks None = checked_text generation landmarks
checks_text generation landmarks (Some fault) = broken_text (fault_text fault)
