-- What a route between two nodes is answered with.
use Rattle.std.specs.Prelude.{◌≡◌, ◌⊎◌, ◌↔◌, ℕ, ◌<◌, ◌≤◌, Bool, List, Result, Err, IfOk, IsErrAnd, MatchResult, refl}
use Rattle.std.specs.Coded.{Coded, code_by, coded×, coded_list, coded_bool}
use Rattle.graph_edits.specs.Edges.{Network, network_code}
use Rattle.graph_edits.specs.Walks.{IsWalk}
use Rattle.schemes.specs.declared.trail.Trail.{Trail}
use Rattle.schemes.specs.Trails.{IsGoodTrail}
use Rattle.single_route.specs.LandmarkTrails.{IsApart, IsTrailBetween}
use Rattle.single_route.specs.declared.no_trail.NoTrail.{NoTrail}
use Rattle.single_route.specs.declared.no_trail.NoTrail.TheVariants.{NoNode, Unreachable, Memory}

-- what contracts see of routes: the network, and which of its nodes are landmarks
pub record Routes : Type 0 where
  pub graph : Network
  pub flags : List Bool

-- they are stored as the pair of the two
abbrev pub routes_code : Coded Routes
routes_code = code_by (Network × List Bool) (coded× network_code (coded_list coded_bool)) (λ r. (r.graph, r.flags)) (λ p. record { graph = p.0; flags = p.1 }) (λ _. refl)

-- What is answered for a route from u to v: the one trail under these landmarks, a good trip; that a node is none of the
-- network; that no walk leads from u to v; or that there was no memory.
pub record IsAnswer (m : Network) (flags : List Bool) (u v : ℕ) (answer : Result Trail NoTrail) : Type 0 where
  pub trail : IfOk answer (λ trail. IsTrailBetween m flags u v trail)
  pub good : IfOk answer (λ trail. IsGoodTrail m u v trail)
  pub no_node : (answer ≡ Err NoNode) ↔ ((m.nodes ≤ u) ⊎ (m.nodes ≤ v))
  pub connected : (xs : List ℕ) → u < m.nodes → v < m.nodes → IsWalk m.edges u xs v → MatchResult answer (λ trail. IsGoodTrail m u v trail) (λ e. e ≡ Memory)
  pub unreachable : answer ≡ Err Unreachable → IsApart m.edges u v
  pub apart : u < m.nodes → v < m.nodes → IsApart m.edges u v → IsErrAnd answer (λ e. (e ≡ Unreachable) ⊎ (e ≡ Memory))
