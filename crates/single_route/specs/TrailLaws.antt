-- What holds of the trails under given landmarks: statements that `trail_laws` proves.
use Rattle.std.specs.Prelude.{◌≡◌, ℕ, ◌<◌, Bool, List}
use Rattle.graph_edits.specs.Edges.{Network, IsSound}
use Rattle.schemes.specs.declared.parts.Parts.{Parts}
use Rattle.schemes.specs.declared.trail.Trail.{Trail}
use Rattle.schemes.specs.Checks.{IsChecked}
use Rattle.schemes.specs.Service.{address}
use Rattle.schemes.specs.Tables.{tables}
use Rattle.schemes.specs.Trails.{IsGoodTrail, IsTrailOf}
use Rattle.single_route.specs.LandmarkTrails.{IsTrailBetween}

-- two trails that are the same: over the same nodes, by the same ports, as long
pub record IsSameTrail (a b : Trail) : Type 0 where
  pub nodes : a.nodes.items ≡ b.nodes.items
  pub ports : a.ports.items ≡ b.ports.items
  pub length : a.length ≡ b.length

-- there is at most one trail between two nodes
abbrev pub TrailsAreOne : Type 0
TrailsAreOne = (m : Network) (flags : List Bool) (u v : ℕ) (a b : Trail) → IsSound m → IsTrailBetween m flags u v a → IsTrailBetween m flags u v b → IsSameTrail a b

-- a trail is a good trip: at most three times as long as every walk
abbrev pub TrailsAreGood : Type 0
TrailsAreGood = (m : Network) (flags : List Bool) (u v : ℕ) (trail : Trail) → IsSound m → u < m.nodes → v < m.nodes → IsTrailBetween m flags u v trail → IsGoodTrail m u v trail

-- a packet to a node's own address is carried over this trail, by any scheme that keeps all rules
abbrev pub CarriedTrailsAreThese : Type 0
CarriedTrailsAreThese = (m : Network) (p : Parts) (u v : ℕ) (trail : Trail) → IsSound m → IsChecked m p → u < m.nodes → v < m.nodes
    → IsTrailOf (tables p) u (address (tables p) v) trail → IsTrailBetween m p.landmarks.items u v trail
