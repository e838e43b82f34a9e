-- What a scheme's carrying is worth as an answer.
use Rattle.std.specs.Prelude.{◌≡◌, ℕ, List, Result, Err, IfOk, MatchResult}
use Rattle.graph_edits.specs.Edges.{Network}
use Rattle.graph_edits.specs.Walks.{IsWalk}
use Rattle.schemes.specs.declared.parts.Parts.{Parts}
use Rattle.schemes.specs.declared.trail.Trail.{Trail}
use Rattle.schemes.specs.declared.trail.CarryRefused.{CarryRefused}
use Rattle.schemes.specs.declared.trail.CarryRefused.TheVariants.{Unreachable, Memory}
use Rattle.schemes.specs.Service.{address}
use Rattle.schemes.specs.Tables.{tables}
use Rattle.schemes.specs.Trails.{IsGoodTrail, IsTrailOf}

-- a packet was carried from u to v's own address: over a good trail where a walk leads there, unless memory ran out, and
-- nowhere where none does
pub record IsCarried (m : Network) (p : Parts) (u v : ℕ) (result : Result Trail CarryRefused) : Type 0 where
  pub trail : IfOk result (λ trail. IsTrailOf (tables p) u (address (tables p) v) trail)
  pub connected : (xs : List ℕ) → IsWalk m.edges u xs v → MatchResult result (λ trail. IsGoodTrail m u v trail) (λ e. e ≡ Memory)
  pub apart : ((xs : List ℕ) → IsWalk m.edges u xs v → ⊥) → result ≡ Err Unreachable
