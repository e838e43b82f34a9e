-- What a query of a graph under landmark words answers.
use Rattle.std.specs.Prelude.{◌≡◌, ℕ, List, Result, Option, Some, None, IfOk}
use Rattle.std.specs.declared.alloc.AllocError.{AllocError}
use Rattle.graph_edits.specs.Edges.{Network}
pub use Rattle.scheme_builds.specs.Schemes.{IsSchemeOf, IsLandmarkCount}
use Rattle.schemes.specs.declared.parts.Parts.{Parts}
use Rattle.schemes.specs.Checks.{IsChecked, IsFirstFault}
use Rattle.certificate.specs.declared.fault.Fault.{Fault}
use Rattle.certificate.specs.Faults.{rule_of}
use Rattle.schemes.specs.Trails.{IsGoodTrail}
use Rattle.scheme_builds.specs.declared.queries.Route.{Route}
use Rattle.scheme_builds.specs.declared.queries.Route.TheVariants.{Along, Unreachable}
use Rattle.scheme_builds.specs.declared.queries.Checked.{Checked}

-- the route is a good trail from u to v
abbrev pub IsGoodRoute : Network → ℕ → ℕ → Route → Type 0
IsGoodRoute m u v (Along trail) = IsGoodTrail m u v trail
IsGoodRoute m u v Unreachable = ⊥

-- what the checks say of a scheme: nothing where all rules hold, else the first that fails
abbrev pub IsFaultIn : Network → Parts → Option Fault → Type 0
IsFaultIn m p None = IsChecked m p
IsFaultIn m p (Some fault) = IsFirstFault m p (rule_of fault)

-- no check fails, the landmarks are those that the words give, and it is a scheme of this generation that was checked
pub record IsCheckAnswer (m : Network) (words : List ℕ) (generation : ℕ) (answer : Result Checked AllocError) : Type 0 where
  pub passes : IfOk answer (λ checked. checked.fault ≡ None)
  pub count : IfOk answer (λ checked. IsLandmarkCount m words checked.landmarks)
  pub scheme : IfOk answer (λ checked. (p : Parts) × (IsSchemeOf m words generation p × IsFaultIn m p checked.fault))
