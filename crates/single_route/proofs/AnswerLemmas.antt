-- What is answered for a route.
use Rattle.std.proofs.Common.{◌≡◌, ◌⊎◌, inl, inr, ◌<◌, ◌≤◌, ℕ, Bool, List, refl, arith}
use Rattle.std.specs.Prelude.{Result, Ok, Err}
use Rattle.graph_edits.specs.Edges.{Network, IsSound}
use Rattle.graph_edits.specs.Walks.{IsWalk}
use Rattle.schemes.specs.declared.trail.Trail.{Trail}
use Rattle.single_route.specs.LandmarkTrails.{IsTrailBetween}
use Rattle.single_route.specs.Answers.{IsAnswer}
use Rattle.single_route.specs.declared.no_trail.NoTrail.TheVariants.{NoNode, Unreachable, Memory}
use Rattle.single_route.proofs.TrailLaws.{trails_good}

no_outside : (m : Network) (u v : ℕ) → u < m.nodes → v < m.nodes → (m.nodes ≤ u) ⊎ (m.nodes ≤ v) → ⊥
no_outside m u v i j (inl le) = omega arith
no_outside m u v i j (inr le) = omega arith

module _ (m : Network) (flags : List Bool) (u v : ℕ) (i : u < m.nodes) (j : v < m.nodes) where
  pub trail_answers : IsSound m → (trail : Trail) → IsTrailBetween m flags u v trail → IsAnswer m flags u v (Ok trail)
  trail_answers sound trail t =
      let good = trails_good m flags u v trail sound i j t in
      record {
        trail = t;
        good = good;
        no_node = (λ e. absurd (let k : Result.Ok trail ≡ Err NoNode = e in cc), λ out. absurd (no_outside m u v i j out));
        connected = λ _ _ _ _. good;
        unreachable = λ e. absurd (cc);
        apart = λ _ _ none. absurd (none good.trip good.good.walk);
      }

  pub unreachable_answers : ((xs : List ℕ) → IsWalk m.edges u xs v → ⊥) → IsAnswer m flags u v (Err Unreachable)
  unreachable_answers none = record {
    trail = tt;
    good = tt;
    no_node = (λ e. absurd (cc), λ out. absurd (no_outside m u v i j out));
    connected = λ xs _ _ walk. absurd (none xs walk);
    unreachable = λ _. none;
    apart = λ _ _ _. inl refl;
  }

  pub memory_answers : IsAnswer m flags u v (Err Memory)
  memory_answers = record {
    trail = tt;
    good = tt;
    no_node = (λ e. absurd (cc), λ out. absurd (no_outside m u v i j out));
    connected = λ _ _ _ _. refl;
    unreachable = λ e. absurd (cc);
    apart = λ _ _ _. inr refl;
  }
