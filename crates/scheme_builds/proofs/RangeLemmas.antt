-- Ranges one by one: the first of those that are left, those behind it, and the roots of all.
use Rattle.std.proofs.Common.{◌≡◌, ℕ, suc, ◌+◌, ◌*◌, ◌<◌, ◌≤◌, sym, ap, subst, arith, List, [], ◌∷◌, ◌++◌, length, take, drop}
use Rattle.std.specs.Prelude.{Result, Ok, slice_index_or}
use Rattle.std.specs.declared.alloc.AllocError.{AllocError}
use Rattle.schemes.specs.declared.parts.Parts.{Parts}
use Rattle.scheme_builds.specs.declared.ranges.Task.{Task}
use Rattle.scheme_builds.specs.Ranges.{bound_at, IsBuilt, IsRange, AreRanges}

module _ (task : Task) (size : ℕ) where
  -- the first of these ranges
  pub first_range : (i : ℕ) (made : List (Result Parts AllocError)) (r : Result Parts AllocError) → AreRanges task size i made → 0 < length made → r ≡ slice_index_or made 0 r → IsRange task size i r
  first_range i [] r h l e = absurd (omega (arith, l))
  first_range i (x ∷ xs) r h l e = subst (IsRange task size i) (sym e) h.0

  -- those behind the first
  pub other_ranges : (i : ℕ) (made rest : List (Result Parts AllocError)) → AreRanges task size i made → 0 < length made → rest ≡ take 0 made ++ drop (0 + 1) made → AreRanges task size (i + 1) rest
  other_ranges i [] rest h l e = absurd (omega (arith, l))
  other_ranges i (x ∷ xs) rest h l e = subst (AreRanges task size (i + 1)) (sym e) h.1

  -- ranges that are known place by place
  pub each_range : (made : List (Result Parts AllocError)) (i : ℕ) → ((k : ℕ) (d : Result Parts AllocError) → k < length made → IsRange task size (i + k) (slice_index_or made k d)) → AreRanges task size i made
  each_range [] i h = tt
  each_range (x ∷ xs) i h = (
    subst (λ k. IsRange task size k x) (let e : i + 0 ≡ i = omega arith in e) (h 0 x (omega arith)),
    each_range xs (i + 1) (λ k d l. subst (λ j. IsRange task size j (slice_index_or xs k d)) (let e : i + suc k ≡ i + 1 + k = omega arith in e) (h (suc k) d (omega (arith, l)))),
  )

  -- a range that is there
  pub made_range : (i : ℕ) (r : Result Parts AllocError) (p : Parts) → r ≡ Ok p → IsRange task size i r → IsBuilt task p (bound_at task.survey.graph.now size i) (bound_at task.survey.graph.now size (i + 1))
  made_range i r p e h = (let k = subst (IsRange task size i) e h in k)

  pub bounds_rise : (i : ℕ) → bound_at task.survey.graph.now size i ≤ bound_at task.survey.graph.now size (i + 1)
  bounds_rise i = (let e : (i + 1) * size ≡ i * size + size = omega arith in omega (arith, e))

  -- the last range ends with the last root
  pub last_bound : (count : ℕ) → task.survey.graph.now.nodes ≤ count * size → bound_at task.survey.graph.now size count ≡ task.survey.graph.now.nodes
  last_bound count l = omega (arith, l)

-- one fewer is left
pub one_fewer : {X : Type 0} (made rest : List X) → 0 < length made → rest ≡ take 0 made ++ drop (0 + 1) made → length rest + 1 ≡ length made
one_fewer [] rest l e = absurd (omega (arith, l))
one_fewer (x ∷ xs) rest l e = (let k = ap length e in omega (arith, k))
