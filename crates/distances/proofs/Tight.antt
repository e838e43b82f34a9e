-- The edges over which a distance is attained.
use Rattle.std.proofs.Common.{◌≡◌, ℕ, ◌+◌, true, inl, inr, List, [], ◌∷◌, ◌++◌, Option, Some, sym, ◌∙◌, subst, arith}
use Rattle.graph_edits.specs.Edges.{EdgeMap, weight_between}
use Rattle.graph_edits.specs.Walks.{IsWalk, walk_length, IsLeast}
use Rattle.graph_edits.specs.Laws.{IsWalk-push, weight_between-sym}
use Rattle.distances.specs.Search.{is_below, AreGentle}
use Rattle.distances.specs.Laws.{last_edge}
use Rattle.distances.specs.Table.{IsTable, IsTightBy}

module _ (m : EdgeMap) (Source : ℕ → Type 0) (limit number : ℕ → Option ℕ) (table : IsTable m Source limit number) (gentle : AreGentle m limit) (x d : ℕ) (is : number x ≡ Some d) where
  here : IsLeast m Source x d
  here = (table.exact x d is).0

  -- an edge at the end of a least walk comes from a node whose number fits
  pub tight_from : (s y w : ℕ) (ys : List ℕ) → Source s → IsWalk m s ys y → weight_between m y x ≡ Some w → walk_length m s ys + w ≡ d → (e : ℕ) × ((number y ≡ Some e) × (e + w ≡ d) × (e ≡ walk_length m s ys))
  tight_from s y w ys source walk edge sum =
      let close = gentle y x w (walk_length m s ys) edge (subst (λ k. is_below k (limit x) ≡ true) (sym sum) (table.exact x d is).1) in
      let e = table.complete s y ys source walk close in
      let at = (table.exact y e.0 e.1).0 in
      let le = at.least s ys source walk in
      let a = at.attained in
      let q = IsWalk-push m a.0 a.1.1.0 y x w a.1.1.1.0 edge in
      let ge = here.least a.0 (a.1.1.0 ++ x ∷ []) a.1.0 q.0 in
      (e.0, (e.1, omega (arith, le, ge, q.1, a.1.1.1.1, sum), omega (arith, le, ge, q.1, a.1.1.1.1, sum)))

  pub tight_exists : (Source x → ⊥) → (y : ℕ) × IsTightBy m number x d y
  tight_exists other =
      let a = here.attained in
      elim (last_edge m a.0 a.1.1.0 x a.1.1.1.0) [
        | inl e ↦ absurd (other (subst Source e a.1.0))
        | inr r ↦
            let t = tight_from a.0 r.0 r.1.0 r.1.1.0 a.1.0 r.1.1.1.0 r.1.1.1.1 (r.1.1.1.2 ∙ a.1.1.1.1) in
            (r.0, (t.0, (r.1.0, (t.1.0, weight_between-sym m x r.0 ∙ r.1.1.1.1, t.1.1))))
      ]
