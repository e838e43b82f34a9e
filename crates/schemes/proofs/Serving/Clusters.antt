-- What the first five checks say of entries: they are the landmarks' trees and the clusters, and the nearest landmarks are right.
use Rattle.std.proofs.Common.{◌≡◌, ℕ, suc, ◌≤◌, ◌<◌, ◌⊎◌, inl, inr, true, false, subst, arith}
use Rattle.std.specs.Prelude.{Some, None, IsSome, ◌↔◌}
use Rattle.landmarks.specs.declared.near.Near.{Near}
use Rattle.graph_edits.specs.Edges.{Network}
use Rattle.schemes.proofs.Basics.Walks.{Walk, IsShortest}
use Rattle.schemes.specs.Tables.{Tables}
use Rattle.schemes.proofs.Serving.Exact.{Distances, exact, real, reach, close, nearest_least}
use Rattle.schemes.proofs.Basics.Options.{is_there, some_is, not_none}

-- every landmark that x can be walked to from is farther than d
abbrev pub IsFarther : Network → Tables → ℕ → ℕ → Type 0
IsFarther m t x d = (a y : ℕ) → a < m.nodes → t.landmark a ≡ true → Walk m a x y → d < y

module _ (m : Network) (t : Tables) (h : Distances m t) where
  -- a landmark's tree spans what it reaches
  pub landmark_tree : (r x : ℕ) → r < m.nodes → t.landmark r ≡ true → IsSome (t.entry x r) ↔ ((d : ℕ) × Walk m r x d)
  landmark_tree r x i l = (
    λ s. (let e = is_there (t.entry x r) s in (e.0.distance, real m t h (suc e.0.distance) x r e.0 (omega arith) e.1)),
    λ w. (let o = h.own r i in some_is (reach m t h r x r w.0 o.0 l o.1.0 w.1).1.0),
  )

  -- another node's tree spans its cluster
  pub cluster : (r x : ℕ) → r < m.nodes → t.landmark r ≡ false → IsSome (t.entry x r) ↔ ((d : ℕ) × (Walk m r x d × IsFarther m t x d))
  cluster r x i l = (
    λ s. (let e = is_there (t.entry x r) s in (
      e.0.distance,
      (
        real m t h (suc e.0.distance) x r e.0 (omega arith) e.1,
        λ a y j k w. (let q = nearest_least m t h a x y k j w in let b = h.strict x r e.0 q.0 l e.1 q.1.0 in omega (arith, b, q.1.1)),
      ),
    )),
    λ w. (let o = h.own r i in elim (close m t h r x r w.0 o.0 o.1.0 w.1.0) [
      | inl f ↦ some_is f.1.0
      | inr q ↦ absurd (
          let at = h.nearest.there x q.0 q.1.0 in
          let walk = real m t h (suc at.1.0.distance) x q.0.landmark at.1.0 (omega arith) at.1.1.0 in
          let b = w.1.1 q.0.landmark at.1.0.distance (h.inside x q.0.landmark at.1.0 at.1.1.0) at.0 walk in
          omega (arith, b, q.1.1, at.1.1.1, o.1.1.0))
    ]),
  )

  -- the nearest landmark, ties to the smaller number
  pub nearest_right : (x : ℕ) (q : Near) → t.nearest x ≡ Some q
      → (t.landmark q.landmark ≡ true) × (IsShortest m q.landmark x q.distance × ((a y : ℕ) → a < m.nodes → t.landmark a ≡ true → IsShortest m a x y → (q.distance < y) ⊎ ((q.distance ≡ y) × (q.landmark ≤ a))))
  nearest_right x q g =
      let at = h.nearest.there x q g in (
        at.0,
        (
          subst (IsShortest m q.landmark x) at.1.1.1 (exact m t h x q.landmark at.1.0 at.1.1.0),
          λ a y i l s. (
              let o = h.own a i in
              let f = reach m t h a x a y o.0 l o.1.0 s.walk in
              let sf = exact m t h x a f.0 f.1.0 in
              let d : f.0.distance ≡ y = (let u = sf.least y s.walk in let v = s.least f.0.distance sf.walk in omega (arith, u, v)) in
              subst (λ z. (q.distance < z) ⊎ ((q.distance ≡ z) × (q.landmark ≤ a))) d (h.nearest.least x a q f.0 g l f.1.0)),
        ),
      )

  pub nearest_none : (x : ℕ) → t.nearest x ≡ None → (a y : ℕ) → a < m.nodes → t.landmark a ≡ true → Walk m a x y → ⊥
  nearest_none x g a y i l w = not_none (nearest_least m t h a x y l i w).1.0 g
