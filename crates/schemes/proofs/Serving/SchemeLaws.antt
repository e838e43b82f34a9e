-- The laws of schemes, over the edge map's walks.
use Rattle.std.proofs.Common.{◌≡◌, ℕ, ◌<◌, inl, inr, refl, sym, ap, subst, ◌∙◌, arith}
use Rattle.std.specs.Prelude.{Option, Some, None, IsSome}
use Rattle.std.proofs.lemmas.Bool.{both_ways, cases_Bool}
use Rattle.graph_edits.specs.Edges.{Network, IsSound}
use Rattle.graph_edits.specs.Walks.{IsWalk, walk_length, IsLeast}
use Rattle.landmarks.specs.declared.near.Near.{Near}
use Rattle.schemes.specs.Tables.{Tables, tables}
use Rattle.schemes.specs.Laws.{CheckedServes, EntriesAreExact, EntriesAreTrees, NearestAreRight, NearestIsRight, IsInTree}
use Rattle.schemes.proofs.Basics.Walks.{Walk, IsShortest, walk_from, walk_of}
use Rattle.schemes.proofs.Serving.Exact.{Distances, exact}
use Rattle.schemes.proofs.Serving.Clusters.{landmark_tree, cluster, nearest_right, nearest_none}
use Rattle.schemes.proofs.Serving.CheckedLaw.{checked_serves, distances_of}
use Rattle.schemes.proofs.Basics.Options.{is_there}

-- the least length over walks by edges is the least over the edge map's walks
pub least_of : (m : Network) → IsSound m → (u v d : ℕ) → u < m.nodes → IsShortest m u v d → IsLeast m.edges (λ s. s ≡ u) v d
least_of m s u v d i h =
    let w = walk_of m u v d h.walk in
    record {
      attained = (u, (refl, (w.0, w.1)));
      least = λ z xs e k. (let k2 = subst (λ y. IsWalk m.edges y xs v) e k in
          let same : walk_length m.edges z xs ≡ walk_length m.edges u xs = ap (λ y. walk_length m.edges y xs) e in
          let l = h.least (walk_length m.edges u xs) (walk_from m u xs v i s k2) in omega (arith, l, same));
    }

pub shortest_of : (m : Network) → IsSound m → (u v d : ℕ) → u < m.nodes → IsLeast m.edges (λ s. s ≡ u) v d → IsShortest m u v d
shortest_of m s u v d i h =
    let at = h.attained in
    let k = subst (λ y. IsWalk m.edges y at.1.1.0 v) at.1.0 at.1.1.1.0 in
    let same : walk_length m.edges u at.1.1.0 ≡ d = ap (λ y. walk_length m.edges y at.1.1.0) (sym at.1.0) ∙ at.1.1.1.1 in
    record {
      walk = subst (Walk m u v) same (walk_from m u at.1.1.0 v i s k);
      least = λ y w. (let g = walk_of m u v y w in let l = h.least u g.0 refl g.1.0 in omega (arith, l, g.1.1));
    }

pub serves_law : CheckedServes
serves_law m p s h = checked_serves m s p h

pub exact_law : EntriesAreExact
exact_law m p s h x r e g =
    let d = distances_of m s p h in
    least_of m s r x e.distance (d.inside x r e g) (exact m (tables p) d x r e g)

module _ (m : Network) (t : Tables) (d : Distances m t) where
  there : (r x : ℕ) → IsSome (t.entry x r) → IsInTree m t.landmark r x
  there r x g =
      let e = is_there (t.entry x r) g in
      let i = d.inside x r e.0 e.1 in
      elim (cases_Bool (t.landmark r)) [
        | inl l ↦ (let w = (landmark_tree m t d r x i l).0 g in let k = walk_of m r x w.0 w.1 in (i, (k.0, (k.1.0, inl l))))
        | inr l ↦ (
            let w = (cluster m t d r x i l).0 g in
            let k = walk_of m r x w.0 w.1.0 in
            (i, (k.0, (k.1.0, inr (λ a ys j la v. (let far = w.1.1 a (walk_length m.edges a ys) j la (walk_from m a ys x j d.sound v) in omega (arith, far, k.1.1)))))))
      ]

  back : (r x : ℕ) → IsInTree m t.landmark r x → IsSome (t.entry x r)
  back r x h =
      let n = walk_length m.edges r h.1.0 in
      let w = walk_from m r h.1.0 x h.0 d.sound h.1.1.0 in
      elim (cases_Bool (t.landmark r)) [
        | inl l ↦ (landmark_tree m t d r x h.0 l).1 (n, w)
        | inr l ↦ (cluster m t d r x h.0 l).1 (
          n,
          (
            w,
            λ a y j la v.
                (let k = walk_of m a x y v in elim h.1.1.1 [
                  | inl bad ↦ absurd (both_ways (t.landmark r) l bad)
                  | inr near ↦ (let far = near a k.0 j la k.1.0 in omega (arith, far, k.1.1))
                ]),
          ),
        )
      ]

  near_is_right : (x : ℕ) (o : Option Near) → t.nearest x ≡ o → NearestIsRight m t.landmark x o
  near_is_right x None g = λ a ys j la v. nearest_none m t d x g a (walk_length m.edges a ys) j la (walk_from m a ys x j d.sound v)
  near_is_right x (Some q) g =
      let h = nearest_right m t d x q g in
      let at = d.nearest.there x q g in
      let i = d.inside x q.landmark at.1.0 at.1.1.0 in
      record {
        holds = h.0;
        distance = least_of m d.sound q.landmark x q.distance i h.1.0;
        nearest = λ a y j la s. h.1.1 a y j la (shortest_of m d.sound a x y j s);
      }

pub trees_law : EntriesAreTrees
trees_law m p s h x r = (let d = distances_of m s p h in (there m (tables p) d r x, back m (tables p) d r x))

pub nearest_law : NearestAreRight
nearest_law m p s h x = near_is_right m (tables p) (distances_of m s p h) x ((tables p).nearest x) refl
