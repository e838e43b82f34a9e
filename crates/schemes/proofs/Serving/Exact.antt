-- What the rules say of distances: the entries for a landmark are exact, and so are those of a cluster.
use Rattle.std.proofs.Common.{◌≡◌, ℕ, zero, suc, ◌+◌, ◌≤◌, ◌<◌, ◌⊎◌, inl, inr, true, sym, refl, ap, subst, ◌∙◌, arith}
use Rattle.std.specs.Prelude.{Option, Some, None}
use Rattle.std.proofs.lemmas.Bool.{both_ways, cases_Bool}
use Rattle.schemes.specs.Entry.{Entry}
use Rattle.landmarks.specs.declared.near.Near.{Near}
use Rattle.graph_edits.specs.Edges.{Network, IsSound, weight_in}
use Rattle.schemes.proofs.Basics.Options.{same_value, not_none}
use Rattle.schemes.proofs.Basics.Walks.{Walk, stay, go, IsShortest, edge_inside}
use Rattle.schemes.specs.Tables.{Tables}
use Rattle.schemes.specs.Checks.{IsClosed, HasParents, IsStrict, IsNearestThere}

-- the rules that speak of distances alone
pub record Distances (m : Network) (t : Tables) : Type 0 where
  pub sound : IsSound m
  pub own : (x : ℕ) → x < m.nodes → (e : Entry) × ((t.entry x x ≡ Some e) × ((e.distance ≡ 0) × (e.parent ≡ None)))
  pub parents : (x r : ℕ) (e : Entry) → t.entry x r ≡ Some e → (x ≡ r) ⊎ ((y : ℕ) × (e.parent ≡ Some y))
  pub inside : (x r : ℕ) (e : Entry) → t.entry x r ≡ Some e → r < m.nodes
  pub closed : IsClosed m t
  pub tight : HasParents m t
  pub strict : IsStrict t
  pub nearest : IsNearestThere t

module _ (m : Network) (t : Tables) (h : Distances m t) where
  -- from a node with an entry for a landmark, every walk leads to nodes with entries that are no farther than the walk is long
  pub reach : (u v r x : ℕ) (e : Entry) → t.landmark r ≡ true → t.entry u r ≡ Some e → Walk m u v x → (f : Entry) × ((t.entry v r ≡ Some f) × (f.distance ≤ e.distance + x))
  reach u v r x e l g (stay _ _) = (e, (g, omega arith))
  reach u v r x e l g (go _ w _ a y s rest) =
      elim (h.closed u w r a e g s) [
        | inl k ↦ (let f = reach w v r y k.0 l k.1.0 rest in (f.0, (f.1.0, omega (arith, k.1.1, f.1.1))))
        | inr k ↦ absurd (both_ways (t.landmark r) k.1.0 l)
      ]

  some_nearest : (v a : ℕ) (e : Entry) (o : Option Near) → t.nearest v ≡ o → t.landmark a ≡ true → t.entry v a ≡ Some e → (q : Near) × ((t.nearest v ≡ Some q) × (q.distance ≤ e.distance))
  some_nearest v a e None g l k = absurd (not_none k (h.nearest.none v a g l))
  some_nearest v a e (Some q) g l k = (q, (g, elim (h.nearest.least v a q e g l k) [ inl s ↦ omega arith | inr s ↦ omega (arith, s.0) ]))

  -- no landmark is nearer than the nearest one says
  pub nearest_least : (a v x : ℕ) → t.landmark a ≡ true → a < m.nodes → Walk m a v x → (q : Near) × ((t.nearest v ≡ Some q) × (q.distance ≤ x))
  nearest_least a v x l i w =
      let o = h.own a i in
      let f = reach a v a x o.0 l o.1.0 w in
      let q = some_nearest v a f.0 (t.nearest v) refl l f.1.0 in
      (q.0, (q.1.0, omega (arith, q.1.1, f.1.1, o.1.1.0)))

  -- the same in the tree of any root, but where a landmark is as near
  pub close : (u v r x : ℕ) (e : Entry) → t.entry u r ≡ Some e → Walk m u v x
      → ((f : Entry) × ((t.entry v r ≡ Some f) × (f.distance ≤ e.distance + x))) ⊎ ((q : Near) × ((t.nearest v ≡ Some q) × (q.distance ≤ e.distance + x)))
  close u v r x e g (stay _ _) = inl (e, (g, omega arith))
  close u v r x e g (go _ w _ a y s rest) =
      elim (h.closed u w r a e g s) [
        | inl k ↦ elim (close w v r y k.0 k.1.0 rest) [
          | inl f ↦ inl (f.0, (f.1.0, omega (arith, k.1.1, f.1.1)))
          | inr q ↦ inr (q.0, (q.1.0, omega (arith, k.1.1, q.1.1)))
        ]
        | inr k ↦ (
            let q = k.1.1 in
            let at = h.nearest.there w q.0 q.1.0 in
            let f = reach w v q.0.landmark y at.1.0 at.0 at.1.1.0 rest in
            let n = some_nearest v q.0.landmark f.0 (t.nearest v) refl at.0 f.1.0 in
            inr (n.0, (n.1.0, omega (arith, n.1.1, f.1.1, at.1.1.1, q.1.1))))
      ]

  append_edge : (u v w x a : ℕ) → Walk m u v x → weight_in m v w ≡ Some a → w < m.nodes → Walk m u w (x + a)
  append_edge u v w x a (stay _ _) s i = subst (Walk m u w) (omega arith) (go u w w a 0 s (stay w i))
  append_edge u v w x a (go _ z _ b y s0 rest) s i = subst (Walk m u w) (omega arith) (go u z w b (y + a) s0 (append_edge z v w y a rest s i))

  -- an entry's distance is the length of a walk
  pub real : (k : ℕ) (x r : ℕ) (e : Entry) → e.distance < k → t.entry x r ≡ Some e → Walk m r x e.distance
  real zero x r e lt g = absurd (omega arith)
  real (suc k) x r e lt g = elim (h.parents x r e g) [
    | inl s ↦ (
        let o = h.own r (h.inside x r e g) in
        let d : e.distance ≡ 0 = ap (λ (z : Entry). z.distance) (same_value g (subst (λ z. t.entry z r ≡ Some o.0) (sym s) o.1.0)) ∙ o.1.1.0 in
        subst (λ z. Walk m r z e.distance) (sym s) (subst (Walk m r r) (sym d) (stay r (h.inside x r e g))))
    | inr p ↦ (
        let c = (h.tight x p.0 r e g p.1).0 in
        let pos = edge_inside m h.sound p.0 x c.0 c.1.1.0 in
        let before = real k p.0 r c.1.0 (omega (arith, c.1.1.1.1, pos.1.1)) c.1.1.1.0 in
        subst (Walk m r x) (sym c.1.1.1.1) (append_edge r p.0 x c.1.0.distance c.0 before c.1.1.0 pos.1.0))
  ]

  -- entries are exact
  pub exact : (x r : ℕ) (e : Entry) → t.entry x r ≡ Some e → IsShortest m r x e.distance
  exact x r e g = record {
    walk = real (suc e.distance) x r e (omega arith) g;
    least = λ y w.
        let o = h.own r (h.inside x r e g) in
        elim (cases_Bool (t.landmark r)) [
          | inl l ↦ (let f = reach r x r y o.0 l o.1.0 w in let s = ap (λ (z : Entry). z.distance) (same_value g f.1.0) in omega (arith, f.1.1, o.1.1.0, s))
          | inr l ↦ elim (close r x r y o.0 o.1.0 w) [
            | inl f ↦ (let s = ap (λ (z : Entry). z.distance) (same_value g f.1.0) in omega (arith, f.1.1, o.1.1.0, s))
            | inr q ↦ (let s = h.strict x r e q.0 l g q.1.0 in omega (arith, q.1.1, o.1.1.0, s))
          ]
        ];
  }
