-- The law: tables that keep all rules serve the network.
use Rattle.std.proofs.Common.{◌≡◌, ℕ, suc, ◌+◌, ◌≤◌, ◌<◌, ◌⊎◌, inl, inr, true, false, refl, sym, ap, subst, ◌∙◌, arith, List, [], ◌∷◌, nat_lt, ◌==◌}
use Rattle.std.specs.Prelude.{Option, Some, None, Ok, Err, IsSome, slice_get}
use Rattle.std.proofs.lemmas.Bool.{cases_Bool, cases_eq, cond_both, eqb-true, lt-ltb}
use Rattle.heavy_labels.specs.Label.{Label}
use Rattle.schemes.specs.declared.parts.Parts.{Parts}
use Rattle.schemes.specs.Entry.{Entry}
use Rattle.schemes.specs.declared.parts.Listed.{Listed}
use Rattle.landmarks.specs.declared.near.Near.{Near}
use Rattle.graph_edits.specs.Edges.{Network, IsSound}
use Rattle.schemes.proofs.Basics.Walks.{walk_from, Walk, stay, go, symmetric, edge_inside}
use Rattle.schemes.specs.Tables.{Tables, tables, directory_at, first_listed}
use Rattle.schemes.specs.Checks.{Fault, Holds, number_of, IsChecked, HasRecords, IsLabelIn, IsListed, k1, k2, k3, k4, k5, k6, k7, k8}
use Rattle.graph_edits.specs.Walks.{IsWalk, walk_length}
use Rattle.schemes.specs.declared.packet.Packet.{Packet}
use Rattle.schemes.specs.declared.packet.Refused.TheVariants.{Unreachable}
use Rattle.schemes.specs.Service.{Serves, Arrives, IsGoodTrip, address, packet_by, decide}
use Rattle.schemes.specs.Trails.{AreMeasured}
use Rattle.schemes.proofs.Serving.StepsAsMoves.{Ports, Passes}
use Rattle.schemes.proofs.Serving.Moves.{ported}
use Rattle.schemes.proofs.Serving.Exact.{Distances, exact, real, reach, close, nearest_least}
use Rattle.schemes.proofs.Serving.TripsInTrees.{trip_in_tree}
use Rattle.schemes.proofs.Basics.Options.{is_there, some_is, same_value, not_none, ok_not_err}

-- the rules on distances, out of the first five checks
pub distances_from : (m : Network) → IsSound m → (p : Parts) → ((k : Fault) → number_of k ≤ 5 → Holds m p k) → Distances m (tables p)
distances_from m s p h = record {
  sound = s;
  own = (h k1 (omega arith)).own;
  parents = λ x r e g. elim (cases_eq x r) [ inl q ↦ inl q | inr ne ↦ (let y = (h k1 (omega arith)).parents x r e g ne in inr (y.0, y.1.0)) ];
  inside = (h k1 (omega arith)).roots_inside;
  closed = h k2 (omega arith);
  tight = h k3 (omega arith);
  strict = h k4 (omega arith);
  nearest = h k5 (omega arith);
}

pub distances_of : (m : Network) → IsSound m → (p : Parts) → IsChecked m p → Distances m (tables p)
distances_of m s p h = distances_from m s p (λ k _. h k)

ports_of : (m : Network) (p : Parts) → IsChecked m p → Ports m (tables p)
ports_of m p h = record { nodes = (h k1).nodes; over = λ x k i. ap (λ z. slice_get z k) ((h k1).neighbours_are x i) }

-- walks joined and turned round
join : (m : Network) (u v w x y : ℕ) → Walk m u v x → Walk m v w y → Walk m u w (x + y)
join m u v w x y (stay _ _) b = subst (Walk m u w) (omega arith) b
join m u v w x y (go _ z _ a c e rest) b = subst (Walk m u w) (omega arith) (go u z w a (c + y) e (join m z v w c y rest b))

pub turn : (m : Network) → IsSound m → (u v x : ℕ) → Walk m u v x → Walk m v u x
turn m s u v x (stay _ i) = stay u i
turn m s u v x (go _ z _ a c e rest) =
    subst (Walk m v u) (omega arith) (join m v z u c (a + 0) (turn m s z v c rest) (go z u u a 0 (symmetric m z u ∙ e) (stay u (edge_inside m s u z a e).0)))

-- the checks as they are used below, over the tables alone
pub record TableLaws (m : Network) (t : Tables) : Type 0 where
  pub distances : Distances m t
  pub ports : Ports m t
  pub records : HasRecords m t
  pub listed_label : (u v : ℕ) (l : Label) → t.listed u v ≡ Some l → IsSome (t.entry v u) → IsLabelIn m t u v l
  pub home_label : (v : ℕ) (q : Near) (l : Label) → t.home v ≡ Some l → t.nearest v ≡ Some q → IsLabelIn m t q.landmark v l
  pub listed_entry : (u v : ℕ) (l : Label) → u < m.nodes → t.listed u v ≡ Some l → (e : Entry) × (t.entry v u ≡ Some e)
  pub entry_listed : (u v : ℕ) (e : Entry) → u < m.nodes → t.landmark u ≡ false → t.entry v u ≡ Some e → (l : Label) × (t.listed u v ≡ Some l)
  pub homes : (v : ℕ) (q : Near) → v < m.nodes → t.nearest v ≡ Some q → (l : Label) × (t.home v ≡ Some l)

-- a packet from u to v arrives, each hop measured by the distances in its tree
pub record Journey (m : Network) (t : Tables) (u v : ℕ) : Type 0 where
  pub sent : Packet
  pub trip : List ℕ
  pub decided : decide t u (address t v) ≡ Ok sent
  pub carried : Passes t u trip sent
  pub good : IsGoodTrip m u v trip
  pub measured : AreMeasured m t sent.root u trip

module _ (m : Network) (t : Tables) (h : TableLaws m t) where
  inside : (x : ℕ) → x < m.nodes → nat_lt x t.nodes ≡ true
  inside x i = lt-ltb x t.nodes (subst (λ n. x < n) (sym h.ports.nodes) i)

  -- in the tree of u itself
  by_own_tree : (u v : ℕ) (l : Label) → u < m.nodes → v < m.nodes → t.listed u v ≡ Some l → Journey m t u v
  by_own_tree u v l i j g =
      let e = h.listed_entry u v l i g in
      let o = h.distances.own u i in
      let r = trip_in_tree m t h.distances h.ports h.records u u v o.0 e.0 l o.1.0 e.1 (h.listed_label u v l g (some_is e.1)) in
      let s = exact m t h.distances v u e.0 e.1 in
      record {
        sent = packet_by t v u l;
        trip = r.trip;
        decided = rw (inside u i, inside v j, g) refl;
        carried = r.carried;
        measured = r.measured;
        good = record {
          walk = r.walk;
          few = r.few;
          short = λ xs k. (let a = s.least (walk_length m.edges u xs) (walk_from m u xs v i h.distances.sound k) in omega (arith, r.short, o.1.1.0, a));
        };
      }

  -- v's nearest landmark is no farther from v than u is, where u's directory hasn't v
  near : (u v y : ℕ) → u < m.nodes → t.listed u v ≡ None → Walk m u v y → (q : Near) × ((t.nearest v ≡ Some q) × (q.distance ≤ y))
  near u v y i g w = elim (cases_Bool (t.landmark u)) [
    | inl b ↦ nearest_least m t h.distances u v y b i w
    | inr b ↦ (
        let o = h.distances.own u i in
        elim (close m t h.distances u v u y o.0 o.1.0 w) [
          | inl f ↦ absurd (not_none (h.entry_listed u v f.0 i b f.1.0).1 g)
          | inr q ↦ (q.0, (q.1.0, omega (arith, q.1.1, o.1.1.0)))
        ])
  ]

  -- in the tree of v's nearest landmark
  by_home : (u v x : ℕ) → u < m.nodes → v < m.nodes → t.listed u v ≡ None → Walk m u v x → Journey m t u v
  by_home u v x i j g w =
      let q = near u v x i g w in
      let p = q.0.landmark in
      let l = h.homes v q.0 j q.1.0 in
      let at = h.distances.nearest.there v q.0 q.1.0 in
      let f = reach m t h.distances v u p x at.1.0 at.0 at.1.1.0 (turn m h.distances.sound u v x w) in
      let r = trip_in_tree m t h.distances h.ports h.records p u v f.0 at.1.0 l.0 f.1.0 at.1.1.0 (h.home_label v q.0 l.0 l.1 q.1.0) in
      record {
        sent = packet_by t v p l.0;
        trip = r.trip;
        decided = rw (inside u i, inside v j, g, q.1.0, l.1, f.1.0) refl;
        carried = r.carried;
        measured = r.measured;
        good = record {
          walk = r.walk;
          few = r.few;
          short = λ xs k. (
              let y = walk_length m.edges u xs in
              let w2 = walk_from m u xs v i h.distances.sound k in
              let q2 = near u v y i g w2 in
              let f2 = reach m t h.distances v u p y at.1.0 at.0 at.1.1.0 (turn m h.distances.sound u v y w2) in
              let sq = ap (λ (z : Near). z.distance) (same_value q.1.0 q2.1.0) in
              let sf = ap (λ (z : Entry). z.distance) (same_value f.1.0 f2.1.0) in
              omega (arith, r.short, q2.1.1, f2.1.1, sq, sf, at.1.1.1));
        };
      }

  -- to u with an entry in the tree of v's nearest landmark, from there to v
  to_home : (u v : ℕ) (q : Near) (e : Entry) → t.nearest v ≡ Some q → t.entry u q.landmark ≡ Some e → (x : ℕ) × Walk m u v x
  to_home u v q e g k =
      let at = h.distances.nearest.there v q g in
      let a = real m t h.distances (suc e.distance) u q.landmark e (omega arith) k in
      let b = real m t h.distances (suc at.1.0.distance) v q.landmark at.1.0 (omega arith) at.1.1.0 in
      (e.distance + at.1.0.distance, join m u q.landmark v e.distance at.1.0.distance (turn m h.distances.sound q.landmark u e.distance a) b)

  -- a packet from u to v arrives, or it is refused and no walk leads there
  abbrev Cut : ℕ → ℕ → Type 0
  Cut u v = (decide t u (address t v) ≡ Err Unreachable) × ((x : ℕ) → Walk m u v x → ⊥)

  by_entry : (u v : ℕ) (q : Near) (o : Option Entry) → u < m.nodes → v < m.nodes → t.listed u v ≡ None → t.nearest v ≡ Some q → t.entry u q.landmark ≡ o → Journey m t u v ⊎ Cut u v
  by_entry u v q (Some e) i j g n k = (let w = to_home u v q e n k in inl (by_home u v w.0 i j g w.1))
  by_entry u v q None i j g n k =
      let l = h.homes v q j n in
      let at = h.distances.nearest.there v q n in
      inr (
        rw (inside u i, inside v j, g, n, l.1, k) refl,
        λ x w. not_none (reach m t h.distances v u q.landmark x at.1.0 at.0 at.1.1.0 (turn m h.distances.sound u v x w)).1.0 k,
      )

  by_nearest : (u v : ℕ) (o : Option Near) → u < m.nodes → v < m.nodes → t.listed u v ≡ None → t.nearest v ≡ o → Journey m t u v ⊎ Cut u v
  by_nearest u v (Some q) i j g n = by_entry u v q (t.entry u q.landmark) i j g n refl
  by_nearest u v None i j g n = inr (rw (inside u i, inside v j, g, n) refl, λ x w. not_none (near u v x i g w).1.0 n)

  by_listed : (u v : ℕ) (o : Option Label) → u < m.nodes → v < m.nodes → t.listed u v ≡ o → Journey m t u v ⊎ Cut u v
  by_listed u v (Some l) i j g = inl (by_own_tree u v l i j g)
  by_listed u v None i j g = by_nearest u v (t.nearest v) i j g refl

  either : (u v : ℕ) → u < m.nodes → v < m.nodes → Journey m t u v ⊎ Cut u v
  either u v i j = by_listed u v (t.listed u v) i j refl

  pub journey : (u v : ℕ) (xs : List ℕ) → u < m.nodes → v < m.nodes → IsWalk m.edges u xs v → Journey m t u v
  journey u v xs i j w = elim (either u v i j) [ inl k ↦ k | inr k ↦ absurd (k.1 (walk_length m.edges u xs) (walk_from m u xs v i h.distances.sound w)) ]

  pub no_journey : (u v : ℕ) → u < m.nodes → v < m.nodes → ((xs : List ℕ) → IsWalk m.edges u xs v → ⊥) → decide t u (address t v) ≡ Err Unreachable
  no_journey u v i j none = elim (either u v i j) [ inl k ↦ absurd (none k.trip k.good.walk) | inr k ↦ k.0 ]

  -- a packet that was sent has a journey
  sent_by : (u v : ℕ) (k : Packet) → u < m.nodes → v < m.nodes → decide t u (address t v) ≡ Ok k → Journey m t u v
  sent_by u v k i j d = elim (either u v i j) [ inl w ↦ w | inr w ↦ absurd (ok_not_err d w.0) ]

  arrives : (u v : ℕ) → Journey m t u v → Arrives m t u v
  arrives u v j =
      let p = ported m t h.ports u j.trip j.sent j.carried in
      record { sent = j.sent; trip = j.trip; ports = p.ports; decided = j.decided; carried = p.carried; lead = p.lead; good = j.good }

  pub tables_serve : Serves m t
  tables_serve = record {
    nodes = h.ports.nodes;
    connected = λ u v xs i j w. arrives u v (journey u v xs i j w);
    apart = no_journey;
    sent = λ u v k i j d. arrives u v (sent_by u v k i j d);
  }

pub first_is_listed : (v : ℕ) (es : List Listed) (l : Label) → first_listed v es ≡ Some l → (e : Listed) × (IsListed e es × ((e.node ≡ v) × (e.label ≡ l)))
first_is_listed v [] l g = absurd (not_none g refl)
first_is_listed v (e ∷ es) l g =
    cond_both (e.node == v) (Some e.label) (first_listed v es) (λ z. z ≡ Some l → (f : Listed) × (IsListed f (e ∷ es) × ((f.node ≡ v) × (f.label ≡ l))))
    (λ n k. (e, (inl refl, (eqb-true e.node v n, same_value refl k)))) (λ _ k. (let r = first_is_listed v es l k in (r.0, (inr r.1.0, r.1.1)))) g

pub laws_of : (m : Network) → IsSound m → (p : Parts) → IsChecked m p → TableLaws m (tables p)
laws_of m s p h = record {
  distances = distances_of m s p h;
  ports = ports_of m p h;
  records = h k6;
  listed_label = labelled;
  home_label = (h k7).home;
  listed_entry = λ u v l i g. elim (cases_Bool ((tables p).landmark u)) [
    | inl n ↦ absurd (not_none g (ap (first_listed v) ((h k8).landmarks u n)))
    | inr n ↦ is_there ((tables p).entry v u) (((h k8).exact u v i n).0 (some_is g))
  ];
  entry_listed = λ u v e i n g. is_there ((tables p).listed u v) (((h k8).exact u v i n).1 (some_is g));
  homes = λ v q i g. is_there ((tables p).home v) (((h k8).homes v i).1 (some_is g));
}
  where
    labelled : (u v : ℕ) (l : Label) → (tables p).listed u v ≡ Some l → IsSome ((tables p).entry v u) → IsLabelIn m (tables p) u v l
    labelled u v l g i =
        let e = first_is_listed v (directory_at p u) l g in
        let k = (h k7).listed u e.0 e.1.0 (subst (λ z. IsSome ((tables p).entry z u)) (sym e.1.1.0) i) in
        subst (λ z. IsLabelIn m (tables p) u z l) e.1.1.0 (subst (λ z. IsLabelIn m (tables p) u e.0.node z) e.1.1.1 k)

-- The law.
pub checked_serves : (m : Network) → IsSound m → (p : Parts) → IsChecked m p → Serves m (tables p)
checked_serves m s p h = tables_serve m (tables p) (laws_of m s p h)
