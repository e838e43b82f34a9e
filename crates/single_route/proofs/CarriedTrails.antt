-- What a scheme that keeps all rules carries a packet over is the trail under its landmarks.
use Rattle.std.proofs.Common.{◌≡◌, inl, inr, ℕ, ◌<◌, sym, refl, ap, subst, ◌∙◌, arith, true, false, List, [], ◌∷◌, nat_lt}
use Rattle.std.specs.Prelude.{Option, Some, None, Result, Ok, Err}
use Rattle.std.proofs.lemmas.Bool.{lt-ltb, false_from_ne_true}
use Rattle.heavy_labels.specs.Label.{Label}
use Rattle.graph_edits.specs.Edges.{Network, IsSound}
use Rattle.graph_edits.specs.Walks.{IsWalk, walk_length, IsLeast}
use Rattle.landmarks.specs.Chosen.{IsLandmark}
use Rattle.clusters.specs.Cluster.{IsNearer}
use Rattle.distances.specs.Nearest.{IsNearestOf}
use Rattle.landmarks.specs.declared.near.Near.{Near}
use Rattle.schemes.specs.declared.parts.Parts.{Parts}
use Rattle.schemes.specs.Entry.{Entry}
use Rattle.schemes.specs.declared.packet.Packet.{Packet}
use Rattle.schemes.specs.declared.packet.Move.{Move}
use Rattle.schemes.specs.declared.packet.Move.TheVariants.{Delivered, Forward}
use Rattle.schemes.specs.declared.packet.Refused.{Refused}
use Rattle.schemes.specs.declared.packet.Refused.TheVariants.{Unreachable}
use Rattle.schemes.specs.Tables.{Tables, tables, first_listed}
use Rattle.schemes.specs.Checks.{IsChecked, HasDirectories, k8}
use Rattle.schemes.specs.Service.{address, decide, node_step, one_less, packet_by}
use Rattle.schemes.specs.Trails.{Goes, IsGoodTrail}
use Rattle.schemes.specs.Laws.{NearestIsRight, IsInTree}
use Rattle.schemes.proofs.Basics.Options.{some_is, is_there, not_none, same_value}
use Rattle.schemes.proofs.Basics.Walks.{walk_from}
use Rattle.schemes.proofs.Serving.StepsAsMoves.{Passes}
use Rattle.schemes.proofs.Serving.Exact.{nearest_least}
use Rattle.schemes.proofs.Serving.CheckedLaw.{TableLaws, laws_of}
use Rattle.schemes.proofs.Serving.SchemeLaws.{nearest_law, trees_law}
use Rattle.schemes.proofs.OnTheWay.CarriedTrails.{connected_ok}
use Rattle.single_route.specs.LandmarkTrees.{IsMemberAt, IsParentIn}
use Rattle.single_route.specs.LandmarkTrails.{IsTreePath, IsInOwnTree, IsRootFor}
use Rattle.single_route.specs.TrailLaws.{CarriedTrailsAreThese}
use Rattle.single_route.proofs.TrailWalks.{path_walk}
use Rattle.single_route.proofs.Rides.{landmark_is, is_landmark, landmark_inside, entry_member, Ride, ride_in_tree}

-- ---- a packet goes one way

two_moves : (q s y z : ℕ) (a b : Packet) (o : Result Move Refused) → o ≡ Ok (Forward q y a) → o ≡ Ok (Forward s z b) → (y ≡ z) × (a ≡ b)
two_moves q s y z a b o e f =
    let same : Ok (Forward q y a) ≡ Ok (Forward s z b) = sym e ∙ f in
    (cc, cc)

not_both : {X : Type 0} (q y : ℕ) (a : Packet) (o : Result Move Refused) → o ≡ Ok Delivered → o ≡ Ok (Forward q y a) → X
not_both q y a o e f = absurd (bad (sym e ∙ f))
  where
    bad : (let x : Result Move Refused = Ok Delivered in x) ≡ Ok (Forward q y a) → ⊥
    bad h = cc

-- where it is carried over a trip to the end, any way that it went to where it's delivered is that trip
one_way : (t : Tables) (x : ℕ) (trip ys qs : List ℕ) (k : Packet) (at : ℕ) (left : Packet) → Passes t x trip k → Goes t x ys qs k at left → node_step t at left ≡ Ok Delivered → trip ≡ ys
one_way t x [] [] [] k at left c g d = refl
one_way t x (z ∷ trip) [] [] k at left c g d = not_both c.0.0 z (one_less k) (node_step t x k) (ap (λ w. node_step t w k) g.0 ∙ ap (node_step t at) g.1 ∙ d) c.0.1
one_way t x trip [] (q ∷ qs) k at left c g d = absurd g
one_way t x trip (y ∷ ys) [] k at left c g d = absurd g
one_way t x [] (y ∷ ys) (q ∷ qs) k at left c g d = not_both q y (one_less k) (node_step t x k) c g.0
one_way t x (z ∷ trip) (y ∷ ys) (q ∷ qs) k at left c g d =
    let same = two_moves c.0.0 q z y (one_less k) (one_less k) (node_step t x k) c.0.1 g.0 in
    let ih = one_way t y trip ys qs (one_less k) at left (subst (λ w. Passes t w trip (one_less k)) same.0 c.1) g.1 d in
    λ i. same.0 i ∷ ih i

same_sent : {a b : Packet} {o : Result Packet Refused} → o ≡ Ok a → o ≡ Ok b → a ≡ b
same_sent e f = cc

never_sent : {X : Type 0} {a : Packet} {r : Refused} {o : Result Packet Refused} → o ≡ Ok a → o ≡ Err r → X
never_sent {a = a} {r = r} e f = absurd (let same : ◌≡◌ {A = Result Packet Refused} (Ok a) (Err r) = sym e ∙ f in cc)

module _ (m : Network) (p : Parts) (sound : IsSound m) (checked : IsChecked m p) where
  laws : TableLaws m (tables p)
  laws = laws_of m sound p checked

  inside : (x : ℕ) → x < m.nodes → nat_lt x (tables p).nodes ≡ true
  inside x i = lt-ltb x (tables p).nodes (subst (λ n. x < n) (sym laws.ports.nodes) i)

  flag_false : (x : ℕ) → (IsLandmark p.landmarks.items x → ⊥) → (tables p).landmark x ≡ false
  flag_false x none = false_from_ne_true ((tables p).landmark x) (λ e. none (is_landmark m p sound checked x e))

  no_listed : (u v : ℕ) (l : Label) → (tables p).landmark u ≡ true → (tables p).listed u v ≡ Some l → u < m.nodes → ⊥
  no_listed u v l t g i = let rule : HasDirectories m p = checked k8 in not_none g (ap (first_listed v) (rule.landmarks u t))

  -- a label in u's directory: v is in u's own tree
  own_by_list : (u v : ℕ) (l : Label) → u < m.nodes → (tables p).listed u v ≡ Some l → IsInOwnTree m.edges p.landmarks.items u v
  own_by_list u v l i g =
      let e = laws.listed_entry u v l i g in
      let member = entry_member m p sound checked v u e.0 e.1 in
      let a = member.least.attained in
      let walk = subst (λ z. IsWalk m.edges z a.1.1.0 v) a.1.0 a.1.1.1.0 in
      let long : e.0.distance ≡ walk_length m.edges u a.1.1.0 = sym a.1.1.1.1 ∙ ap (λ z. walk_length m.edges z a.1.1.0) a.1.0 in
      let plain : IsLandmark p.landmarks.items u → ⊥ = λ k. no_listed u v l (landmark_is m p sound checked u k) g i in
      (plain, (a.1.1.0, (walk, subst (IsNearer m.edges p.landmarks.items v) long (elim member.belongs [ inl k ↦ absurd (plain k) | inr near ↦ near ]))))

  -- none there: it isn't
  other_by_list : (u v : ℕ) → u < m.nodes → (tables p).listed u v ≡ None → IsInOwnTree m.edges p.landmarks.items u v → ⊥
  other_by_list u v i g own =
      let flag = flag_false u own.0 in
      let in_tree : IsInTree m (tables p).landmark u v = (i, (own.1.0, (own.1.1.0, inr (λ a ys j l w. own.1.1.1 a ys (is_landmark m p sound checked a l) w)))) in
      let e = is_there ((tables p).entry v u) ((trees_law m p sound checked v u).1 in_tree) in
      not_none (laws.entry_listed u v e.0 i flag e.1).1 g

  -- the nearest landmark of a node is right
  nearest_of : (v : ℕ) (q : Near) → (tables p).nearest v ≡ Some q → IsNearestOf m.edges p.landmarks.items v (Some (record { landmark = q.landmark; distance = q.distance }))
  nearest_of v q g =
      let r = subst (NearestIsRight m (tables p).landmark v) g (nearest_law m p sound checked v) in
      let a = r.distance.attained in
      let holds = is_landmark m p sound checked q.landmark r.holds in
      let least : IsLeast m.edges (IsLandmark p.landmarks.items) v q.distance = record {
        attained = (a.0, (subst (IsLandmark p.landmarks.items) (sym a.1.0) holds, a.1.1));
        least = λ s xs l walk.
            let there = landmark_inside m p sound checked s l in
            let k = nearest_least m (tables p) laws.distances s v (walk_length m.edges s xs) (landmark_is m p sound checked s l) there (walk_from m s xs v there sound walk) in
            let same = ap (λ (z : Near). z.distance) (same_value g k.1.0) in
            let le = k.1.1 in
            omega (arith, same, le);
      } in (
        least,
        holds,
        r.distance,
        λ b l far. elim (r.nearest b q.distance (landmark_inside m p sound checked b l) (landmark_is m p sound checked b l) far) [ inl lt ↦ absurd (omega (arith, lt)) | inr e ↦ e.1 ],
      )

  -- in which tree the packet goes, and over which path
  pub record Sent (u v : ℕ) : Type 0 where
    pub root : ℕ
    pub inside_root : root < m.nodes
    pub by_rule : IsRootFor m.edges p.landmarks.items u v root
    pub from : (d : ℕ) × IsMemberAt m.edges p.landmarks.items root u d
    pub to : (d : ℕ) × IsMemberAt m.edges p.landmarks.items root v d
    pub label : Label
    pub ride : Ride m p sound checked root inside_root u v label
    pub decided : decide (tables p) u (address (tables p) v) ≡ Ok (packet_by (tables p) v root label)

  by_list : (u v : ℕ) (l : Label) → u < m.nodes → v < m.nodes → (tables p).listed u v ≡ Some l → Sent u v
  by_list u v l i j g =
      let o = laws.distances.own u i in
      let e = laws.listed_entry u v l i g in
      record {
        root = u;
        inside_root = i;
        by_rule = inl (own_by_list u v l i g, refl);
        from = (o.0.distance, entry_member m p sound checked u u o.0 o.1.0);
        to = (e.0.distance, entry_member m p sound checked v u e.0 e.1);
        label = l;
        ride = ride_in_tree m p sound checked u i laws.ports laws.records u v o.0 e.0 l o.1.0 e.1 (laws.listed_label u v l g (some_is e.1));
        decided = rw (inside u i, inside v j, g) refl;
      }

  by_home : (u v : ℕ) (q : Near) (l : Label) (f : Entry) → u < m.nodes → v < m.nodes → (tables p).listed u v ≡ None → (tables p).nearest v ≡ Some q → (tables p).home v ≡ Some l → (tables p).entry u q.landmark ≡ Some f → Sent u v
  by_home u v q l f i j g n h e =
      let at = laws.distances.nearest.there v q n in
      let k = laws.distances.inside u q.landmark f e in
      record {
        root = q.landmark;
        inside_root = k;
        by_rule = inr (other_by_list u v i g, (q.distance, nearest_of v q n));
        from = (f.distance, entry_member m p sound checked u q.landmark f e);
        to = (at.1.0.distance, entry_member m p sound checked v q.landmark at.1.0 at.1.1.0);
        label = l;
        ride = ride_in_tree m p sound checked q.landmark k laws.ports laws.records u v f at.1.0 l e at.1.1.0 (laws.home_label v q l h n);
        decided = rw (inside u i, inside v j, g, n, h, e) refl;
      }

  sent_home : (u v : ℕ) (k : Packet) (q : Near) (o : Option Entry) → u < m.nodes → v < m.nodes → (tables p).listed u v ≡ None → (tables p).nearest v ≡ Some q → (tables p).entry u q.landmark ≡ o → decide (tables p) u (address (tables p) v) ≡ Ok k → Sent u v
  sent_home u v k q None i j g n e d =
      let l = laws.homes v q j n in
      let refused : decide (tables p) u (address (tables p) v) ≡ Err Unreachable = rw (inside u i, inside v j, g, n, l.1, e) refl in
      never_sent d refused
  sent_home u v k q (Some f) i j g n e d = let l = laws.homes v q j n in by_home u v q l.0 f i j g n l.1 e

  sent_near : (u v : ℕ) (k : Packet) (o : Option Near) → u < m.nodes → v < m.nodes → (tables p).listed u v ≡ None → (tables p).nearest v ≡ o → decide (tables p) u (address (tables p) v) ≡ Ok k → Sent u v
  sent_near u v k None i j g n d =
      let refused : decide (tables p) u (address (tables p) v) ≡ Err Unreachable = rw (inside u i, inside v j, g, n) refl in
      never_sent d refused
  sent_near u v k (Some q) i j g n d = sent_home u v k q ((tables p).entry u q.landmark) i j g n refl d

  sent_by : (u v : ℕ) (k : Packet) (o : Option Label) → u < m.nodes → v < m.nodes → (tables p).listed u v ≡ o → decide (tables p) u (address (tables p) v) ≡ Ok k → Sent u v
  sent_by u v k None i j g d = sent_near u v k ((tables p).nearest v) i j g refl d
  sent_by u v k (Some l) i j g d = by_list u v l i j g

  pub sent : (u v : ℕ) (k : Packet) → u < m.nodes → v < m.nodes → decide (tables p) u (address (tables p) v) ≡ Ok k → Sent u v
  sent u v k i j d = sent_by u v k ((tables p).listed u v) i j refl d

pub carried_trails : CarriedTrailsAreThese
carried_trails m p u v trail sound checked i j k =
    let t = tables p in
    let way = k.under_way in
    let s = sent m p sound checked u v way.sent i j way.decided in
    let same = same_sent way.decided s.decided in
    let trip : s.ride.trip ≡ way.rest = one_way t u s.ride.trip way.rest trail.ports.items way.sent k.at k.left (subst (Passes t u s.ride.trip) (sym same) s.ride.passes) way.goes k.delivered in
    let nodes : trail.nodes.items ≡ u ∷ s.ride.trip = way.starts ∙ (λ e. u ∷ sym trip e) in
    let walk = path_walk m sound p.landmarks.items s.root u v s.from.0 s.to.0 (u ∷ s.ride.trip) s.from.1 s.to.1 s.ride.path in
    let good : IsGoodTrail m u v trail = connected_ok p u (address t v) trail k m v walk.rest sound checked i j refl walk.walk in
    record {
      root = s.root;
      by_rule = s.by_rule;
      member = s.from;
      path = subst (IsTreePath (IsParentIn m.edges p.landmarks.items s.root) u v) (sym nodes) s.ride.path;
      rest = good.trip;
      begins = good.nodes;
      ports = good.ports;
      length = good.length;
    }
