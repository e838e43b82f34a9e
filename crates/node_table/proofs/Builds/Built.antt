-- Tables that hold the trees of all roots keep the rules.
use Rattle.std.proofs.Common.{◌≡◌, ◌≢◌, ℕ, zero, suc, ◌+◌, ◌≤◌, ◌<◌, ◌==◌, ◌⊎◌, inl, inr, Bool, true, false, cond, sym, refl, ap, subst, ◌∙◌, arith, List, [], ◌∷◌, ◌++◌, length}
use Rattle.std.specs.Prelude.{Option, Some, None, IsSome, slice_get, slice_index_or}
use Rattle.std.specs.Option.{option_map, unwrap_or}
use Rattle.std.specs.List.Sorted.{IsStrictlyIncreasing}
use Rattle.std.proofs.lemmas.Bool.{eqb-true, both_ways, cases_eq, cases_lt, cond_both, false≢true, lt-ltb, ltb-true}
use Rattle.std.proofs.lemmas.Option.{slice_get_past}
use Rattle.graph_edits.specs.Edges.{Network, IsSound, weight_in}
use Rattle.graph_edits.specs.Walks.{IsWalk, walk_length, IsLeast, IsReached}
use Rattle.graph_edits.specs.Laws.{IsWalk-push, IsLeast-unique}
use Rattle.landmarks.specs.Chosen.{IsLandmark}
use Rattle.distances.specs.Search.{is_below}
use Rattle.distances.specs.Nearest.{IsNearestOf}
use Rattle.landmarks.specs.declared.near.Near.{Near}
use Rattle.heavy_labels.specs.Label.{Label}
use Rattle.heavy_labels.specs.Numbering.{Line, Place, tree_lines, Among}
use Rattle.heavy_labels.specs.Stepped.{record_of}
use Rattle.schemes.specs.declared.parts.Parts.{Parts}
use Rattle.schemes.specs.Entry.{Entry}
use Rattle.schemes.specs.Tables.{tables, entries_at, directory_at, first_entry, roots_of, nodes_of, or_false}
use Rattle.schemes.specs.Checks.{IsShaped, IsClosed, HasParents, IsStrict, IsNearestThere, HasRecords, HasLabels, IsLabelIn, HasDirectories, IsChecked, tree_at, k1, k2, k3, k4, k5, k6, k7, k8}
use Rattle.node_table.specs.Columns.{IsParentIn, limit_in, HasColumn, IsBuiltBetween, AreBelow}
use Rattle.schemes.proofs.Basics.Walks.{symmetric}
use Rattle.schemes.proofs.Serving.Exact.{Distances}
use Rattle.schemes.proofs.Serving.CheckedLaw.{first_is_listed}
use Rattle.node_table.proofs.Builds.GrownTrees.{grown_tree}
use Rattle.schemes.proofs.Basics.Options.{is_there, some_is, same_value, not_none}

-- ---- least lengths

pub zero_walk : (m : Network) → IsSound m → (u : ℕ) (xs : List ℕ) (v : ℕ) → IsWalk m.edges u xs v → walk_length m.edges u xs ≡ 0 → u ≡ v
zero_walk m s u [] v w e = w
zero_walk m s u (x ∷ xs) v w e =
    let c = is_there (weight_in m u x) w.0 in
    let pos = (s.weighted u x c.0 c.1).0 in
    let long = ap (λ o. unwrap_or o 0) c.1 in
    let all : unwrap_or (weight_in m u x) 0 + walk_length m.edges x xs ≡ 0 = e in
    absurd (omega (arith, pos, long, all))

-- where no walk is least, there is none
none_shorter : (m : Network) (r y : ℕ) → ((d : ℕ) → IsLeast m.edges (λ s. s ≡ r) y d → ⊥) → (k : ℕ) (xs : List ℕ) → IsWalk m.edges r xs y → walk_length m.edges r xs < k → ⊥
none_shorter m r y none zero xs w l = omega arith
none_shorter m r y none (suc k) xs w l =
    let n = walk_length m.edges r xs in
    none n (record {
      attained = (r, (refl, (xs, (w, refl))));
      least = λ s zs e v. (let q = subst (λ z. IsWalk m.edges z zs y) e v in
          let same : walk_length m.edges s zs ≡ walk_length m.edges r zs = ap (λ z. walk_length m.edges z zs) e in
          elim (cases_lt (walk_length m.edges r zs) n) [
            | inl b ↦ absurd (none_shorter m r y none k zs q (omega (arith, b, l)))
            | inr a ↦ omega (arith, a, same)
          ]);
    })

no_walk : (m : Network) (r y : ℕ) → ((d : ℕ) → IsLeast m.edges (λ s. s ≡ r) y d → ⊥) → (xs : List ℕ) → IsWalk m.edges r xs y → ⊥
no_walk m r y none xs w = none_shorter m r y none (suc (walk_length m.edges r xs)) xs w (omega arith)

pub itself : (m : Network) (r : ℕ) → IsLeast m.edges (λ s. s ≡ r) r 0
itself m r = record { attained = (r, (refl, ([], (refl, refl)))); least = λ s xs e w. omega arith }

-- ---- what the look-ups are

pub flag_is : (flags : List Bool) (v : ℕ) → slice_index_or flags v false ≡ or_false (slice_get flags v)
flag_is [] v = refl
flag_is (b ∷ bs) zero = refl
flag_is (b ∷ bs) (suc v) = flag_is bs v

flag_inside : (flags : List Bool) (v : ℕ) → or_false (slice_get flags v) ≡ true → v < length flags
flag_inside flags v e = elim (cases_lt v (length flags)) [
  | inl l ↦ l
  | inr le ↦ absurd (false≢true (ap or_false (sym (slice_get_past flags v le)) ∙ e))
]

-- strictly ascending roots below k: those that are found are below k
below_found : (k r : ℕ) (es : List Entry) (e : Entry) → AreBelow k (roots_of es) → first_entry r es ≡ Some e → r < k
below_found k r [] e a g = absurd (not_none g refl)
below_found k r (x ∷ es) e a g = cond_both (x.root == r) (Some x) (first_entry r es) (λ o. o ≡ Some e → r < k) (λ t _. subst (λ z. z < k) (eqb-true x.root r t) a.0) (λ _ h. below_found k r es e a.1 h) g

module _ (m : Network) (sound : IsSound m) (p : Parts) (h : IsBuiltBetween m p 0 m.nodes) where
  column_of : (r : ℕ) → r < m.nodes → HasColumn m p r
  column_of r l = h.columns r (omega arith) l

  inside : (x r : ℕ) (e : Entry) → (tables p).entry x r ≡ Some e → r < m.nodes
  inside x r e g = below_found m.nodes r (entries_at p x) e (h.below x) g

  landmark_inside : (a : ℕ) → (tables p).landmark a ≡ true → a < m.nodes
  landmark_inside a e = subst (λ n. a < n) h.landmarks (flag_inside p.landmarks.items a e)

  holds : (a : ℕ) → (tables p).landmark a ≡ true → IsLandmark p.landmarks.items a
  holds a e = flag_is p.landmarks.items a ∙ e

  near : (x : ℕ) (q : Near) → (tables p).nearest x ≡ Some q → IsNearestOf m.edges p.landmarks.items x (Some q)
  near x q g = subst (IsNearestOf m.edges p.landmarks.items x) g (h.nearest_is x)

  no_limit : (r x : ℕ) → (tables p).landmark r ≡ true → limit_in p r x ≡ None
  no_limit r x l = ap (λ b. cond b None (option_map (λ q. q.distance) ((tables p).nearest x))) l

  near_limit : (r x : ℕ) (o : Option Near) → (tables p).landmark r ≡ false → (tables p).nearest x ≡ o → limit_in p r x ≡ option_map (λ q. q.distance) o
  near_limit r x o l g = ap (λ b. cond b None (option_map (λ q. q.distance) ((tables p).nearest x))) l ∙ ap (λ z. option_map (λ q. q.distance) z) g

  exact : (x r : ℕ) (e : Entry) → (tables p).entry x r ≡ Some e → IsLeast m.edges (λ s. s ≡ r) x e.distance × (is_below e.distance (limit_in p r x) ≡ true)
  exact x r e g = (column_of r (inside x r e g)).column.exact x e g

  -- what a landmark reaches has an entry for it
  landmark_entry : (a x d : ℕ) → (tables p).landmark a ≡ true → IsLeast m.edges (λ s. s ≡ a) x d → (e : Entry) × (((tables p).entry x a ≡ Some e) × (e.distance ≡ d))
  landmark_entry a x d l k =
      let e = is_there ((tables p).entry x a) ((column_of a (landmark_inside a l)).column.complete x d k (ap (is_below d) (no_limit a x l))) in
      (e.0, (e.1, IsLeast-unique m.edges (λ s. s ≡ a) x e.0.distance d (exact x a e.0 e.1).0 k))

  -- the limit at the root of a tree
  root_within : (r : ℕ) (b : Bool) (o : Option Near) → (tables p).landmark r ≡ b → (tables p).nearest r ≡ o → is_below 0 (limit_in p r r) ≡ true
  root_within r true o l g = ap (is_below 0) (no_limit r r l)
  root_within r false None l g = ap (is_below 0) (near_limit r r None l g)
  root_within r false (Some q) l g = ap (is_below 0) (near_limit r r (Some q) l g) ∙ lt-ltb 0 q.distance (omega (arith, far))
    where
      far : q.distance ≡ 0 → ⊥
      far z =
          let k = near r q g in
          let at = k.2.attained in
          let same : q.landmark ≡ r = sym at.1.0 ∙ zero_walk m sound at.0 at.1.1.0 r at.1.1.1.0 (at.1.1.1.1 ∙ z) in
          both_ways ((tables p).landmark r) l (sym (flag_is p.landmarks.items r) ∙ subst (IsLandmark p.landmarks.items) same k.1)

  own : (x : ℕ) → x < m.nodes → (e : Entry) × (((tables p).entry x x ≡ Some e) × ((e.distance ≡ 0) × (e.parent ≡ None)))
  own x i =
      let c = (column_of x i).column in
      let e = is_there ((tables p).entry x x) (c.complete x 0 (itself m x) (root_within x ((tables p).landmark x) ((tables p).nearest x) refl refl)) in
      (e.0, (e.1, (IsLeast-unique m.edges (λ s. s ≡ x) x e.0.distance 0 (c.exact x e.0 e.1).0 (itself m x), no_parent (λ z. (tables p).entry z x) e.0.distance e.0.parent (c.parents x e.0 e.1))))
    where
      no_parent : (c : ℕ → Option Entry) (d : ℕ) (o : Option ℕ) → IsParentIn m c x x d o → o ≡ None
      no_parent c d None k = refl
      no_parent c d (Some y) k = absurd (k.0 refl)

  parent_at : (x y r : ℕ) (e : Entry) → (tables p).entry x r ≡ Some e → e.parent ≡ Some y → IsParentIn m (λ z. (tables p).entry z r) r x e.distance (Some y)
  parent_at x y r e g q = subst (IsParentIn m (λ z. (tables p).entry z r) r x e.distance) q ((column_of r (inside x r e g)).column.parents x e g)

  parents : (x r : ℕ) (e : Entry) → (tables p).entry x r ≡ Some e → x ≢ r → (y : ℕ) × ((e.parent ≡ Some y) × (IsSome (weight_in m x y) × IsSome ((tables p).entry y r)))
  parents x r e g ne = go e.parent refl
    where
      go : (o : Option ℕ) → e.parent ≡ o → (y : ℕ) × ((e.parent ≡ Some y) × (IsSome (weight_in m x y) × IsSome ((tables p).entry y r)))
      go None q = absurd (ne (subst (IsParentIn m (λ z. (tables p).entry z r) r x e.distance) q ((column_of r (inside x r e g)).column.parents x e g)))
      go (Some y) q = (let k = (parent_at x y r e g q).1.0 in (y, (q, (some_is (symmetric m x y ∙ k.1.1.1.0), some_is k.1.1.0))))

  tight : HasParents m (tables p)
  tight x y r e g q =
      let k = parent_at x y r e g q in
      let a = k.1.0 in (
        (a.1.0, (a.0, (a.1.1.1.0, (a.1.1.0, sym a.1.1.1.1)))),
        λ z w f lt wt gz eq. (let le = k.1.1 z (f, (w, (gz, (wt, sym eq)))) in absurd (omega (arith, le, lt))),
      )

  strict : IsStrict (tables p)
  strict x r e q l g n = ltb-true e.distance q.distance (sym (ap (is_below e.distance) (near_limit r x (Some q) l n)) ∙ (exact x r e g).1)

  -- the walk over the edge to y
  walk_on : (x y r w : ℕ) (e : Entry) → (tables p).entry x r ≡ Some e → weight_in m x y ≡ Some w → (zs : List ℕ) × (IsWalk m.edges r zs y × (walk_length m.edges r zs ≡ e.distance + w))
  walk_on x y r w e g k =
      let at = (exact x r e g).0.attained in
      let walk = subst (λ z. IsWalk m.edges z at.1.1.0 x) at.1.0 at.1.1.1.0 in
      let long : walk_length m.edges r at.1.1.0 ≡ e.distance = ap (λ z. walk_length m.edges z at.1.1.0) (sym at.1.0) ∙ at.1.1.1.1 in
      let more = IsWalk-push m.edges r at.1.1.0 x y w walk k in
      (at.1.1.0 ++ y ∷ [], (more.0, more.1 ∙ ap (λ z. z + w) long))

  -- nothing at a distance within the limit lacks an entry
  nothing_least : (r y : ℕ) → r < m.nodes → (tables p).entry y r ≡ None → ((d : ℕ) → IsLeast m.edges (λ s. s ≡ r) y d → is_below d (limit_in p r y) ≡ true) → (zs : List ℕ) → IsWalk m.edges r zs y → ⊥
  nothing_least r y i none within zs w = no_walk m r y (λ d k. not_none (is_there ((tables p).entry y r) ((column_of r i).column.complete y d k (within d k))).1 none) zs w

  closed : IsClosed m (tables p)
  closed x y r w e g k = go ((tables p).entry y r) refl
    where
      way : (zs : List ℕ) × (IsWalk m.edges r zs y × (walk_length m.edges r zs ≡ e.distance + w))
      way = walk_on x y r w e g k

      i : r < m.nodes
      i = inside x r e g

      near_there : (tables p).entry y r ≡ None → (b : Bool) → (tables p).landmark r ≡ b → (o : Option Near) → (tables p).nearest y ≡ o
          → ((tables p).landmark r ≡ false) × ((q : Near) × (((tables p).nearest y ≡ Some q) × (q.distance ≤ e.distance + w)))
      near_there none true l o n = absurd (nothing_least r y i none (λ d k. ap (is_below d) (no_limit r y l)) way.0 way.1.0)
      near_there none false l None n = absurd (nothing_least r y i none (λ d k. ap (is_below d) (near_limit r y None l n)) way.0 way.1.0)
      near_there none false l (Some q) n = (
        l,
        (
          q,
          (
            n,
            elim (cases_lt (e.distance + w) q.distance) [
              | inl b ↦ absurd (nothing_least r y i none (λ d k. ap (is_below d) (near_limit r y (Some q) l n) ∙ lt-ltb d q.distance (let c = k.least r way.0 refl way.1.0 in omega (arith, c, way.1.1, b))) way.0 way.1.0)
              | inr a ↦ a
            ],
          ),
        ),
      )

      go : (o : Option Entry) → (tables p).entry y r ≡ o
          → ((f : Entry) × (((tables p).entry y r ≡ Some f) × (f.distance ≤ e.distance + w)))
          ⊎ (((tables p).entry y r ≡ None) × (((tables p).landmark r ≡ false) × ((q : Near) × (((tables p).nearest y ≡ Some q) × (q.distance ≤ e.distance + w)))))
      go (Some f) q = inl (f, (q, (let a = (exact y r f q).0.least r way.0 refl way.1.0 in omega (arith, a, way.1.1))))
      go None q = inr (q, near_there q ((tables p).landmark r) refl ((tables p).nearest y) refl)

  nearest_there : IsNearestThere (tables p)
  nearest_there = record { there = there; least = least; none = none }
    where
      is_landmark : (a : ℕ) → IsLandmark p.landmarks.items a → (tables p).landmark a ≡ true
      is_landmark a k = sym (flag_is p.landmarks.items a) ∙ k

      there : (x : ℕ) (q : Near) → (tables p).nearest x ≡ Some q → ((tables p).landmark q.landmark ≡ true) × ((e : Entry) × (((tables p).entry x q.landmark ≡ Some e) × (e.distance ≡ q.distance)))
      there x q g = (let k = near x q g in (is_landmark q.landmark k.1, landmark_entry q.landmark x q.distance (is_landmark q.landmark k.1) k.2))

      least : (x a : ℕ) (q : Near) (e : Entry) → (tables p).nearest x ≡ Some q → (tables p).landmark a ≡ true → (tables p).entry x a ≡ Some e → (q.distance < e.distance) ⊎ ((q.distance ≡ e.distance) × (q.landmark ≤ a))
      least x a q e g l ge =
          let k = near x q g in
          let ex = (exact x a e ge).0 in
          let at = ex.attained in
          let source = subst (IsLandmark p.landmarks.items) (sym at.1.0) (holds a l) in
          let le = k.0.least at.0 at.1.1.0 source at.1.1.1.0 in
          elim (cases_lt q.distance e.distance) [
            | inl b ↦ inl b
            | inr b ↦ (let same : e.distance ≡ q.distance = omega (arith, b, le, at.1.1.1.1) in inr (sym same, k.3 a (holds a l) (subst (IsLeast m.edges (λ s. s ≡ a) x) same ex)))
          ]

      none : (x a : ℕ) → (tables p).nearest x ≡ None → (tables p).landmark a ≡ true → (tables p).entry x a ≡ None
      none x a g l = go ((tables p).entry x a) refl
        where
          go : (o : Option Entry) → (tables p).entry x a ≡ o → o ≡ None
          go None q = refl
          go (Some e) q = absurd (
              let at = (exact x a e q).0.attained in
              let reached : IsReached m.edges (IsLandmark p.landmarks.items) x = (at.0, (subst (IsLandmark p.landmarks.items) (sym at.1.0) (holds a l), (at.1.1.0, at.1.1.1.0))) in
              (subst (IsNearestOf m.edges p.landmarks.items x) g (h.nearest_is x)) reached)

  shaped : IsShaped m p
  shaped = record {
    nodes = h.nodes;
    landmarks = h.landmarks;
    ports = h.ports;
    nearest = h.nearest;
    entries = h.entries;
    directories = h.directories;
    homes = h.homes;
    neighbours_are = h.neighbours_are;
    roots_ascend = λ x _. h.ascend x;
    roots_inside = inside;
    own = own;
    parents = parents;
  }

  distances : Distances m (tables p)
  distances = record {
    sound = sound;
    own = own;
    parents = λ x r e g. elim (cases_eq x r) [ inl s ↦ inl s | inr ne ↦ (let y = parents x r e g ne in inr (y.0, y.1.0)) ];
    inside = inside;
    closed = closed;
    tight = tight;
    strict = strict;
    nearest = nearest_there;
  }

  line_of : (r : ℕ) → (i : r < m.nodes) → (place : Place) (above : Line) → Among (place ∷ above) (tree_lines (tree_at m (tables p) r))
      → (e : Entry) × (((tables p).entry place.node r ≡ Some e) × ((record_of e.tree_record ≡ place.tree_record) × ((column_of r i).labels place.node ≡ Some place.label)))
  line_of r i place above a =
      let c = (column_of r i).column in
      let s = tree_at m (tables p) r in
      let same = grown_tree m (tables p) r distances h.nodes c.members s c.distinct c.begins c.laid in
      c.lines s place above (subst (λ z. Among (place ∷ above) (tree_lines z)) (sym same) a)

  records : HasRecords m (tables p)
  records r place above i a = (let k = line_of r i place above a in (k.0, (k.1.0, k.1.1.0)))

  label_in : (r v : ℕ) → (i : r < m.nodes) → (l : Label) → (column_of r i).labels v ≡ Some l → IsLabelIn m (tables p) r v l
  label_in r v i l g place above a is = (let k = line_of r i place above a in same_value k.1.1.1 (ap (column_of r i).labels is ∙ g))

  labels : HasLabels m p
  labels = record {
    listed = λ u e k s. (let f = is_there ((tables p).entry e.node u) s in let i = inside e.node u f.0 f.1 in label_in u e.node i e.label ((column_of u i).listed e k));
    home = λ v q l g n. (let i = landmark_inside q.landmark (nearest_there.there v q n).0 in label_in q.landmark v i l (sym ((column_of q.landmark i).homes v q n refl) ∙ g));
  }

  directories : HasDirectories m p
  directories = record {
    landmarks = λ u l. (column_of u (landmark_inside u l)).landmark l;
    ascend = λ u. elim (cases_lt u m.nodes) [ inl l ↦ (column_of u l).ascend | inr le ↦ past u le ];
    exact = λ u v i l. (λ s. to_entry u v i s, λ s. (column_of u i).complete l v (((column_of u i).column.labelled v).0 s));
    homes = λ v i. (h.homes_near v, λ s. home_there v s);
  }
    where
      past : (u : ℕ) → m.nodes ≤ u → IsStrictlyIncreasing (nodes_of (directory_at p u))
      past u le =
          let empty : directory_at p u ≡ [] = ap (λ o. elim o [ None ↦ [] | Some v ↦ v.items ]) (slice_get_past p.directories.items u (omega (arith, le, h.directories))) in
          subst (λ z. IsStrictlyIncreasing (nodes_of z)) (sym empty) (λ k j. absurd (omega (arith, j)))

      to_entry : (u v : ℕ) (i : u < m.nodes) → IsSome ((tables p).listed u v) → IsSome ((tables p).entry v u)
      to_entry u v i s =
          let l = is_there ((tables p).listed u v) s in
          let e = first_is_listed v (directory_at p u) l.0 l.1 in
          ((column_of u i).column.labelled v).1 (subst (λ z. IsSome ((column_of u i).labels z)) e.1.1.0 (some_is ((column_of u i).listed e.0 e.1.0)))

      home_there : (v : ℕ) → IsSome ((tables p).nearest v) → IsSome ((tables p).home v)
      home_there v s =
          let q = is_there ((tables p).nearest v) s in
          let k = nearest_there.there v q.0 q.1 in
          let c = column_of q.0.landmark (landmark_inside q.0.landmark k.0) in
          subst IsSome (sym (c.homes v q.0 q.1 refl)) ((c.column.labelled v).0 (some_is k.1.1.0))

  pub built_checked : IsChecked m p
  built_checked k1 = shaped
  built_checked k2 = closed
  built_checked k3 = tight
  built_checked k4 = strict
  built_checked k5 = nearest_there
  built_checked k6 = records
  built_checked k7 = labels
  built_checked k8 = directories
