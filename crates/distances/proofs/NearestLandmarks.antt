-- Nearest landmarks, from node to node.
use Rattle.std.proofs.Common.{◌≡◌, ℕ, zero, suc, ◌+◌, ◌<◌, ◌≤◌, ◌≢◌, Bool, true, false, cond, eqb, ltb, inl, inr, List, [], ◌∷◌, ◌++◌, length, get_or, set, Option, Some, None, refl, sym, ap, ◌∙◌, subst, arith, get_or-set_same, get_or-set_other}
use Rattle.std.specs.List.{Contains, count_by}
use Rattle.std.specs.Option.{option_map, is_some}
use Rattle.std.proofs.lemmas.Bool.{cases_eq, cases_lt}
use Rattle.std.proofs.lemmas.Bool.Decides.{nat_tests}
use Rattle.std.proofs.lemmas.List.{get_or_default}
use Rattle.std.proofs.lemmas.Option.{same_Some, none-some}
use Rattle.std.proofs.lemmas.List.Sums.{sum_by-set}
use Rattle.graph_edits.specs.Edges.{EdgeMap, Network, weight_between, weight_in, neighbours_of, IsSound}
use Rattle.graph_edits.specs.Walks.{IsLeast}
use Rattle.graph_edits.specs.Laws.{IsWalk-push, IsLeast-unique, Contains-neighbours_of, weight_between-sym}
use Rattle.landmarks.specs.Chosen.{IsLandmark}
use Rattle.distances.specs.Search.{flag_at, PrecedesAll, IsAscending, EachSettled, HasNode}
use Rattle.distances.specs.Table.{IsTable, IsListing}
use Rattle.distances.specs.Nearest.{IsNearestOf, IsNearBy, IsLeastOver, IsTightNear, near_at, landmark_over, lesser}
use Rattle.distances.specs.Laws.{last_edge}
use Rattle.landmarks.specs.declared.near.Near.{Near}
use Rattle.distances.specs.declared.search.Settled.{Settled}
use Rattle.distances.proofs.Turns.{neighbour_at}
use Rattle.distances.proofs.Tight.{tight_from, tight_exists}

module _ (g : Network) (sound : IsSound g) (flags : List Bool) where
  module _ (number : ℕ → Option ℕ) (table : IsTable g.edges (IsLandmark flags) (λ _. None) number) where
    -- a landmark is its own nearest
    pub near_itself : (x : ℕ) → IsLandmark flags x → number x ≡ Some 0 → IsNearestOf g.edges flags x (Some (record { landmark = x; distance = 0 }))
    near_itself x t is =
        let here = (table.exact x 0 is).0 in (
          here,
          t,
          record { attained = (x, (refl, ([], (refl, refl)))); least = λ s xs e walk. omega arith },
          λ b u h.
              let a = h.attained in
              elim (last_edge g.edges a.0 a.1.1.0 x a.1.1.1.0) [
                | inl e ↦ let same : b ≡ x = sym a.1.0 ∙ e in omega (arith, same)
                | inr r ↦ let one = (sound.weighted r.0 x r.1.0 r.1.1.1.1).0 in absurd (omega (arith, one, r.1.1.1.2, a.1.1.1.1))
              ],
        )

    module _ (near : ℕ → Option Near) (x d : ℕ) (is : number x ≡ Some d) (other : IsLandmark flags x → ⊥)
        (earlier : (y e : ℕ) → number y ≡ Some e → e < d → (n : Near) × ((near y ≡ Some n) × IsNearestOf g.edges flags y (Some n)))
        (y w : ℕ) (n : Near) (at : IsNearestOf g.edges flags y (Some n)) (edge : weight_between g.edges y x ≡ Some w) (sum : n.distance + w ≡ d)
        (least : (z v : ℕ) (k : Near) → near z ≡ Some k → weight_between g.edges z x ≡ Some v → k.distance + v ≡ d → n.landmark ≤ k.landmark) where
      here : IsLeast g.edges (IsLandmark flags) x d
      here = (table.exact x d is).0

      attained_by : IsLeast g.edges (λ s. s ≡ n.landmark) x d
      attained_by =
          let a = at.2.attained in
          let q = IsWalk-push g.edges a.0 a.1.1.0 y x w a.1.1.1.0 edge in
          record {
            attained = (a.0, (a.1.0, (a.1.1.0 ++ x ∷ [], (q.0, q.1 ∙ ap (λ k. k + w) a.1.1.1.1 ∙ sum))));
            least = λ s xs e walk. here.least s xs (subst (IsLandmark flags) (sym e) at.1) walk;
          }

      smallest : (b : ℕ) → IsLandmark flags b → IsLeast g.edges (λ s. s ≡ b) x d → n.landmark ≤ b
      smallest b t h =
          let a = h.attained in
          let source : IsLandmark flags a.0 = subst (IsLandmark flags) (sym a.1.0) t in
          elim (last_edge g.edges a.0 a.1.1.0 x a.1.1.1.0) [
            | inl e ↦ absurd (other (subst (IsLandmark flags) e source))
            | inr r ↦
                let f = tight_from g.edges (IsLandmark flags) (λ _. None) number table (λ _ _ _ _ _ _. refl) x d is a.0 r.0 r.1.0 r.1.1.0 source r.1.1.1.0 r.1.1.1.1 (r.1.1.1.2 ∙ a.1.1.1.1) in
                let one = (sound.weighted r.0 x r.1.0 r.1.1.1.1).0 in
                let k = earlier r.0 f.0 f.1.0 (omega (arith, f.1.1, one)) in
                let from_all = (table.exact r.0 f.0 f.1.0).0 in
                let same : k.0.distance ≡ f.0 = IsLeast-unique g.edges (IsLandmark flags) r.0 k.0.distance f.0 k.1.1.0 from_all in
                let from_b : IsLeast g.edges (λ s. s ≡ b) r.0 f.0 = record {
                  attained = (a.0, (a.1.0, (r.1.1.0, (r.1.1.1.0, sym f.1.2))));
                  least = λ s xs e walk. from_all.least s xs (subst (IsLandmark flags) (sym e) t) walk;
                } in
                let low = k.1.1.3 b t (subst (λ e. IsLeast g.edges (λ s. s ≡ b) r.0 e) (sym same) from_b) in
                let le = least r.0 r.1.0 k.0 k.1.0 r.1.1.1.1 (ap (λ e. e + r.1.0) same ∙ f.1.1) in
                omega (arith, low, le)
          ]

      pub near_over : IsNearestOf g.edges flags x (Some (record { landmark = n.landmark; distance = d }))
      near_over = (here, at.1, attained_by, smallest)

-- ---- the smallest landmark over the neighbours

to_more : (P : ℕ → Type 0) (k y : ℕ) → ((z : ℕ) → z < k → P z) → P k → y < k + 1 → P y
to_more P k y below here lt = elim (cases_eq y k) [ inl e ↦ subst P (sym e) here | inr ne ↦ below y (omega arith) ]

-- the landmark over the neighbour at place j
abbrev pub landmark_at : (ℕ → Option Near) → List (ℕ × ℕ) → ℕ → ℕ → Option ℕ
landmark_at near es d j = landmark_over (near (get_or es j (0, 0)).0) (get_or es j (0, 0)).1 d

-- the smallest of the first k
abbrev pub IsLeastFirst : (ℕ → Option Near) → List (ℕ × ℕ) → ℕ → ℕ → Option ℕ → Type 0
IsLeastFirst near es d k None = (j : ℕ) → j < k → landmark_at near es d j ≡ None
IsLeastFirst near es d k (Some a) = ((j : ℕ) × ((j < k) × (landmark_at near es d j ≡ Some a))) × ((j b : ℕ) → j < k → landmark_at near es d j ≡ Some b → a ≤ b)

pub least_step : (near : ℕ → Option Near) (es : List (ℕ × ℕ)) (d k : ℕ) (best o : Option ℕ) → landmark_at near es d k ≡ o → IsLeastFirst near es d k best → IsLeastFirst near es d (k + 1) (lesser best o)
least_step near es d k None None is h = λ j lt. to_more (λ i. landmark_at near es d i ≡ None) k j h is lt
least_step near es d k None (Some b) is h =
    ((k, (omega arith, is)), λ j c lt. to_more (λ i. landmark_at near es d i ≡ Some c → b ≤ c) k j (λ i l e. absurd (none-some c (sym (h i l) ∙ e))) (λ e. let s : b ≡ c = same_Some b c (sym is ∙ e) in omega (arith, s)) lt)
least_step near es d k (Some a) None is h =
    ((h.0.0, (omega (arith, h.0.1.0), h.0.1.1)), λ j c lt. to_more (λ i. landmark_at near es d i ≡ Some c → a ≤ c) k j (λ i l. h.1 i c l) (λ e. absurd (none-some c (sym is ∙ e))) lt)
least_step near es d k (Some a) (Some b) is h = elim (ltb b a) as (λ t. ltb b a ≡ t → IsLeastFirst near es d (k + 1) (cond t (Some b) (Some a))) [
  | true ↦ λ t. let lt : b < a = grind (arith, nat_tests) in
      ((k, (omega arith, is)), λ j c l. to_more (λ i. landmark_at near es d i ≡ Some c → b ≤ c) k j (λ i m e. let le = h.1 i c m e in omega arith) (λ e. let s : b ≡ c = same_Some b c (sym is ∙ e) in omega (arith, s)) l)
  | false ↦ λ t. let le : a ≤ b = grind (arith, nat_tests) in
      ((h.0.0, (omega (arith, h.0.1.0), h.0.1.1)), λ j c l. to_more (λ i. landmark_at near es d i ≡ Some c → a ≤ c) k j (λ i m. h.1 i c m) (λ e. let s : b ≡ c = same_Some b c (sym is ∙ e) in omega (arith, s)) l)
] refl

over_some : (o : Option Near) (w d a : ℕ) → landmark_over o w d ≡ Some a → (n : Near) × ((o ≡ Some n) × (n.distance + w ≡ d) × (n.landmark ≡ a))
over_some None w d a is = absurd (none-some a is)
over_some (Some n) w d a is = elim (eqb (n.distance + w) d) as (λ t. eqb (n.distance + w) d ≡ t → cond t (Some n.landmark) None ≡ Some a → (m : Near) × ((Some n ≡ Some m) × (m.distance + w ≡ d) × (m.landmark ≡ a))) [
  | true ↦ λ t e. (n, (refl, grind (arith, nat_tests), same_Some n.landmark a e))
  | false ↦ λ t e. absurd (none-some a e)
] refl is

some_over : (o : Option Near) (w d : ℕ) (n : Near) → o ≡ Some n → n.distance + w ≡ d → landmark_over o w d ≡ Some n.landmark
some_over o w d n is sum = let t : eqb (n.distance + w) d ≡ true = grind (arith, nat_tests) in ap (λ p. landmark_over p w d) is ∙ ap (λ b. cond b (Some n.landmark) None) t

module _ (g : Network) (near : ℕ → Option Near) (x d : ℕ) (es : List (ℕ × ℕ)) (same : es ≡ neighbours_of g x) (sound : IsSound g) where
  at_place : (y w : ℕ) (n : Near) → IsTightNear g.edges near x d y w n → (j : ℕ) × ((j < length es) × (landmark_at near es d j ≡ Some n.landmark))
  at_place y w n t =
      let edge : weight_in g x y ≡ Some w = weight_between-sym g.edges x y ∙ t.1 in
      let c : Contains es (y, w) = subst (λ l. Contains l (y, w)) (sym same) (Contains-neighbours_of g x y w (sound.within x y w edge).1 edge) in
      let e : get_or es c.0 (0, 0) ≡ (y, w) = get_or_default es c.0 (0, 0) (y, w) c.1 ∙ c.2 in
      (c.0, (c.1, ap (λ (p : ℕ × ℕ). landmark_over (near p.0) p.1 d) e ∙ some_over (near y) w d n t.0 t.2))

  pub least_over_all : (l : Option ℕ) → IsLeastFirst near es d (length es) l → IsLeastOver g.edges near x d l
  least_over_all None h = λ y w n t. let p = at_place y w n t in absurd (none-some n.landmark (sym (h p.0 p.1.0) ∙ p.1.1))
  least_over_all (Some a) h =
      let j = h.0.0 in
      let o = over_some (near (get_or es j (0, 0)).0) (get_or es j (0, 0)).1 d a h.0.1.1 in (
        ((get_or es j (0, 0)).0, (get_or es j (0, 0)).1, o.0, ((o.1.0, weight_between-sym g.edges (get_or es j (0, 0)).0 x ∙ neighbour_at g x es j same h.0.1.0, o.1.1), o.1.2)),
        λ y w n t. let p = at_place y w n t in h.1 p.0 n.landmark p.1.0 p.1.1,
      )

-- ---- places in the order

abbrev pub nowhere : Settled
nowhere = record { distance = 0; node = 0 }

pub listed_at : (P : ℕ → ℕ → Type 0) (order : List Settled) (i : ℕ) → EachSettled P order → i < length order → P (get_or order i nowhere).node (get_or order i nowhere).distance
listed_at P [] i h lt = absurd (omega arith)
listed_at P (s ∷ ss) zero h lt = h.0
listed_at P (s ∷ ss) (suc i) h lt = listed_at P ss i h.1 (omega arith)

has_at : (x : ℕ) (order : List Settled) → HasNode x order → (j : ℕ) × ((j < length order) × ((get_or order j nowhere).node ≡ x))
has_at x [] h = absurd h
has_at x (s ∷ ss) (inl e) = (0, (omega arith, e))
has_at x (s ∷ ss) (inr h) = let r = has_at x ss h in (suc r.0, (omega (arith, r.1.0), r.1.1))

first_at_most : (s : Settled) (ss : List Settled) (j : ℕ) → PrecedesAll s ss → j < length ss → s.distance ≤ (get_or ss j nowhere).distance
first_at_most s [] j h lt = absurd (omega arith)
first_at_most s (t ∷ ts) zero h lt = elim h.0 [ inl l ↦ omega arith | inr e ↦ omega (arith, e.0) ]
first_at_most s (t ∷ ts) (suc j) h lt = first_at_most s ts j h.1 (omega arith)

-- a later node is no nearer
no_nearer : (order : List Settled) (i j : ℕ) → IsAscending order → i ≤ j → j < length order → (get_or order i nowhere).distance ≤ (get_or order j nowhere).distance
no_nearer [] i j h le lt = absurd (omega arith)
no_nearer (s ∷ ss) zero zero h le lt = omega arith
no_nearer (s ∷ ss) zero (suc j) h le lt = first_at_most s ss j h.0 (omega arith)
no_nearer (s ∷ ss) (suc i) zero h le lt = absurd (omega arith)
no_nearer (s ∷ ss) (suc i) (suc j) h le lt = no_nearer ss i j h.1 (omega arith) (omega arith)

-- a nearer node stands earlier
pub stands_before : (number : ℕ → Option ℕ) (order : List Settled) (listing : IsListing number order) (i y e : ℕ) → IsAscending order → number y ≡ Some e → e < (get_or order i nowhere).distance
    → (j : ℕ) × ((j < i) × (j < length order) × ((get_or order j nowhere).node ≡ y))
stands_before number order listing i y e up is lt =
    let p = has_at y order (listing.has y e is) in
    let at : number (get_or order p.0 nowhere).node ≡ Some (get_or order p.0 nowhere).distance = listed_at (λ z f. number z ≡ Some f) order p.0 listing.listed p.1.0 in
    let same : (get_or order p.0 nowhere).distance ≡ e = same_Some _ e (sym at ∙ ap number p.1.1 ∙ is) in
    elim (cases_lt p.0 i) [
      | inl before ↦ (p.0, (before, p.1.0, p.1.1))
      | inr past ↦ let le = no_nearer order i p.0 up past p.1.0 in absurd (omega (arith, le, same, lt))
    ]

-- ---- a turn, and the end

-- the first i nodes of the order have their nearest landmark, and no other node has one
pub record AreFound (m : EdgeMap) (flags : List Bool) (near : ℕ → Option Near) (order : List Settled) (i : ℕ) : Type 0 where
  pub right : (v : ℕ) (n : Near) → near v ≡ Some n → IsNearestOf m flags v (Some n)
  pub has : (j : ℕ) → j < i → (n : Near) × (near (get_or order j nowhere).node ≡ Some n)

module _ (g : Network) (sound : IsSound g) (flags : List Bool) (number : ℕ → Option ℕ) (table : IsTable g.edges (IsLandmark flags) (λ _. None) number) (order : List Settled) (listing : IsListing number order) (up : IsAscending order)
    (near : ℕ → Option Near) (i : ℕ) (within : i < length order) (found : AreFound g.edges flags near order i) where
  abbrev pub node : ℕ
  node = (get_or order i nowhere).node

  abbrev pub distance : ℕ
  distance = (get_or order i nowhere).distance

  is_number : number node ≡ Some distance
  is_number = listed_at (λ z f. number z ≡ Some f) order i listing.listed within

  earlier : (y e : ℕ) → number y ≡ Some e → e < distance → (n : Near) × ((near y ≡ Some n) × IsNearestOf g.edges flags y (Some n))
  earlier y e is lt =
      let p = stands_before number order listing i y e up is lt in
      let h = found.has p.0 p.1.0 in
      let at : near y ≡ Some h.0 = ap near (sym p.1.2) ∙ h.1 in
      (h.0, (at, found.right y h.0 at))

  by_neighbours : (l : Option ℕ) → (IsLandmark flags node → ⊥) → IsLeastOver g.edges near node distance l → (n : Near) × ((option_map (λ a. record { landmark = a; distance = distance }) l ≡ Some n) × IsNearestOf g.edges flags node (Some n))
  by_neighbours None other none =
      let t = tight_exists g.edges (IsLandmark flags) (λ _. None) number table (λ _ _ _ _ _ _. refl) node distance is_number other in
      let one = (sound.weighted node t.0 t.1.1.0 t.1.1.1.1).0 in
      let k = earlier t.0 t.1.0 t.1.1.1.0 (omega (arith, t.1.1.1.2, one)) in
      let same : k.0.distance ≡ t.1.0 = IsLeast-unique g.edges (IsLandmark flags) t.0 k.0.distance t.1.0 k.1.1.0 (table.exact t.0 t.1.0 t.1.1.1.0).0 in
      absurd (none t.0 t.1.1.0 k.0 (k.1.0, weight_between-sym g.edges t.0 node ∙ t.1.1.1.1, ap (λ e. e + t.1.1.0) same ∙ t.1.1.1.2))
  by_neighbours (Some a) other some =
      let n = some.0.2 in
      let tight = some.0.3.0 in (
        record { landmark = a; distance = distance },
        (
          refl,
          subst (λ b. IsNearestOf g.edges flags node (Some (record { landmark = b; distance = distance }))) some.0.3.1
              (near_over g sound flags number table near node distance is_number other earlier some.0.0 some.0.1 n (found.right some.0.0 n tight.0) tight.1 tight.2
              (λ z v k is edge sum. subst (λ b. b ≤ k.landmark) (sym some.0.3.1) (some.1 z v k (is, edge, sum)))),
        ),
      )

  pub nearest_here : (b : Bool) (o : Option Near) → flag_at flags node ≡ b → IsNearBy g.edges near node distance b o → (n : Near) × ((o ≡ Some n) × IsNearestOf g.edges flags node (Some n))
  nearest_here true o t is =
      let le = (table.exact node distance is_number).0.least node [] t refl in
      let z : distance ≡ 0 = omega (arith, le) in
      (record { landmark = node; distance = distance }, (is, subst (λ d. IsNearestOf g.edges flags node (Some (record { landmark = node; distance = d }))) (sym z) (near_itself g sound flags number table node t (is_number ∙ ap Some z))))
  nearest_here false o t h =
      let r = by_neighbours h.0 (λ f. let e : true ≡ false = sym f ∙ t in absurd (cc)) h.1.1 in
      (r.0, (h.1.0 ∙ r.1.0, r.1.1))

pub found_more : (m : EdgeMap) (flags : List Bool) (order : List Settled) (i : ℕ) (of : List (Option Near)) (o : Option Near) → (get_or order i nowhere).node < length of → AreFound m flags (near_at of) order i
    → (n : Near) × ((o ≡ Some n) × IsNearestOf m flags (get_or order i nowhere).node (Some n)) → AreFound m flags (near_at (set of (get_or order i nowhere).node o)) order (i + 1)
found_more m flags order i of o lt h r = record {
  right = λ v k at. elim (cases_eq v x) [
    | inl e ↦ subst (λ u. IsNearestOf m flags u (Some k)) (sym e) (subst (λ q. IsNearestOf m flags x q) (sym r.1.0 ∙ sym here ∙ ap after (sym e) ∙ at) r.1.1)
    | inr ne ↦ h.right v k (sym (other v ne) ∙ at)
  ];
  has = λ j l. elim (cases_eq (get_or order j nowhere).node x) [
    | inl e ↦ (r.0, ap after e ∙ here ∙ r.1.0)
    | inr ne ↦ elim (cases_eq j i) [
      | inl same ↦ (r.0, ap (λ q. after (get_or order q nowhere).node) same ∙ here ∙ r.1.0)
      | inr before ↦ let k = h.has j (omega arith) in (k.0, other (get_or order j nowhere).node ne ∙ k.1)
    ]
  ];
}
  where
    x : ℕ
    x = (get_or order i nowhere).node

    after : ℕ → Option Near
    after = near_at (set of (get_or order i nowhere).node o)

    here : near_at (set of (get_or order i nowhere).node o) (get_or order i nowhere).node ≡ o
    here = get_or-set_same of (get_or order i nowhere).node o None lt

    other : (y : ℕ) → y ≢ (get_or order i nowhere).node → near_at (set of (get_or order i nowhere).node o) y ≡ near_at of y
    other y ne = get_or-set_other of (get_or order i nowhere).node y o None ne

pub found_all : (g : Network) (flags : List Bool) (number : ℕ → Option ℕ) (table : IsTable g.edges (IsLandmark flags) (λ _. None) number) (order : List Settled) (listing : IsListing number order) (near : ℕ → Option Near)
    → AreFound g.edges flags near order (length order) → (v : ℕ) → IsNearestOf g.edges flags v (near v)
found_all g flags number table order listing near h v = elim (near v) as (λ o. near v ≡ o → IsNearestOf g.edges flags v o) [
  | Some n ↦ λ is. h.right v n is
  | None ↦ λ is r.
      let e = table.complete r.0 v r.1.1.0 r.1.0 r.1.1.1 refl in
      let p = has_at v order (listing.has v e.0 e.1) in
      let k = h.has p.0 p.1.0 in
      absurd (none-some k.0 (sym is ∙ ap near (sym p.1.1) ∙ k.1))
] refl

count_one : (o : Option Near) → cond {A = ℕ} (is_some o) 1 0 ≤ 1
count_one None = omega arith
count_one (Some n) = omega arith

-- setting one place adds at most one
pub count_set_some : (of : List (Option Near)) (x : ℕ) (o : Option Near) → x < length of → count_by (λ near. is_some near) (set of x o) ≤ count_by (λ near. is_some near) of + 1
count_set_some of x o lt =
    let e : count_by (λ near. is_some near) (set of x o) + cond {A = ℕ} (is_some (get_or of x None)) 1 0 ≡ count_by (λ near. is_some near) of + cond {A = ℕ} (is_some o) 1 0 = sum_by-set (λ near. cond {A = ℕ} (is_some near) 1 0) of x o None lt in
    let le = count_one o in
    omega (arith, e, le)
