-- The rules of Shape, Edges, Parents, Strict, Nearest and Directories, as what they say of each node and each entry.
use Rattle.certificate.proofs.Words.{◌≡◌, ◌+◌, ◌<◌, ◌≤◌, ◌⊎◌, inl, inr, ℕ, true, false, sym, refl, ap, subst, ◌∙◌, arith, [], get_or, ◌≢◌, Option, Some, None, IsSome, is_some, MatchOption, ◌↔◌, All, IsStrictlyIncreasing, both_ways, cases_eq, false_from_ne_true, MatchOption-at_none, MatchOption-at_some, All-contains, Parts, Entry}
use Rattle.certificate.proofs.Words.{Near, Network, IsSound, weight_in, neighbours_of, All-neighbours_of, Contains-neighbours_of, tables, entries_at, directory_at, nodes_of, IsShaped, IsClosed, HasParents, IsStrict, IsNearestThere, HasDirectories, symmetric, EachEntry, IsFramed, IsNodeFramed, IsEntryShaped, HasOwn, HasOrderAt}
use Rattle.certificate.proofs.Words.{HasParentAt, IsClosedAt, IsClosedOver, IsTightAt, IsTightOver, IsStrictAt, IsNearestAt, IsThere, IsNoNearer, HasDirectoryAt, IsListedRight, IsListedBack, is_there, not_none, same_value, first_is_listed}
use Rattle.certificate.proofs.LookUps.{all_listed, anywhere, found_has, found_at, listed_at, inside, value_inside, by_look_up}

-- ---- Shape

-- what the rule says of the parent of an entry of x for r
abbrev HasParentFor : Network → Parts → ℕ → ℕ → Entry → Type 0
HasParentFor m p x r e = x ≢ r → (y : ℕ) × ((e.parent ≡ Some y) × (IsSome (weight_in m x y) × IsSome ((tables p).entry y r)))

pub shape_to : (m : Network) (p : Parts) → IsFramed m p → EachEntry m p (IsEntryShaped m (tables p)) → IsShaped m p
unfolding IsFramed IsNodeFramed IsEntryShaped HasOwn HasParentAt
shape_to m p f each =
    let n = f.0.1.1.1.1.0 in
    let law = by_look_up m p n (λ x l. (f.1 x l).1.0) in
    record {
      nodes = f.0.0;
      landmarks = f.0.1.0;
      ports = f.0.1.1.0;
      nearest = f.0.1.1.1.0;
      entries = n;
      directories = f.0.1.1.1.1.1.0;
      homes = f.0.1.1.1.1.1.1;
      neighbours_are = λ x l. (f.1 x l).0;
      roots_ascend = λ x l. (f.1 x l).1.0;
      roots_inside = (law (λ x r e. r < m.nodes)).0 (λ x l. (f.1 x l).1.1.1);
      own = λ x l. (f.1 x l).1.1.0;
      parents = (law (HasParentFor m p)).0 each;
    }

pub frame_from : (m : Network) (p : Parts) → IsShaped m p → IsFramed m p
unfolding IsFramed IsNodeFramed HasOwn
frame_from m p h = (
  (h.nodes, (h.landmarks, (h.ports, (h.nearest, (h.entries, (h.directories, h.homes)))))),
  λ x l. (h.neighbours_are x l, (h.roots_ascend x l, (h.own x l, (by_look_up m p h.entries h.roots_ascend (λ x r e. r < m.nodes)).1 h.roots_inside x l))),
)

pub shape_from : (m : Network) (p : Parts) → IsShaped m p → EachEntry m p (IsEntryShaped m (tables p))
unfolding IsEntryShaped HasParentAt
shape_from m p h = (by_look_up m p h.entries h.roots_ascend (HasParentFor m p)).1 h.parents

-- ---- Edges

-- what holds over each edge of x holds over the one to y
over_edge : (m : Network) → IsSound m → (P : ℕ × ℕ → Type 0) (x : ℕ) → All P (neighbours_of m x) → (y w : ℕ) → weight_in m x y ≡ Some w → P (y, w)
over_edge m sound P x all y w is = All-contains P (neighbours_of m x) (y, w) all (Contains-neighbours_of m x y w (sound.within x y w is).1 is)

pub edges : (m : Network) (p : Parts) → IsSound m → IsShaped m p → EachEntry m p (IsClosedAt m (tables p)) ↔ IsClosed m (tables p)
unfolding IsClosedAt IsClosedOver
edges m p sound h =
    let Over : ℕ → Entry → ℕ × ℕ → Type 0 = λ r e f. ((g : Entry) × (((tables p).entry f.0 r ≡ Some g) × (g.distance ≤ e.distance + f.1)))
    ⊎ (((tables p).entry f.0 r ≡ None) × (((tables p).landmark r ≡ false) × ((q : Near) × (((tables p).nearest f.0 ≡ Some q) × (q.distance ≤ e.distance + f.1))))) in
    let law = by_look_up m p h.entries h.roots_ascend (λ x r e. All (Over r e) (neighbours_of m x)) in (
      λ each x y r w e g. over_edge m sound (Over r e) x (law.0 each x r e g) y w,
      λ c. law.1 (λ x r e g i d k. (let f = get_or (neighbours_of m x) i d in c x f.0 r f.1 e g (All-neighbours_of m x i d k))),
    )

-- ---- Parents

-- an entry's parent is a neighbour with an entry for the root
parent_there : (m : Network) (p : Parts) → IsShaped m p → (x r y : ℕ) (e : Entry) → (tables p).entry x r ≡ Some e → e.parent ≡ Some y → (w : ℕ) × ((g : Entry) × ((weight_in m x y ≡ Some w) × ((tables p).entry y r ≡ Some g)))
parent_there m p h x r y e g par = elim (cases_eq x r) [
  | inl same ↦ absurd (
      let own = h.own r (h.roots_inside x r e g) in
      let f : own.0 ≡ e = same_value own.1.0 (subst (λ z. (tables p).entry z r ≡ Some e) same g) in
      not_none par (subst (λ (z : Entry). z.parent ≡ None) f own.1.1.1))
  | inr ne ↦ (
      let k = h.parents x r e g ne in
      let z : k.0 ≡ y = same_value k.1.0 par in
      let w = is_there (weight_in m x y) (subst (λ v. IsSome (weight_in m x v)) z k.1.1.0) in
      let f = is_there ((tables p).entry y r) (subst (λ v. IsSome ((tables p).entry v r)) z k.1.1.1) in
      (w.0, (f.0, (w.1, f.1))))
]

pub parents : (m : Network) (p : Parts) → IsSound m → IsShaped m p → EachEntry m p (IsTightAt m (tables p)) ↔ HasParents m (tables p)
unfolding IsTightAt IsTightOver
parents m p sound h =
    let Over : ℕ → Entry → ℕ × ℕ → Type 0 = λ r e f. (y : ℕ) (g : Entry) → e.parent ≡ Some y → (tables p).entry f.0 r ≡ Some g → (f.0 ≡ y → e.distance ≡ g.distance + f.1) × (f.0 < y → e.distance ≢ g.distance + f.1) in
    let law = by_look_up m p h.entries h.roots_ascend (λ x r e. All (Over r e) (neighbours_of m x)) in (
      λ each x y r e g par. (
          let over = over_edge m sound (Over r e) x (law.0 each x r e g) in
          let t = parent_there m p h x r y e g par in (
            (t.0, (t.1.0, (symmetric m y x ∙ t.1.1.0, (t.1.1.1, (over y t.0 t.1.1.0 y t.1.0 par t.1.1.1).0 refl)))),
            λ z w f lt is there. (over z w (symmetric m x z ∙ is) y f par there).1 lt,
          )),
      λ c. law.1 (λ x r e g i d j y f par there. (
          let z = get_or (neighbours_of m x) i d in
          let k = c x y r e g par in
          let is : weight_in m z.0 x ≡ Some z.1 = symmetric m z.0 x ∙ All-neighbours_of m x i d j in (
            λ same. (
                let w : k.0.0 ≡ z.1 = same_value k.0.1.1.0 (subst (λ v. weight_in m v x ≡ Some z.1) same is) in
                let b : k.0.1.0 ≡ f = same_value k.0.1.1.1.0 (subst (λ v. (tables p).entry v r ≡ Some f) same there) in
                let at = ap (λ (v : Entry). v.distance) b in
                let sum = k.0.1.1.1.1 in
                omega (arith, w, at, sum)),
            λ lt. k.1 z.0 z.1 f lt is there,
          ))),
    )

-- ---- Strict

pub strict : (m : Network) (p : Parts) → IsShaped m p → EachEntry m p (IsStrictAt (tables p)) ↔ IsStrict (tables p)
strict m p h =
    let law = by_look_up m p h.entries h.roots_ascend (λ x r e. (q : Near) → (tables p).landmark r ≡ false → (tables p).nearest x ≡ Some q → e.distance < q.distance) in
    (λ each x r e q l g n. law.0 each x r e g q l n, λ c. law.1 (λ x r e g q l n. c x r e q l g n))

-- ---- Nearest

pub nearest_to : (m : Network) (p : Parts) → IsShaped m p → ((x : ℕ) → x < m.nodes → IsNearestAt p x) → IsNearestThere (tables p)
unfolding IsNearestAt IsThere IsNoNearer
nearest_to m p h each = record {
  there = λ x q n. (at x q n).0;
  least = λ x a q e n l g. (
      let s = found_has (IsNoNearer (tables p) q) a (entries_at p x) e (at x q n).1 g in
      subst (λ z. (q.distance < e.distance) ⊎ ((q.distance ≡ e.distance) × (q.landmark ≤ z))) s.1 (s.0 (subst (λ z. (tables p).landmark z ≡ true) (sym s.1) l)));
  none = λ x a n l. no_entry x a n l ((tables p).entry x a) refl;
}
  where
    at : (x : ℕ) (q : Near) → (tables p).nearest x ≡ Some q → IsThere (tables p) x q × All (IsNoNearer (tables p) q) (entries_at p x)
    at x q n =
        let l = value_inside p.nearest.items x q n in
        MatchOption-at_some (All (λ e. (tables p).landmark e.root ≡ false) (entries_at p x)) (λ a. IsThere (tables p) x a × All (IsNoNearer (tables p) a) (entries_at p x)) q n (each x (omega (arith, l, h.nearest)))

    no_entry : (x a : ℕ) → (tables p).nearest x ≡ None → (tables p).landmark a ≡ true → (o : Option Entry) → (tables p).entry x a ≡ o → o ≡ None
    no_entry x a n l None g = refl
    no_entry x a n l (Some e) g =
        let k = MatchOption-at_none (All (λ e. (tables p).landmark e.root ≡ false) (entries_at p x)) (λ q. IsThere (tables p) x q × All (IsNoNearer (tables p) q) (entries_at p x)) n (each x (inside m p h.entries x a e g)) in
        let s = found_has (λ f. (tables p).landmark f.root ≡ false) a (entries_at p x) e k g in
        absurd (both_ways ((tables p).landmark a) (subst (λ z. (tables p).landmark z ≡ false) s.1 s.0) l)

pub nearest_from : (m : Network) (p : Parts) → IsShaped m p → IsNearestThere (tables p) → (x : ℕ) → x < m.nodes → IsNearestAt p x
unfolding IsNearestAt IsThere IsNoNearer
nearest_from m p h c x l = go ((tables p).nearest x) refl
  where
    go : (o : Option Near) → (tables p).nearest x ≡ o → MatchOption o (All (λ e. (tables p).landmark e.root ≡ false) (entries_at p x)) (λ q. IsThere (tables p) x q × All (IsNoNearer (tables p) q) (entries_at p x))
    go None n = λ i d k. (let e = get_or (entries_at p x) i d in false_from_ne_true ((tables p).landmark e.root) (λ t. not_none (found_at (entries_at p x) (h.roots_ascend x l) i d k) (c.none x e.root n t)))
    go (Some q) n = (c.there x q n, λ i d k t. c.least x (get_or (entries_at p x) i d).root q (get_or (entries_at p x) i d) n t (found_at (entries_at p x) (h.roots_ascend x l) i d k))

-- ---- Directories

pub directories : (m : Network) (p : Parts) → IsShaped m p → ((u : ℕ) → u < m.nodes → HasDirectoryAt p u) ↔ HasDirectories m p
unfolding HasDirectoryAt HasOrderAt IsListedRight IsListedBack
directories m p h =
    let law = by_look_up m p h.entries h.roots_ascend (λ x r e. (tables p).landmark r ≡ false → IsSome ((tables p).listed r x)) in (
      λ each. record {
        landmarks = λ u l. anywhere p.directories.items u (λ es. es ≡ []) refl (λ i. (each u (omega (arith, i, h.directories))).1.0.0 l);
        ascend = λ u. anywhere p.directories.items u (λ es. IsStrictlyIncreasing (nodes_of es)) (λ k l. absurd (omega (arith, l))) (λ i. (each u (omega (arith, i, h.directories))).0.0);
        exact = λ u v i l. (
          λ s. (let k = is_there ((tables p).listed u v) s in
              let e = first_is_listed v (directory_at p u) k.0 k.1 in
              subst (λ z. IsSome ((tables p).entry z u)) e.1.1.0 (all_listed (λ f. IsSome ((tables p).entry f.node u)) (directory_at p u) e.0 ((each u i).1.0.1 l) e.1.0)),
          λ s. (let k = is_there ((tables p).entry v u) s in law.0 (λ x j. (each x j).1.1) v u k.0 k.1 l),
        );
        homes = λ v i. (each v i).0.1;
      },
      λ c u l. (
        (c.ascend u, c.homes u l),
        (
          (c.landmarks u, λ n i d k. (c.exact u (get_or (directory_at p u) i d).node l n).0 (listed_at (directory_at p u) i d k)),
          law.1 (λ x r e g n. (c.exact r x (h.roots_inside x r e g) n).1 (ap is_some g)) u l,
        ),
      ),
    )
