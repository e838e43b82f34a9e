-- Climbs from parent to parent, where a node has one parent, which is nearer to the root.
use Rattle.std.proofs.Common.{◌≡◌, ◌≢◌, ◌⊎◌, inl, inr, ℕ, zero, suc, ◌+◌, ◌<◌, ◌≤◌, false, List, [], ◌∷◌, ◌++◌, length, reverse, refl, sym, ap, ◌∙◌, subst, arith, append_assoc, eqb}
use Rattle.std.specs.List.{Contains, IsDistinct, AllByRecursion}
use Rattle.std.proofs.lemmas.List.{append-nil, nil_from_length}
use Rattle.std.proofs.lemmas.List.Elements.{Contains-append_right, Contains-append_cases}
use Rattle.std.proofs.lemmas.Bool.{ne_eqb}
use Rattle.single_route.specs.LandmarkTrails.{IsClimb, IsTreePath}
use Rattle.single_route.specs.ListedLines.{LastsDiffer}

-- a list with an element has a last one
pub has_last : (x : ℕ) (xs : List ℕ) → (ys : List ℕ) × ((y : ℕ) × (x ∷ xs ≡ ys ++ y ∷ []))
has_last x [] = ([], (x, refl))
has_last x (z ∷ zs) = let r = has_last z zs in (x ∷ r.0, (r.1.0, ap (λ k. x ∷ k) r.1.1))

-- an empty list, by its length
none_left : (xs : List ℕ) → length xs ≤ 0 → xs ≡ []
none_left xs h = nil_from_length xs (omega (arith, h))

-- where x is an element, the list is what stands before it and what stands behind
pub split_at : (xs : List ℕ) (x : ℕ) → Contains xs x → (front : List ℕ) × ((back : List ℕ) × (xs ≡ front ++ x ∷ back))
split_at [] x h = absurd (omega (arith, h.1))
split_at (y ∷ ys) x (zero, lt, e) = ([], (ys, ap (λ k. k ∷ ys) e))
split_at (y ∷ ys) x (suc k, lt, e) = let r = split_at ys x (k, omega (arith, lt), e) in (y ∷ r.0, (r.1.0, ap (λ zs. y ∷ zs) r.1.1))

all_apart : (x : ℕ) (xs : List ℕ) → ((y : ℕ) → Contains xs y → x ≢ y) → AllByRecursion (λ y. eqb x y ≡ false) xs
all_apart x [] h = tt
all_apart x (y ∷ ys) h = (ne_eqb x y (h y (0, omega arith, refl)), all_apart x ys (λ z c. h z (Contains-append_right (y ∷ []) ys z c)))

module _ (Parent : ℕ → ℕ → Type 0) (At : ℕ → ℕ → Type 0)
    (one : (x y z : ℕ) → Parent x y → Parent x z → y ≡ z)
    (same : (x d e : ℕ) → At x d → At x e → d ≡ e)
    (fall : (x y : ℕ) → Parent x y → (d : ℕ) × ((e : ℕ) × (At x d × At y e × (e < d)))) where
  -- a climb comes at least one nearer with each node
  pub lower : (u : ℕ) (up : List ℕ) (at d e : ℕ) → IsClimb Parent u up at → At u d → At at e → length up + e ≤ d
  lower u [] at d e c a b = let k : d ≡ e = same at d e (subst (λ z. At z d) c a) b in omega (arith, k)
  lower u (x ∷ xs) at d e c a b =
      let f = fall x c.1.0 c.1.1.0 in
      let ih = lower c.1.0 xs at f.1.0 e c.1.1.1 f.1.1.1 b in
      let k : d ≡ f.0 = same x d f.0 (subst (λ z. At z d) c.0 a) f.1.1.0 in
      let lt = f.1.1.2 in
      omega (arith, ih, k, lt)

  -- where a climb ends there is a distance
  pub end_at : (u : ℕ) (up : List ℕ) (at d : ℕ) → IsClimb Parent u up at → At u d → (e : ℕ) × At at e
  end_at u [] at d c a = (d, subst (λ z. At z d) c a)
  end_at u (x ∷ xs) at d c a = let f = fall x c.1.0 c.1.1.0 in end_at c.1.0 xs at f.1.0 c.1.1.1 f.1.1.1

  -- two climbs from one node: the one goes on where the other ends
  pub compare : (u : ℕ) (xs : List ℕ) (a : ℕ) (ys : List ℕ) (b : ℕ) → IsClimb Parent u xs a → IsClimb Parent u ys b
      → ((mid : List ℕ) × (IsClimb Parent a mid b × (ys ≡ xs ++ mid))) ⊎ ((mid : List ℕ) × (IsClimb Parent b mid a × (xs ≡ ys ++ mid)))
  compare u [] a ys b c d = inl (ys, (subst (λ z. IsClimb Parent z ys b) c d, refl))
  compare u (x ∷ xs) a [] b c d = inr (x ∷ xs, (subst (λ z. IsClimb Parent z (x ∷ xs) a) d c, refl))
  compare u (x ∷ xs) a (y ∷ ys) b c d =
      let head : x ≡ y = sym c.0 ∙ d.0 in
      let next : d.1.0 ≡ c.1.0 = one y d.1.0 c.1.0 d.1.1.0 (subst (λ z. Parent z c.1.0) head c.1.1.0) in
      elim (compare c.1.0 xs a ys b c.1.1.1 (subst (λ z. IsClimb Parent z ys b) next d.1.1.1)) [
        | inl r ↦ inl (r.0, (r.1.0, (λ i. sym head i ∷ r.1.1 i)))
        | inr r ↦ inr (r.0, (r.1.0, (λ i. head i ∷ r.1.1 i)))
      ]

  -- a climb that ends where it began has no node
  pub no_round : (a : ℕ) (mid : List ℕ) (e : ℕ) → IsClimb Parent a mid a → At a e → mid ≡ []
  no_round a mid e c h = none_left mid (let k = lower a mid a e e c h h in omega (arith, k))

  -- from one node to another there is one climb
  pub one_climb : (u : ℕ) (xs ys : List ℕ) (a e : ℕ) → At a e → IsClimb Parent u xs a → IsClimb Parent u ys a → xs ≡ ys
  one_climb u xs ys a e h c d = elim (compare u xs a ys a c d) [
    | inl r ↦ sym (r.1.1 ∙ ap (λ k. xs ++ k) (no_round a r.0 e r.1.0 h) ∙ append-nil xs)
    | inr r ↦ r.1.1 ∙ ap (λ k. ys ++ k) (no_round a r.0 e r.1.0 h) ∙ append-nil ys
  ]

  -- a climb in two parts
  pub cut : (u : ℕ) (front : List ℕ) (x : ℕ) (back : List ℕ) (at : ℕ) → IsClimb Parent u (front ++ x ∷ back) at → IsClimb Parent u front x × IsClimb Parent x (x ∷ back) at
  cut u [] x back at c = (c.0, (refl, c.1))
  cut u (y ∷ front) x back at c = let r = cut c.1.0 front x back at c.1.1.1 in ((c.0, (c.1.0, (c.1.1.0, r.0))), r.1)

  -- one node more
  pub push : (u : ℕ) (xs : List ℕ) (x y : ℕ) → IsClimb Parent u xs x → Parent x y → IsClimb Parent u (xs ++ x ∷ []) y
  push u [] x y c p = (c, (y, (p, refl)))
  push u (z ∷ zs) x y c p = (c.0, (c.1.0, (c.1.1.0, push c.1.0 zs x y c.1.1.1 p)))

  -- where the last nodes of two climbs to one node differ, no node is on both
  pub apart_by_lasts : (u v : ℕ) (up down : List ℕ) (at e : ℕ) → At at e → IsClimb Parent u up at → IsClimb Parent v down at → LastsDiffer up down → (x : ℕ) → Contains up x → Contains down x → ⊥
  apart_by_lasts u v up down at e h c d differ x a b =
      let p = split_at up x a in
      let q = split_at down x b in
      let above = (cut u p.0 x p.1.0 at (subst (λ z. IsClimb Parent u z at) p.1.1 c)).1 in
      let below = (cut v q.0 x q.1.0 at (subst (λ z. IsClimb Parent v z at) q.1.1 d)).1 in
      let ends : x ∷ p.1.0 ≡ x ∷ q.1.0 = one_climb x (x ∷ p.1.0) (x ∷ q.1.0) at e h above below in
      let l = has_last x p.1.0 in
      differ l.1.0 (p.0 ++ l.0) (q.0 ++ l.0)
      (p.1.1 ∙ ap (λ z. p.0 ++ z) l.1.1 ∙ sym (append_assoc p.0 l.0 (l.1.0 ∷ [])))
      (q.1.1 ∙ ap (λ z. q.0 ++ z) (sym ends ∙ l.1.1) ∙ sym (append_assoc q.0 l.0 (l.1.0 ∷ [])))

  -- what two paths between the same nodes have in common, where the first turns no later
  same_parts : (u v : ℕ) (up1 up2 down1 down2 : List ℕ) (at1 at2 : ℕ) (mid mid2 : List ℕ) (e : ℕ) → At at2 e → IsClimb Parent at1 mid at2 → IsClimb Parent at1 mid2 at2
      → up2 ≡ up1 ++ mid → down2 ≡ down1 ++ mid2 → ((x : ℕ) → Contains up2 x → Contains down2 x → ⊥) → (up1 ≡ up2) × ((at1 ≡ at2) × (down1 ≡ down2))
  same_parts u v up1 up2 down1 down2 at1 at2 [] [] e h c d f g apart = (sym (f ∙ append-nil up1), (c, sym (g ∙ append-nil down1)))
  same_parts u v up1 up2 down1 down2 at1 at2 [] (y ∷ ys) e h c d f g apart = absurd (let k : [] ≡ y ∷ ys = one_climb at1 [] (y ∷ ys) at2 e h c d in cc)
  same_parts u v up1 up2 down1 down2 at1 at2 (x ∷ xs) [] e h c d f g apart = absurd (let k : [] ≡ x ∷ xs = one_climb at1 [] (x ∷ xs) at2 e h d c in cc)
  same_parts u v up1 up2 down1 down2 at1 at2 (x ∷ xs) (y ∷ ys) e h c d f g apart = absurd (
      let first = subst (λ z. Contains z at1) (sym f) (Contains-append_right up1 (x ∷ xs) at1 (0, omega arith, sym c.0)) in
      let second = subst (λ z. Contains z at1) (sym g) (Contains-append_right down1 (y ∷ ys) at1 (0, omega arith, sym d.0)) in
      apart at1 first second)

  crossed : (at1 at2 : ℕ) (mid mid2 : List ℕ) (d e : ℕ) → At at1 d → At at2 e → IsClimb Parent at1 mid at2 → IsClimb Parent at2 mid2 at1 → (mid ≡ []) × (mid2 ≡ [])
  crossed at1 at2 mid mid2 d e a b c f =
      let p = lower at1 mid at2 d e c a b in
      let q = lower at2 mid2 at1 e d f b a in
      (none_left mid (omega (arith, p, q)), none_left mid2 (omega (arith, p, q)))

  ends_same : (a b : ℕ) (mid : List ℕ) → mid ≡ [] → IsClimb Parent a mid b → a ≡ b
  ends_same a b mid e c = subst (λ z. IsClimb Parent a z b) e c

  -- there is one path between two nodes
  pub one_path : (u v d : ℕ) (xs ys : List ℕ) → At u d → IsTreePath Parent u v xs → IsTreePath Parent u v ys → xs ≡ ys
  one_path u v d xs ys h p q = let r = parts in p.listed ∙ (λ i. r.0 i ++ r.1.0 i ∷ reverse (r.1.1 i)) ∙ sym q.listed
    where
      at1 : (e : ℕ) × At p.at e
      at1 = end_at u p.up p.at d p.rises h

      at2 : (e : ℕ) × At q.at e
      at2 = end_at u q.up q.at d q.rises h

      parts : (p.up ≡ q.up) × ((p.at ≡ q.at) × (p.down ≡ q.down))
      parts = elim (compare u p.up p.at q.up q.at p.rises q.rises) [
        | inl a ↦ elim (compare v p.down p.at q.down q.at p.falls q.falls) [
          | inl b ↦ same_parts u v p.up q.up p.down q.down p.at q.at a.0 b.0 at2.0 at2.1 a.1.0 b.1.0 a.1.1 b.1.1 q.apart
          | inr b ↦ (
              let k = crossed p.at q.at a.0 b.0 at1.0 at2.0 at1.1 at2.1 a.1.0 b.1.0 in
              (sym (a.1.1 ∙ ap (λ z. p.up ++ z) k.0 ∙ append-nil p.up), (ends_same p.at q.at a.0 k.0 a.1.0, b.1.1 ∙ ap (λ z. q.down ++ z) k.1 ∙ append-nil q.down)))
        ]
        | inr a ↦ elim (compare v p.down p.at q.down q.at p.falls q.falls) [
          | inl b ↦ (
              let k = crossed p.at q.at b.0 a.0 at1.0 at2.0 at1.1 at2.1 b.1.0 a.1.0 in
              (a.1.1 ∙ ap (λ z. q.up ++ z) k.1 ∙ append-nil q.up, (ends_same p.at q.at b.0 k.0 b.1.0, sym (b.1.1 ∙ ap (λ z. p.down ++ z) k.0 ∙ append-nil p.down))))
          | inr b ↦ (
              let r = same_parts u v q.up p.up q.down p.down q.at p.at a.0 b.0 at1.0 at1.1 a.1.0 b.1.0 a.1.1 b.1.1 p.apart in
              (sym r.0, (sym r.1.0, sym r.1.1)))
        ]
      ]

  -- the nodes of a climb, and others that are none of them, are distinct
  distinct_before : (u : ℕ) (xs : List ℕ) (at d : ℕ) (ys : List ℕ) → IsClimb Parent u xs at → At u d → ((x : ℕ) → Contains xs x → Contains ys x → ⊥) → IsDistinct eqb ys → IsDistinct eqb (xs ++ ys)
  unfolding IsDistinct
  distinct_before u [] at d ys c a apart rest = rest
  distinct_before u (x ∷ xs) at d ys c a apart rest =
      let f = fall x c.1.0 c.1.1.0 in (
        all_apart x (xs ++ ys) (λ y has. elim (Contains-append_cases xs ys y has) [
          | inl k ↦ λ e. (
              let s = split_at xs y k in
              let part = (cut c.1.0 s.0 y s.1.0 at (subst (λ z. IsClimb Parent c.1.0 z at) s.1.1 c.1.1.1)).0 in
              let low = lower c.1.0 s.0 y f.1.0 f.0 part f.1.1.1 (subst (λ z. At z f.0) e f.1.1.0) in
              let lt = f.1.1.2 in
              absurd (omega (arith, low, lt)))
          | inr k ↦ λ e. apart x (0, omega arith, refl) (subst (Contains ys) (sym e) k)
        ]),
        distinct_before c.1.0 xs at f.1.0 ys c.1.1.1 f.1.1.1 (λ z p q. apart z (Contains-append_right (x ∷ []) xs z p) q) rest,
      )

  -- the node where a climb ends is none of its nodes
  pub end_apart : (u : ℕ) (xs : List ℕ) (at d : ℕ) → IsClimb Parent u xs at → At u d → (x : ℕ) → Contains xs x → x ≢ at
  end_apart u xs at d c a x has e =
      let s = split_at xs x has in
      let part = (cut u s.0 x s.1.0 at (subst (λ z. IsClimb Parent u z at) s.1.1 c)).1 in
      let there = end_at u xs at d c a in
      let k : x ∷ s.1.0 ≡ [] = no_round at (x ∷ s.1.0) there.0 (subst (λ z. IsClimb Parent z (x ∷ s.1.0) at) e part) there.1 in
      cc

  -- the nodes of both sides of a path, and then that where it turns, are distinct
  pub distinct_path : (u v d e : ℕ) (up down : List ℕ) (at : ℕ) → At u d → At v e → IsClimb Parent u up at → IsClimb Parent v down at → ((x : ℕ) → Contains up x → Contains down x → ⊥) → IsDistinct eqb (up ++ (down ++ at ∷ []))
  unfolding IsDistinct
  distinct_path u v d e up down at a b c f apart =
      distinct_before u up at d (down ++ at ∷ []) c a
      (λ x p q. elim (Contains-append_cases down (at ∷ []) x q) [ inl k ↦ apart x p k | inr k ↦ end_apart u up at d c a x p (single at x k) ])
      (distinct_before v down at e (at ∷ []) f b (λ x p q. end_apart v down at e f b x p (single at x q)) (tt, tt))
    where
      single : (y x : ℕ) → Contains (y ∷ []) x → x ≡ y
      single y x (zero, lt, is) = sym is
      single y x (suc k, lt, is) = absurd (omega (arith, lt))
