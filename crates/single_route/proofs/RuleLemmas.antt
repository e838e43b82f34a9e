-- The tree that a search found is that of the packet, or no walk leads.
use Rattle.std.proofs.Common.{◌≡◌, ◌≢◌, ◌⊎◌, inl, inr, ℕ, zero, suc, ◌+◌, ◌<◌, ◌≤◌, Bool, true, List, [], ◌∷◌, ◌++◌, map, refl, sym, ap, ◌∙◌, subst, arith}
use Rattle.std.specs.Prelude.{Option, Some, None, IfSome, slice_index_or}
use Rattle.std.specs.List.{Contains}
use Rattle.std.proofs.lemmas.List.Elements.{All-contains, All-weaker, Contains-append_right}
use Rattle.std.proofs.lemmas.Option.{same_Some, none-some}
use Rattle.graph_edits.specs.Edges.{EdgeMap, Network, IsSound}
use Rattle.graph_edits.specs.Walks.{IsWalk, walk_length, IsLeast}
use Rattle.graph_edits.specs.Laws.{IsWalk-join, IsWalk-turned}
use Rattle.landmarks.specs.Chosen.{IsLandmark}
use Rattle.clusters.specs.Cluster.{IsNearer, IsCluster}
use Rattle.distances.specs.Search.{is_below, IsAscending, PrecedesAll}
use Rattle.distances.specs.Reach.{IsTree, IsParent, settled_of}
use Rattle.distances.specs.Nearest.{IsNearestOf, near_limit}
use Rattle.distances.specs.Laws.{open_limits}
use Rattle.landmarks.specs.declared.near.Near.{Near}
use Rattle.distances.specs.declared.reach.Reached.{Reached}
use Rattle.single_route.specs.LandmarkTrees.{IsMemberAt, IsParentIn}
use Rattle.distances.proofs.LeastWalks.{none_least}
use Rattle.single_route.specs.LandmarkTrails.{IsClimb, IsTreePath, IsInOwnTree}
use Rattle.single_route.specs.ListedLines.{HasMember, AreParentsBefore, HasOneRoot, IsAbove, IsLine, IsListedPath}
use Rattle.single_route.specs.FoundTrees.{IsTreeOf, IsTreeFor}
use Rattle.single_route.proofs.ListedTrees.{has_of, of_has}
use Rattle.single_route.proofs.Climbs.{apart_by_lasts, end_at}
use Rattle.single_route.proofs.TrailWalks.{one_distance, one_parent, nearer_parent}

module _ (m : EdgeMap) (flags : List Bool) where
  -- ---- the tree of the packet's own node

  pub own_tree : (u : ℕ) (limit : ℕ → Option ℕ) (tree : List Reached) → (IsLandmark flags u → ⊥) → IsCluster m flags u tree → IsTree m u limit tree → IsTreeOf m flags u tree
  own_tree u limit tree plain c t = record {
    ascending = t.ascending;
    exact = All-weaker (λ k. IsLeast m (λ s. s ≡ u) k.node k.distance × IsNearer m flags k.node k.distance) (λ k. IsMemberAt m flags u k.node k.distance) (λ k e. record { least = e.0; belongs = inr e.1 }) tree c.exact;
    complete = λ x d h. elim h.belongs [ inl l ↦ absurd (plain l) | inr near ↦ c.complete x d h.least near ];
    parents = t.parents;
  }

  in_own : (u v : ℕ) (tree : List Reached) → (IsLandmark flags u → ⊥) → IsCluster m flags u tree → HasMember v tree → IsInOwnTree m flags u v
  in_own u v tree plain c has =
      let k = of_has v tree has in
      let e = All-contains (λ k. IsLeast m (λ s. s ≡ u) k.node k.distance × IsNearer m flags k.node k.distance) tree k.0 c.exact k.1.0 in
      let a = e.0.attained in
      let walk = subst (λ z. IsWalk m z a.1.1.0 v) a.1.0 (subst (IsWalk m a.0 a.1.1.0) k.1.1 a.1.1.1.0) in
      let long : k.0.distance ≡ walk_length m u a.1.1.0 = sym a.1.1.1.1 ∙ ap (λ z. walk_length m z a.1.1.0) a.1.0 in
      (plain, (a.1.1.0, (walk, subst (IsNearer m flags v) long (subst (λ z. IsNearer m flags z k.0.distance) k.1.1 e.1))))

  -- where the other node is a member, this is the tree
  pub own_found : (u v : ℕ) (limit : ℕ → Option ℕ) (tree : List Reached) → (IsLandmark flags u → ⊥) → IsCluster m flags u tree → IsTree m u limit tree → HasMember u tree → HasMember v tree → IsTreeFor m flags u v tree
  own_found u v limit tree plain c t first has =
      record { root = u; by_rule = inl (in_own u v tree plain c has, refl); tree_is = own_tree u limit tree plain c t; from = first; to = has }

  -- and where it's none, it isn't
  pub own_missed : (u v : ℕ) (tree : List Reached) → IsCluster m flags u tree → (HasMember v tree → ⊥) → IsInOwnTree m flags u v → ⊥
  own_missed u v tree c none own =
      none_least m u v (λ d least. none (
      let le = least.least u own.1.0 refl own.1.1.0 in
      let near : IsNearer m flags v d = λ a xs l w. let k = own.1.1.1 a xs l w in omega (arith, k, le) in
      let k = c.complete v d least near in
      has_of v tree k.0 k.1.0 k.1.1)) own.1.0 own.1.1.0

  -- ---- the tree of the other node's nearest landmark

  landmark_tree : (r : ℕ) (tree : List Reached) → IsLandmark flags r → IsTree m r (λ _. None) tree → IsTreeOf m flags r tree
  landmark_tree r tree l t = record {
    ascending = t.ascending;
    exact = All-weaker (λ k. IsLeast m (λ s. s ≡ r) k.node k.distance × (is_below k.distance None ≡ true)) (λ k. IsMemberAt m flags r k.node k.distance) (λ k e. record { least = e.0; belongs = inl l }) tree t.exact;
    complete = λ x d h. t.complete x d h.least refl;
    parents = t.parents;
  }

  pub landmark_found : (u v : ℕ) (near : Near) (tree : List Reached) → (IsInOwnTree m flags u v → ⊥) → IsNearestOf m flags v (Some near) → IsTree m near.landmark (λ _. None) tree → HasMember u tree → IsTreeFor m flags u v tree
  landmark_found u v near tree other n t has =
      let k = t.complete v near.distance n.2 refl in
      record { root = near.landmark; by_rule = inr (other, (near.distance, n)); tree_is = landmark_tree near.landmark tree n.1 t; from = has; to = has_of v tree k.0 k.1.0 k.1.1 }

  pub landmark_missed : (u v : ℕ) (near : Near) (tree : List Reached) → IsNearestOf m flags v (Some near) → IsTree m near.landmark (λ _. None) tree → (HasMember u tree → ⊥) → (xs : List ℕ) → IsWalk m u xs v → ⊥
  landmark_missed u v near tree n t none xs walk =
      let a = n.2.attained in
      let there = subst (λ z. IsWalk m z a.1.1.0 v) a.1.0 a.1.1.1.0 in
      let back = IsWalk-turned m u xs v walk in
      let round = IsWalk-join m near.landmark a.1.1.0 v back.0 u there back.1.0 in
      none_least m near.landmark u (λ d least. none (let k = t.complete u d least refl in has_of u tree k.0 k.1.0 k.1.1)) (a.1.1.0 ++ back.0) round.0

-- a node that is no landmark is in its own tree
pub centre : (g : Network) (flags : List Bool) (nearest : List (Option Near)) (u : ℕ) (tree : List Reached) → IsSound g → ((v : ℕ) → IsNearestOf g.edges flags v (slice_index_or nearest v None)) → (IsLandmark flags u → ⊥)
    → IsTree g.edges u (near_limit nearest) tree → HasMember u tree
centre g flags nearest u tree sound near plain t =
    let least : IsLeast g.edges (λ s. s ≡ u) u 0 = record { attained = (u, (refl, ([], (refl, refl)))); least = λ s xs e w. omega arith } in
    let other : slice_index_or nearest u None ≢ Some (record { landmark = u; distance = 0 }) = λ e. plain (subst (IsNearestOf g.edges flags u) e (near u)).1 in
    let k = t.complete u 0 least (open_limits g sound flags nearest u near other) in
    has_of u tree k.0 k.1.0 k.1.1

-- ---- what a found tree says of the parents

-- k is one of the list
abbrev Has : Reached → List Reached → Type 0
Has k [] = ⊥
Has k (j ∷ js) = (k ≡ j) ⊎ Has k js

has_in : (k : Reached) (xs : List Reached) → Contains xs k → Has k xs
has_in k [] c = absurd (let lt = c.1 in omega (arith, lt))
has_in k (j ∷ js) (zero, lt, is) = inl (sym is)
has_in k (j ∷ js) (suc i, lt, is) = inr (has_in k js (i, omega (arith, lt), is))

-- a member that stands in the front, is k, or stands behind
abbrev Stands : Reached → List Reached → Reached → List Reached → Type 0
Stands j front k back = Has j front ⊎ ((j ≡ k) ⊎ Has j back)

has_parts : (j : Reached) (front : List Reached) (k : Reached) (back : List Reached) → Has j (front ++ k ∷ back) → Stands j front k back
has_parts j [] k back (inl e) = inr (inl e)
has_parts j [] k back (inr h) = inr (inr h)
has_parts j (i ∷ is) k back (inl e) = inl (inl e)
has_parts j (i ∷ is) k back (inr h) = elim (has_parts j is k back h) [ inl a ↦ inl (inr a) | inr b ↦ inr b ]

has_member : (j : Reached) (xs : List Reached) → Has j xs → HasMember j.node xs
has_member j [] h = absurd h
has_member j (i ∷ is) (inl e) = inl (ap (λ (z : Reached). z.node) (sym e))
has_member j (i ∷ is) (inr h) = inr (has_member j is h)

no_farther : (k j : Reached) (back : List Reached) → PrecedesAll (settled_of k) (map settled_of back) → Has j back → k.distance ≤ j.distance
no_farther k j [] p h = absurd h
no_farther k j (i ∷ is) p (inl e) =
    let d : j.distance ≡ i.distance = ap (λ (z : Reached). z.distance) e in
    elim p.0 [ inl lt ↦ omega (arith, lt, d) | inr eq ↦ let q = eq.0 in omega (arith, q, d) ]
no_farther k j (i ∷ is) p (inr h) = no_farther k j is p.1 h

ascending_from : (front : List Reached) (k : Reached) (back : List Reached) → IsAscending (map settled_of (front ++ k ∷ back)) → PrecedesAll (settled_of k) (map settled_of back)
ascending_from [] k back h = h.0
ascending_from (i ∷ is) k back h = ascending_from is k back h.1

module _ (g : Network) (sound : IsSound g) (flags : List Bool) (r : ℕ) (tree : List Reached) (t : IsTreeOf g.edges flags r tree) where
  exact_at : (k : Reached) → Contains tree k → IsMemberAt g.edges flags r k.node k.distance
  exact_at k c = All-contains (λ k. IsMemberAt g.edges flags r k.node k.distance) tree k t.exact c

  parent_at : (k : Reached) → Contains tree k → IsParent g.edges r tree k.node k.distance k.parent
  parent_at k c = All-contains (λ k. IsParent g.edges r tree k.node k.distance k.parent) tree k t.parents c

  -- the parent of every member stands before it
  pub parents_before : AreParentsBefore tree
  parents_before front back k is = by k.parent refl
    where
      there : Contains tree k
      there = subst (λ z. Contains z k) (sym is) (Contains-append_right front (k ∷ back) k (0, omega arith, refl))

      by : (o : Option ℕ) → k.parent ≡ o → IfSome o (λ y. HasMember y front)
      by None e = tt
      by (Some y) e =
          let p = subst (IsParent g.edges r tree k.node k.distance) e (parent_at k there) in
          let j = p.1.0 in
          let c = p.1.2.0 in
          let w = (sound.weighted y k.node p.1.1 p.1.2.2).0 in
          let sum = p.1.2.3 in
          let near : j.distance < k.distance = omega (arith, w, sum) in
          let asc = ascending_from front k back (subst (λ z. IsAscending (map settled_of z)) is t.ascending) in
          elim (has_parts j front k back (subst (Has j) is (has_in j tree c))) [
            | inl a ↦ subst (λ z. HasMember z front) p.1.2.1 (has_member j front a)
            | inr (inl same) ↦ absurd (let d : j.distance ≡ k.distance = ap (λ (z : Reached). z.distance) same in omega (arith, d, near))
            | inr (inr b) ↦ absurd (let d = no_farther k j back asc b in omega (arith, d, near))
          ]

  -- what stands above a member in the list is its parent in the tree
  pub parent_listed : (x y : ℕ) → IsAbove tree x (Some y) → IsParentIn g.edges flags r x y
  parent_listed x y a =
      let k = a.0 in
      let p = subst (IsParent g.edges r tree k.node k.distance) a.1.2 (parent_at k a.1.0) in
      let q = subst (λ z. IsParent g.edges r tree z k.distance (Some y)) a.1.1 p in
      let member = subst (λ z. IsMemberAt g.edges flags r z k.distance) a.1.1 (exact_at k a.1.0) in
      let j = q.1.0 in
      record {
        tight = record {
          distance = k.distance;
          before = j.distance;
          weight = q.1.1;
          member = member;
          above = subst (λ z. IsMemberAt g.edges flags r z j.distance) q.1.2.1 (exact_at j q.1.2.0);
          edge = q.1.2.2;
          sum = q.1.2.3;
        };
        smallest = λ z tz. q.2 z (
            let i = t.complete z tz.before tz.above in
            let near : i.0.distance ≡ tz.before = one_distance g sound flags r z i.0.distance tz.before (subst (λ w. IsMemberAt g.edges flags r w i.0.distance) i.1.1 (exact_at i.0 i.1.0)) tz.above in
            let far : tz.distance ≡ k.distance = one_distance g sound flags r x tz.distance k.distance tz.member member in
            let sum = tz.sum in
            (i.0, tz.weight, (i.1.0, i.1.1, tz.edge, (let e : i.0.distance + tz.weight ≡ k.distance = omega (arith, near, far, sum) in e))));
      }

  root_listed : (x : ℕ) → IsAbove tree x None → x ≡ r
  root_listed x a = sym a.1.1 ∙ subst (IsParent g.edges r tree a.0.node a.0.distance) a.1.2 (parent_at a.0 a.1.0)

  -- nothing stands above the root alone
  pub one_root_listed : HasOneRoot tree
  one_root_listed x y a b = root_listed x a ∙ sym (root_listed y b)

  no_line : (xs : List ℕ) (at : ℕ) → IsLine tree None xs (Some at) → ⊥
  no_line [] at l = none-some at l
  no_line (x ∷ xs) at l = none-some x l.0

  line_climbs : (u : ℕ) (xs : List ℕ) (at : ℕ) → IsLine tree (Some u) xs (Some at) → IsClimb (IsParentIn g.edges flags r) u xs at
  line_climbs u [] at l = same_Some u at l
  line_climbs u (x ∷ xs) at l = by (λ z k. line_climbs z xs at k) l.1.0 l.1.1.0 l.1.1.1
    where
      by : ((z : ℕ) → IsLine tree (Some z) xs (Some at) → IsClimb (IsParentIn g.edges flags r) z xs at) → (o : Option ℕ) → IsAbove tree x o → IsLine tree o xs (Some at) → IsClimb (IsParentIn g.edges flags r) u (x ∷ xs) at
      by rest None a k = absurd (no_line xs at k)
      by rest (Some z) a k = (same_Some u x l.0, (z, (parent_listed x z a, rest z k)))

  -- the distance of a node in the list
  pub member_listed : (x : ℕ) → HasMember x tree → (d : ℕ) × IsMemberAt g.edges flags r x d
  member_listed x has = let k = of_has x tree has in (k.0.distance, subst (λ z. IsMemberAt g.edges flags r z k.0.distance) k.1.1 (exact_at k.0 k.1.0))

  -- so a listed path is the path in the tree
  pub path_listed : (u v : ℕ) (nodes : List ℕ) → HasMember u tree → IsListedPath tree u v nodes → IsTreePath (IsParentIn g.edges flags r) u v nodes
  path_listed u v nodes has p =
      let d = member_listed u has in
      let up = line_climbs u p.up p.at p.rises in
      let down = line_climbs v p.down p.at p.falls in
      let top = end_at (IsParentIn g.edges flags r) (IsMemberAt g.edges flags r) (one_parent g sound flags r) (one_distance g sound flags r) (nearer_parent g sound flags r) u p.up p.at d.0 up d.1 in
      record {
        up = p.up;
        at = p.at;
        down = p.down;
        rises = up;
        falls = down;
        apart = apart_by_lasts (IsParentIn g.edges flags r) (IsMemberAt g.edges flags r) (one_parent g sound flags r) (one_distance g sound flags r) (nearer_parent g sound flags r) u v p.up p.down p.at top.0 top.1 up down p.differ;
        listed = p.listed;
      }
