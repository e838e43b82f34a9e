-- The trail under given landmarks is one, a walk, and no longer than three times any other.
use Rattle.std.proofs.Common.{◌≡◌, inl, inr, ℕ, zero, suc, ◌+◌, ◌*◌, ◌<◌, ◌≤◌, Bool, List, [], ◌∷◌, ◌++◌, length, reverse, refl, sym, ap, ◌∙◌, subst, arith, append_assoc, length-append}
use Rattle.std.specs.Prelude.{Some, IsSome}
use Rattle.std.specs.Option.{unwrap_or}
use Rattle.std.specs.List.{Contains}
use Rattle.std.proofs.lemmas.List.{length-reverse, reverse-append}
use Rattle.std.proofs.lemmas.Bool.{eqb-true, cases_lt}
use Rattle.std.proofs.lemmas.List.Elements.{Contains-append_cases, Contains-push_cases}
use Rattle.std.proofs.lemmas.Map.Steps.{length-le_from_distinct_below}
use Rattle.std.proofs.lemmas.Map.Views.{Contains-from_any}
use Rattle.graph_edits.specs.Edges.{EdgeMap, Network, IsSound, weight_between}
use Rattle.graph_edits.specs.Walks.{IsWalk, walk_length, IsLeast}
use Rattle.graph_edits.specs.Laws.{IsWalk-push, IsWalk-join, IsWalk-turned, IsLeast-unique, weight_between-sym}
use Rattle.landmarks.specs.Chosen.{IsLandmark}
use Rattle.single_route.specs.LandmarkTrees.{IsMemberAt, IsParentIn}
use Rattle.single_route.specs.LandmarkTrails.{IsClimb, IsTreePath, IsRootFor}
use Rattle.single_route.proofs.Climbs.{end_at, distinct_path}

module _ (m : Network) (sound : IsSound m) (flags : List Bool) (r : ℕ) where
  -- a member has one distance
  pub one_distance : (x d e : ℕ) → IsMemberAt m.edges flags r x d → IsMemberAt m.edges flags r x e → d ≡ e
  one_distance x d e p q = IsLeast-unique m.edges (λ s. s ≡ r) x d e p.least q.least

  -- a node has one parent
  pub one_parent : (x y z : ℕ) → IsParentIn m.edges flags r x y → IsParentIn m.edges flags r x z → y ≡ z
  one_parent x y z p q = let a = p.smallest z q.tight in let b = q.smallest y p.tight in omega (arith, a, b)

  -- which is nearer to the root
  pub nearer_parent : (x y : ℕ) → IsParentIn m.edges flags r x y → (d : ℕ) × ((e : ℕ) × (IsMemberAt m.edges flags r x d × IsMemberAt m.edges flags r y e × (e < d)))
  nearer_parent x y p =
      let t = p.tight in
      let w = sound.weighted y x t.weight t.edge in
      (t.distance, (t.before, (t.member, t.above, (let s = t.sum in omega (arith, w.0, s)))))

  weight_there : (x y w : ℕ) → weight_between m.edges x y ≡ Some w → IsSome (weight_between m.edges x y)
  weight_there x y w e = subst IsSome (sym e) refl

  -- up to the end of a climb a walk leads, as long as the distances differ
  pub rising_walk : (u : ℕ) (up : List ℕ) (at d e : ℕ) → IsClimb (IsParentIn m.edges flags r) u up at → IsMemberAt m.edges flags r u d → IsMemberAt m.edges flags r at e
      → (rest : List ℕ) × ((up ++ at ∷ [] ≡ u ∷ rest) × (IsWalk m.edges u rest at × (walk_length m.edges u rest + e ≡ d)))
  rising_walk u [] at d e c a b = ([], ((λ i. sym c i ∷ []), (c, (let k = one_distance at d e (subst (λ z. IsMemberAt m.edges flags r z d) c a) b in omega (arith, k)))))
  rising_walk u (x ∷ xs) at d e c a b =
      let t = c.1.1.0.tight in
      let z = c.1.0 in
      let ih = rising_walk z xs at t.before e c.1.1.1 t.above b in
      let k : t.distance ≡ d = one_distance x t.distance d t.member (subst (λ y. IsMemberAt m.edges flags r y d) c.0 a) in
      let edge : weight_between m.edges u z ≡ Some t.weight = ap (λ y. weight_between m.edges y z) c.0 ∙ weight_between-sym m.edges x z ∙ t.edge in
      let w : unwrap_or (weight_between m.edges u z) 0 ≡ t.weight = ap (λ o. unwrap_or o 0) edge in
      let s = t.sum in
      (z ∷ ih.0, ((λ i. sym c.0 i ∷ ih.1.0 i), ((weight_there u z t.weight edge, ih.1.1.0), (let l = ih.1.1.1 in omega (arith, l, w, s, k)))))

  -- and down from there
  pub falling_walk : (v : ℕ) (down : List ℕ) (at d e : ℕ) → IsClimb (IsParentIn m.edges flags r) v down at → IsMemberAt m.edges flags r v d → IsMemberAt m.edges flags r at e
      → IsWalk m.edges at (reverse down) v × (walk_length m.edges at (reverse down) + e ≡ d)
  falling_walk v [] at d e c a b = (sym c, (let k = one_distance at d e (subst (λ z. IsMemberAt m.edges flags r z d) c a) b in omega (arith, k)))
  falling_walk v (x ∷ xs) at d e c a b =
      let t = c.1.1.0.tight in
      let z = c.1.0 in
      let ih = falling_walk z xs at t.before e c.1.1.1 t.above b in
      let turned : reverse (x ∷ xs) ≡ reverse xs ++ x ∷ [] = reverse-append (x ∷ []) xs in
      let p = IsWalk-push m.edges at (reverse xs) z x t.weight ih.0 t.edge in
      let k : t.distance ≡ d = one_distance x t.distance d t.member (subst (λ y. IsMemberAt m.edges flags r y d) c.0 a) in
      let s = t.sum in
      let l : walk_length m.edges at (reverse (x ∷ xs)) ≡ walk_length m.edges at (reverse xs ++ x ∷ []) = ap (walk_length m.edges at) turned in
      (subst (λ y. IsWalk m.edges at y v) (sym turned) (subst (IsWalk m.edges at (reverse xs ++ x ∷ [])) (sym c.0) p.0), (let g = ih.1 in let h = p.1 in omega (arith, g, h, k, s, l)))

  -- what the path of two members is: a walk no longer than both distances together, with no node twice
  pub record PathWalk (u v d e : ℕ) (nodes : List ℕ) : Type 0 where
    pub rest : List ℕ
    pub begins : nodes ≡ u ∷ rest
    pub walk : IsWalk m.edges u rest v
    pub short : walk_length m.edges u rest ≤ d + e

  pub path_walk : (u v d e : ℕ) (nodes : List ℕ) → IsMemberAt m.edges flags r u d → IsMemberAt m.edges flags r v e → IsTreePath (IsParentIn m.edges flags r) u v nodes → PathWalk u v d e nodes
  path_walk u v d e nodes a b p =
      let top = end_at (IsParentIn m.edges flags r) (IsMemberAt m.edges flags r) one_parent one_distance nearer_parent u p.up p.at d p.rises a in
      let up = rising_walk u p.up p.at d top.0 p.rises a top.1 in
      let down = falling_walk v p.down p.at e top.0 p.falls b top.1 in
      let joined = IsWalk-join m.edges u up.0 p.at (reverse p.down) v up.1.1.0 down.0 in
      record {
        rest = up.0 ++ reverse p.down;
        begins = p.listed ∙ sym (append_assoc p.up (p.at ∷ []) (reverse p.down)) ∙ ap (λ z. z ++ reverse p.down) up.1.0;
        walk = joined.0;
        short = (let s = joined.1 in let t = up.1.1.1 in let w = down.1 in omega (arith, s, t, w));
      }

  -- where a climb ends at a member, it begins at one
  pub start_member : (v : ℕ) (down : List ℕ) (at e : ℕ) → IsClimb (IsParentIn m.edges flags r) v down at → IsMemberAt m.edges flags r at e → (d : ℕ) × IsMemberAt m.edges flags r v d
  start_member v [] at e c a = (e, subst (λ z. IsMemberAt m.edges flags r z e) (sym c) a)
  start_member v (x ∷ xs) at e c a = (c.1.1.0.tight.distance, subst (λ z. IsMemberAt m.edges flags r z c.1.1.0.tight.distance) (sym c.0) c.1.1.0.tight.member)

  -- all nodes of a climb are the network's
  climb_inside : (u : ℕ) (up : List ℕ) (at : ℕ) → IsClimb (IsParentIn m.edges flags r) u up at → u < m.nodes → (at < m.nodes) × ((x : ℕ) → Contains up x → x < m.nodes)
  climb_inside u [] at c i = (subst (λ z. z < m.nodes) c i, λ x has. absurd (let lt = has.1 in omega (arith, lt)))
  climb_inside u (y ∷ ys) at c i =
      let t = c.1.1.0.tight in
      let both = sound.within c.1.0 y t.weight t.edge in
      let ih = climb_inside c.1.0 ys at c.1.1.1 both.0 in
      (ih.0, λ x has. each x has both.1 ih.1)
    where
      each : (x : ℕ) → Contains (y ∷ ys) x → y < m.nodes → ((z : ℕ) → Contains ys z → z < m.nodes) → x < m.nodes
      each x (zero, lt, is) here rest = subst (λ z. z < m.nodes) is here
      each x (suc k, lt, is) here rest = rest x (k, omega (arith, lt), is)

  -- so a path has at most as many nodes as the network
  pub few_nodes : (u v d e : ℕ) (nodes : List ℕ) → u < m.nodes → v < m.nodes → IsMemberAt m.edges flags r u d → IsMemberAt m.edges flags r v e → IsTreePath (IsParentIn m.edges flags r) u v nodes → length nodes ≤ m.nodes
  few_nodes u v d e nodes i j a b p =
      let all = p.up ++ (p.down ++ p.at ∷ []) in
      let distinct = distinct_path (IsParentIn m.edges flags r) (IsMemberAt m.edges flags r) one_parent one_distance nearer_parent u v d e p.up p.down p.at a b p.rises p.falls p.apart in
      let first = climb_inside u p.up p.at p.rises i in
      let second = climb_inside v p.down p.at p.falls j in
      let inside : (x : ℕ) → Contains all x → x < m.nodes = λ x has. elim (Contains-append_cases p.up (p.down ++ p.at ∷ []) x has) [
        | inl k ↦ first.1 x k
        | inr k ↦ elim (Contains-push_cases p.down p.at x k) [ inl l ↦ second.1 x l | inr l ↦ subst (λ z. z < m.nodes) l first.0 ]
      ] in
      let most : length all ≤ m.nodes = length-le_from_distinct_below all m.nodes distinct (λ q any. inside q (Contains-from_any eqb-true q all any)) in
      let n1 = length-append p.up (p.down ++ p.at ∷ []) in
      let n2 = length-append p.down (p.at ∷ []) in
      let n3 = length-append p.up (p.at ∷ reverse p.down) in
      let n4 = length-reverse p.down in
      let n5 = ap length p.listed in
      omega (arith, most, n1, n2, n3, n4, n5)

  -- the distances of both ends in the packet's tree are together at most three times any walk
  pub stretch : (u v d e : ℕ) → IsRootFor m.edges flags u v r → IsMemberAt m.edges flags r u d → IsMemberAt m.edges flags r v e → (xs : List ℕ) → IsWalk m.edges u xs v → d + e ≤ 3 * walk_length m.edges u xs
  stretch u v d e (inl own) a b xs walk =
      let z = a.least.least u [] (sym own.1) refl in
      let l = b.least.least u xs (sym own.1) walk in
      omega (arith, z, l)
  stretch u v d e (inr other) a b xs walk =
      let near = other.1.1 in
      let q = other.1.0 in
      let far : q ≤ walk_length m.edges u xs = elim (cases_lt (walk_length m.edges u xs) q) [
        | inl lt ↦ absurd (other.0 (
          λ l. (let k = near.0.least u xs l walk in omega (arith, k, lt)),
          (xs, (walk, λ s ys l w. (let k = near.0.least s ys l w in omega (arith, k, lt)))),
        ))
        | inr le ↦ le
      ] in
      let same : e ≡ q = IsLeast-unique m.edges (λ s. s ≡ r) v e q b.least near.2 in
      let way = near.2.attained in
      let back = IsWalk-turned m.edges u xs v walk in
      let round = IsWalk-join m.edges way.0 way.1.1.0 v back.0 u way.1.1.1.0 back.1.0 in
      let most = a.least.least way.0 (way.1.1.0 ++ back.0) way.1.0 round.0 in
      let n1 = round.1 in
      let n2 = back.1.1 in
      let n3 = way.1.1.1.1 in
      omega (arith, far, same, most, n1, n2, n3)

-- one root for a packet
pub one_root : (m : EdgeMap) (flags : List Bool) (u v r s : ℕ) → IsRootFor m flags u v r → IsRootFor m flags u v s → r ≡ s
one_root m flags u v r s (inl a) (inl b) = a.1 ∙ sym b.1
one_root m flags u v r s (inl a) (inr b) = absurd (b.0 a.0)
one_root m flags u v r s (inr a) (inl b) = absurd (a.0 b.0)
one_root m flags u v r s (inr a) (inr b) =
    let p = a.1.1 in
    let q = b.1.1 in
    let d : a.1.0 ≡ b.1.0 = IsLeast-unique m (IsLandmark flags) v a.1.0 b.1.0 p.0 q.0 in
    let le = p.3 s q.1 (subst (IsLeast m (λ z. z ≡ s) v) (sym d) q.2) in
    let ge = q.3 r p.1 (subst (IsLeast m (λ z. z ≡ r) v) d p.2) in
    omega (arith, le, ge)
