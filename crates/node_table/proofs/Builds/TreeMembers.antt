-- The nodes that are reached from a root are the members of one tree.
use Rattle.std.proofs.Common.{◌≡◌, ℕ, zero, suc, ◌+◌, ◌≤◌, ◌<◌, ◌⊎◌, inl, inr, true, sym, refl, ap, subst, ◌∙◌, arith, List, [], ◌∷◌, length, map, get_or}
use Rattle.std.specs.Prelude.{Option, Some, None, slice_index}
use Rattle.std.specs.Option.{unwrap_or}
use Rattle.std.specs.List.{All, Contains}
use Rattle.std.proofs.lemmas.List.{get_or-map, length-map, get_or_default}
use Rattle.std.proofs.lemmas.List.Elements.{All-contains, Contains-get_or}
use Rattle.std.proofs.lemmas.Bool.{cases_order}
use Rattle.graph_edits.specs.Edges.{Network, IsSound, weight_in}
use Rattle.graph_edits.specs.Walks.{IsWalk, IsLeast}
use Rattle.graph_edits.specs.Laws.{IsLeast-unique}
use Rattle.distances.specs.Search.{is_below, Precedes, PrecedesAll, IsAscending}
use Rattle.distances.specs.Reach.{IsTree, IsParent, settled_of}
use Rattle.distances.specs.declared.reach.Reached.{Reached}
use Rattle.route_tree.specs.Members.{AreMembers, IsRoot, HasBoth, HasParentBefore}
use Rattle.route_tree.specs.declared.member.Member.{Member}
use Rattle.schemes.specs.Entry.{Entry}
use Rattle.schemes.specs.Ports.{index_of}
use Rattle.node_table.specs.Columns.{up_by, down_by, member_of, HasMember, LacksMember, AreDistinct, BeginsWith, FitsEntry, IsLaid}
use Rattle.schemes.proofs.Basics.Walks.{symmetric}
use Rattle.schemes.proofs.Basics.Lists.{port_found, Covers, at_most}
use Rattle.schemes.proofs.Basics.Searches.{index_at}
use Rattle.schemes.proofs.Basics.Options.{is_there}
use Rattle.node_table.proofs.Builds.Built.{zero_walk, itself}

-- ---- one of a list

abbrev pub IsIn : {X : Type 0} → X → List X → Type 0
IsIn x [] = ⊥
IsIn x (y ∷ ys) = (x ≡ y) ⊎ IsIn x ys

pub is_in_of : {X : Type 0} (xs : List X) (x : X) → Contains xs x → IsIn x xs
is_in_of [] x c = absurd (omega (arith, c.1))
is_in_of (y ∷ ys) x (zero, l, e) = inl (sym e)
is_in_of (y ∷ ys) x (suc k, l, e) = inr (is_in_of ys x (k, omega (arith, l), e))

pub contains_of : {X : Type 0} (xs : List X) (x : X) → IsIn x xs → Contains xs x
contains_of [] x i = absurd i
contains_of (y ∷ ys) x (inl e) = (0, omega arith, sym e)
contains_of (y ∷ ys) x (inr i) = (let c = contains_of ys x i in (suc c.0, omega (arith, c.1), c.2))

pub all_in : {X : Type 0} (P : X → Type 0) (xs : List X) → All P xs → (x : X) → IsIn x xs → P x
all_in P xs a x i = All-contains P xs x a (contains_of xs x i)

-- an item of a list has its value in the list of values, and each of these is that of an item
pub in_map : {X Y : Type 0} (f : X → Y) (xs : List X) (x : X) → IsIn x xs → IsIn (f x) (map f xs)
in_map f [] x i = absurd i
in_map f (y ∷ ys) x (inl e) = inl (ap f e)
in_map f (y ∷ ys) x (inr i) = inr (in_map f ys x i)

pub map_in : {X Y : Type 0} (f : X → Y) (xs : List X) (y : Y) → IsIn y (map f xs) → (x : X) × (IsIn x xs × (y ≡ f x))
map_in f [] y i = absurd i
map_in f (x ∷ xs) y (inl e) = (x, (inl refl, e))
map_in f (x ∷ xs) y (inr i) = (let k = map_in f xs y i in (k.0, (inr k.1.0, k.1.1)))

pub in_at : {X : Type 0} (xs : List X) (i : ℕ) (d : X) → i < length xs → IsIn (get_or xs i d) xs
in_at xs i d l = is_in_of xs (get_or xs i d) (Contains-get_or xs i d l)

pub at_in : {X : Type 0} (xs : List X) (x d : X) → IsIn x xs → (i : ℕ) × ((i < length xs) × (get_or xs i d ≡ x))
at_in xs x d i = (let c = contains_of xs x i in (c.0, (c.1, get_or_default xs c.0 d x c.1 ∙ c.2)))

-- ---- the order of what is reached

precedes_in : (s : Reached) (ks : List Reached) → PrecedesAll (settled_of s) (map settled_of ks) → (k : Reached) → IsIn k ks → Precedes s.distance s.node k.distance k.node
precedes_in s [] p k i = absurd i
precedes_in s (a ∷ ks) p k (inl e) = subst (λ (z : Reached). Precedes s.distance s.node z.distance z.node) (sym e) p.0
precedes_in s (a ∷ ks) p k (inr i) = precedes_in s ks p.1 k i

precedes_at : (ks : List Reached) → IsAscending (map settled_of ks) → (i j : ℕ) (d : Reached) → i < j → j < length ks → Precedes (get_or ks i d).distance (get_or ks i d).node (get_or ks j d).distance (get_or ks j d).node
precedes_at [] a i j d l m = absurd (omega (arith, m))
precedes_at (k ∷ ks) a zero zero d l m = absurd (omega (arith, l))
precedes_at (k ∷ ks) a zero (suc j) d l m = precedes_in k ks a.0 (get_or ks j d) (in_at ks j d (omega (arith, m)))
precedes_at (k ∷ ks) a (suc i) zero d l m = absurd (omega (arith, l))
precedes_at (k ∷ ks) a (suc i) (suc j) d l m = precedes_at ks a.1 i j d (omega (arith, l)) (omega (arith, m))

not_after : (a b c d : ℕ) → Precedes a b c d → c < a → ⊥
not_after a b c d (inl l) m = omega (arith, l, m)
not_after a b c d (inr e) m = omega (arith, e.0, m)

not_same : (a b c d : ℕ) → Precedes a b c d → a ≡ c → b ≡ d → ⊥
not_same a b c d (inl l) e f = omega (arith, l, e)
not_same a b c d (inr k) e f = omega (arith, k.1, f)

-- ---- lists of members out of it

has_member : (m : Network) (ks : List Reached) (k : Reached) → IsIn k ks → HasMember k.node (map (member_of m) ks)
has_member m [] k i = absurd i
has_member m (a ∷ ks) k (inl e) = inl (ap (λ (z : Reached). z.node) e)
has_member m (a ∷ ks) k (inr i) = inr (has_member m ks k i)

lacks : (m : Network) (a : Reached) (ks : List Reached) → PrecedesAll (settled_of a) (map settled_of ks) → ((k : Reached) → IsIn k ks → a.node ≡ k.node → a.distance ≡ k.distance) → LacksMember a.node (map (member_of m) ks)
lacks m a [] p same = tt
lacks m a (k ∷ ks) p same = ((λ e. not_same a.distance a.node k.distance k.node p.0 (same k (inl refl) e) e), lacks m a ks p.1 (λ j i. same j (inr i)))

pub distinct_members : (m : Network) (ks : List Reached) → IsAscending (map settled_of ks) → ((a b : Reached) → IsIn a ks → IsIn b ks → a.node ≡ b.node → a.distance ≡ b.distance) → AreDistinct (map (member_of m) ks)
distinct_members m [] a same = tt
distinct_members m (k ∷ ks) a same = (lacks m k ks a.0 (λ j i. same k j (inl refl) (inr i)), distinct_members m ks a.1 (λ x y i j. same x y (inr i) (inr j)))

-- the children of y are farther, and all reached
abbrev pub ChildrenReached : (ℕ → Option Entry) → Reached → List Reached → Type 0
ChildrenReached f y ks = (x : ℕ) (e : Entry) → f x ≡ Some e → e.parent ≡ Some y.node → (b : Reached) × (IsIn b ks × ((b.node ≡ x) × (y.distance < b.distance)))

pub laid_members : (m : Network) (f : ℕ → Option Entry) (ks : List Reached) → IsAscending (map settled_of ks) → ((k : Reached) → IsIn k ks → FitsEntry m f (member_of m k)) → ((y : Reached) → IsIn y ks → ChildrenReached f y ks)
    → IsLaid m f (map (member_of m) ks)
laid_members m f [] a fits kids = tt
laid_members m f (k ∷ ks) a fits kids = (fits k (inl refl), ((λ x e g p. head x e g p), laid_members m f ks a.1 (λ j i. fits j (inr i)) tail))
  where
    head : (x : ℕ) (e : Entry) → f x ≡ Some e → e.parent ≡ Some k.node → HasMember x (map (member_of m) ks)
    head x e g p = (let b = kids k (inl refl) x e g p in elim b.1.0 [
      | inl same ↦ absurd (let d = ap (λ (z : Reached). z.distance) same in omega (arith, d, b.1.1.1))
      | inr i ↦ subst (λ z. HasMember z (map (member_of m) ks)) b.1.1.0 (has_member m ks b.0 i)
    ])

    tail : (y : Reached) → IsIn y ks → ChildrenReached f y ks
    tail y i x e g p = (let b = kids y (inr i) x e g p in elim b.1.0 [
      | inl same ↦ absurd (let d = ap (λ (z : Reached). z.distance) same in not_after k.distance k.node y.distance y.node (precedes_in k ks a.0 y i) (omega (arith, d, b.1.1.1)))
      | inr j ↦ (b.0, (j, b.1.1))
    ])

walk_inside : (m : Network) → IsSound m → (u : ℕ) (xs : List ℕ) (v : ℕ) → u < m.nodes → IsWalk m.edges u xs v → v < m.nodes
walk_inside m s u [] v i w = subst (λ z. z < m.nodes) w i
walk_inside m s u (x ∷ xs) v i w = (let c = is_there (weight_in m u x) w.0 in walk_inside m s x xs v (s.within u x c.0 c.1).1 w.1)

module _ (m : Network) (sound : IsSound m) (r : ℕ) (r_in : r < m.nodes) (limit : ℕ → Option ℕ) (ks : List Reached) (h : IsTree m.edges r limit ks) (root_within : is_below 0 (limit r) ≡ true) where
  pub exact_in : (k : Reached) → IsIn k ks → IsLeast m.edges (λ s. s ≡ r) k.node k.distance × (is_below k.distance (limit k.node) ≡ true)
  exact_in k i = all_in (λ (z : Reached). IsLeast m.edges (λ s. s ≡ r) z.node z.distance × (is_below z.distance (limit z.node) ≡ true)) ks h.exact k i

  pub parent_in : (k : Reached) → IsIn k ks → IsParent m.edges r ks k.node k.distance k.parent
  parent_in k i = all_in (λ (z : Reached). IsParent m.edges r ks z.node z.distance z.parent) ks h.parents k i

  pub same_distance : (a b : Reached) → IsIn a ks → IsIn b ks → a.node ≡ b.node → a.distance ≡ b.distance
  same_distance a b i j e = IsLeast-unique m.edges (λ s. s ≡ r) b.node a.distance b.distance (subst (λ z. IsLeast m.edges (λ s. s ≡ r) z a.distance) e (exact_in a i).0) (exact_in b j).0

  pub reached_inside : (k : Reached) → IsIn k ks → k.node < m.nodes
  reached_inside k i = (let at = (exact_in k i).0.attained in walk_inside m sound at.0 at.1.1.0 k.node (subst (λ z. z < m.nodes) (sym at.1.0) r_in) at.1.1.1.0)

  pub root_reached : (k : Reached) × (IsIn k ks × (k.node ≡ r))
  root_reached = (let c = h.complete r 0 (itself m r) root_within in (c.0, (is_in_of ks c.0 c.1.0, c.1.1)))

  -- the member from which another is reached
  pub parent_reached : (k : Reached) (y : ℕ) → IsIn k ks → k.parent ≡ Some y → (j : Reached) × ((w : ℕ) × (IsIn j ks × ((j.node ≡ y) × ((weight_in m y k.node ≡ Some w) × (j.distance + w ≡ k.distance)))))
  parent_reached k y i e =
      let p = subst (IsParent m.edges r ks k.node k.distance) e (parent_in k i) in
      (p.1.0, (p.1.1, (is_in_of ks p.1.0 p.1.2.0, (p.1.2.1, (p.1.2.2, p.1.2.3)))))

  pub no_parent_root : (k : Reached) → IsIn k ks → k.parent ≡ None → k.node ≡ r
  no_parent_root k i e = subst (IsParent m.edges r ks k.node k.distance) e (parent_in k i)

  pub root_no_parent : (k : Reached) → IsIn k ks → k.node ≡ r → k.parent ≡ None
  root_no_parent k i e = go k.parent refl
    where
      go : (o : Option ℕ) → k.parent ≡ o → o ≡ None
      go None q = refl
      go (Some y) q = absurd ((subst (IsParent m.edges r ks k.node k.distance) q (parent_in k i)).0 e)

  pub farther : (k : Reached) (y : ℕ) → IsIn k ks → k.parent ≡ Some y → (j : Reached) × (IsIn j ks × ((j.node ≡ y) × (j.distance < k.distance)))
  farther k y i e =
      let p = parent_reached k y i e in
      let pos = (sound.weighted y k.node p.1.0 p.1.1.1.1.0).0 in
      (p.0, (p.1.1.0, (p.1.1.1.0, omega (arith, p.1.1.1.1.1, pos))))

  pub apart : (i j : ℕ) (z : Reached) → i < j → j < length ks → (get_or ks i z).node ≡ (get_or ks j z).node → ⊥
  apart i j z l n e =
      not_same (get_or ks i z).distance (get_or ks i z).node (get_or ks j z).distance (get_or ks j z).node (precedes_at ks h.ascending i j z l n)
      (same_distance (get_or ks i z) (get_or ks j z) (in_at ks i z (omega (arith, l, n))) (in_at ks j z n) e) e

  member_at : (i : ℕ) (d : Member) (z : Reached) → i < length ks → get_or (map (member_of m) ks) i d ≡ member_of m (get_or ks i z)
  member_at i d z l = get_or-map (member_of m) ks i z d l

  pub one_place : (i j : ℕ) (z : Reached) → i < length ks → j < length ks → (get_or ks i z).node ≡ (get_or ks j z).node → i ≡ j
  one_place i j z l n e = elim (cases_order i j) [
    | inl same ↦ same
    | inr (inl k) ↦ absurd (apart i j z k n e)
    | inr (inr k) ↦ absurd (apart j i z k l (sym e))
  ]

  -- the first that is reached is the root
  first_root : (z : Reached) → (0 < length ks) × ((get_or ks 0 z).node ≡ r)
  first_root z =
      let k = root_reached in
      let at = at_in ks k.0 z k.1.0 in
      let node_is : (get_or ks at.0 z).node ≡ r = ap (λ (y : Reached). y.node) at.1.1 ∙ k.1.1 in
      (omega (arith, at.1.0), first at.0 at.1.0 node_is)
    where
      first : (i : ℕ) → i < length ks → (get_or ks i z).node ≡ r → (get_or ks 0 z).node ≡ r
      first zero l e = e
      first (suc i) l e =
          let there = in_at ks (suc i) z l in
          let here = in_at ks 0 z (omega (arith, l)) in
          let zero_far : (get_or ks (suc i) z).distance ≡ 0 = IsLeast-unique m.edges (λ s. s ≡ r) r (get_or ks (suc i) z).distance 0 (subst (λ y. IsLeast m.edges (λ s. s ≡ r) y (get_or ks (suc i) z).distance) e (exact_in (get_or ks (suc i) z) there).0) (itself m r) in
          elim (precedes_at ks h.ascending 0 (suc i) z (omega arith) l) [
            | inl lt ↦ absurd (omega (arith, lt, zero_far))
            | inr eq ↦ (
                let at = (exact_in (get_or ks 0 z) here).0.attained in
                sym (sym at.1.0 ∙ zero_walk m sound at.0 at.1.1.0 (get_or ks 0 z).node at.1.1.1.0 (at.1.1.1.1 ∙ eq.0 ∙ zero_far)))
          ]

  few_reached : (z : Reached) → length ks ≤ m.nodes
  few_reached z = at_most m.nodes (λ x. unwrap_or (index_of x (map (λ (k : Reached). k.node) ks)) 0) (length ks) covers
    where
      ns : List ℕ
      ns = map (λ (k : Reached). k.node) ks

      key : (i : ℕ) → i < length ks → slice_index ns i ≡ (get_or ks i z).node
      key i l = get_or-map (λ (k : Reached). k.node) ks i z 0 l

      covers : Covers (λ x. unwrap_or (index_of x (map (λ (k : Reached). k.node) ks)) 0) m.nodes (length ks)
      covers i l =
          let there = in_at ks i z l in
          let found = index_at ns (get_or ks i z).node i (let n = length-map ks (λ (k : Reached). k.node) in omega (arith, n, l)) (key i l)
          (λ j lt e. apart j i z lt l (sym (key j (omega (arith, lt, l))) ∙ e)) in
          ((get_or ks i z).node, (reached_inside (get_or ks i z) there, ap (λ o. unwrap_or o 0) found))

  members_length : length (map (member_of m) ks) ≡ length ks
  members_length = length-map ks (member_of m)

  not_root : (k : ℕ) (z : Reached) → 0 < k → k < length ks → (get_or ks k z).node ≡ r → ⊥
  not_root k z l n e = apart 0 k z l n ((first_root z).1 ∙ sym e)

  has_parent : (k : ℕ) (z : Reached) → 0 < k → k < length ks → (y : ℕ) × ((get_or ks k z).parent ≡ Some y)
  has_parent k z l n = go (get_or ks k z).parent refl
    where
      go : (o : Option ℕ) → (get_or ks k z).parent ≡ o → (y : ℕ) × ((get_or ks k z).parent ≡ Some y)
      go None e = absurd (not_root k z l n (no_parent_root (get_or ks k z) (in_at ks k z n) e))
      go (Some y) e = (y, e)

  root_member : (z : Reached) → IsRoot (member_of m (get_or ks 0 z))
  root_member z =
      let first = first_root z in
      let none = root_no_parent (get_or ks 0 z) (in_at ks 0 z first.0) first.1 in
      record { parent = none; up = ap (up_by m (get_or ks 0 z).node) none; down = ap (down_by m (get_or ks 0 z).node) none }

  both_ports : (k : ℕ) (z : Reached) → 0 < k → k < length ks → HasBoth (member_of m (get_or ks k z))
  both_ports k z l n =
      let p = has_parent k z l n in
      let x = (get_or ks k z).node in
      let g = parent_reached (get_or ks k z) p.0 (in_at ks k z n) p.1 in
      let w = g.1.1.1.1.0 in
      let a = port_found m sound x p.0 g.1.0 (symmetric m x p.0 ∙ w) in
      let b = port_found m sound p.0 x g.1.0 w in
      record { up = (a.0, ap (up_by m x) p.1 ∙ a.1); down = (b.0, ap (down_by m x) p.1 ∙ b.1) }

  parent_before : (k : ℕ) (z : Reached) → 0 < k → k < length ks → HasParentBefore (map (member_of m) ks) k (member_of m (get_or ks k z))
  parent_before k z l n =
      let p = has_parent k z l n in
      let f = farther (get_or ks k z) p.0 (in_at ks k z n) p.1 in
      let at = at_in ks f.0 z f.1.0 in (
        at.0,
        (
          sooner at.0 at.1.0 (let e = ap (λ (y : Reached). y.distance) at.1.1 in omega (arith, e, f.1.1.1)),
          λ d. p.1 ∙ ap (λ y. Some y) (sym (ap (λ (y : Member). y.node) (member_at at.0 d z at.1.0) ∙ ap (λ (y : Reached). y.node) at.1.1 ∙ f.1.1.0)),
        ),
      )
    where
      sooner : (j : ℕ) → j < length ks → (get_or ks j z).distance < (get_or ks k z).distance → j < k
      sooner j lj lt = elim (cases_order j k) [
        | inl same ↦ (let d = ap (λ i. (get_or ks i z).distance) same in omega (arith, d, lt))
        | inr (inl b) ↦ b
        | inr (inr b) ↦ absurd (not_after (get_or ks k z).distance (get_or ks k z).node (get_or ks j z).distance (get_or ks j z).node (precedes_at ks h.ascending k j z b lj) lt)
      ]

  pub reached_members : (z : Reached) → AreMembers (map (member_of m) ks)
  reached_members z = record {
    some = (let f = (first_root z).0 in omega (arith, members_length, f));
    few = (let f = few_reached z in let n = sound.nodes_fit.1 in omega (arith, members_length, f, n));
    once = λ i j d e li lj same. one_place i j z (omega (arith, li, members_length)) (omega (arith, lj, members_length))
        (sym (ap (λ (y : Member). y.node) (member_at i d z (omega (arith, li, members_length)))) ∙ same ∙ ap (λ (y : Member). y.node) (member_at j e z (omega (arith, lj, members_length))));
    root = λ d. subst IsRoot (sym (member_at 0 d z (first_root z).0)) (root_member z);
    ports = λ k d l n. subst HasBoth (sym (member_at k d z (omega (arith, n, members_length)))) (both_ports k z l (omega (arith, n, members_length)));
    parents = λ k d l n. subst (HasParentBefore (map (member_of m) ks) k) (sym (member_at k d z (omega (arith, n, members_length)))) (parent_before k z l (omega (arith, n, members_length)));
  }

  pub begins_with_root : BeginsWith r (map (member_of m) ks)
  begins_with_root = go ks (first_root nobody).0 (first_root nobody).1
    where
      nobody : Reached
      nobody = record { node = 0; distance = 0; parent = None }

      go : (xs : List Reached) → 0 < length xs → (get_or xs 0 nobody).node ≡ r → BeginsWith r (map (member_of m) xs)
      go [] l e = absurd (omega (arith, l))
      go (x ∷ xs) l e = e
