-- Rows are the tree of their root: from what was reached and what was numbered to all that is known of the tree.
use Rattle.std.proofs.Common.{◌≡◌, ℕ, ◌+◌, ◌≤◌, ◌<◌, ◌==◌, inl, inr, Bool, true, false, cond, sym, refl, ap, subst, ◌∙◌, arith, List, [], ◌∷◌, length, map, get_or, IsPermutation}
use Rattle.std.specs.Prelude.{Option, Some, None, IsSome, ◌↔◌, nat_eq}
use Rattle.std.specs.Option.{option_map}
use Rattle.std.specs.List.{All, AllByRecursion, Contains, IsDistinct}
use Rattle.std.proofs.lemmas.List.Sorted.{Contains-permutation, IsPermutation-sym}
use Rattle.std.proofs.lemmas.Map.Keys.{IsDistinct-IsPermutation, IsDistinct-head, IsDistinct-tail}
use Rattle.std.proofs.lemmas.Bool.{eqb-true, eq-eqb, both_ways, cases_eq, cond_both, eqb-false, ne_eqb}
use Rattle.std.proofs.lemmas.List.{length-map}
use Rattle.std.proofs.lemmas.List.Elements.{All-contains, All-map, Contains-get_or}
use Rattle.std.proofs.lemmas.Simd.{map-map}
use Rattle.graph_edits.specs.Edges.{Network, IsSound}
use Rattle.graph_edits.specs.Walks.{IsLeast}
use Rattle.distances.specs.Search.{is_below}
use Rattle.distances.specs.Reach.{IsTree, IsParent, IsTight}
use Rattle.distances.specs.declared.reach.Reached.{Reached}
use Rattle.route_tree.specs.declared.member.TheConstants.{MOST_MEMBERS}
use Rattle.route_tree.specs.Rose.{Tree}
use Rattle.route_tree.specs.Growth.{subtrees, first_or}
use Rattle.route_tree.specs.Members.{AreMembers}
use Rattle.route_tree.specs.declared.member.Member.{Member}
use Rattle.heavy_labels.specs.Numbered.{Brief, IsListed, seen, head_brief}
use Rattle.heavy_labels.specs.Numbering.{Line, Place, tree_lines, Among}
use Rattle.heavy_labels.specs.Stepped.{record_of}
use Rattle.heavy_labels.specs.declared.numbered_member.NumberedMember.{NumberedMember}
use Rattle.schemes.specs.Entry.{Entry}
use Rattle.schemes.specs.Checks.{up_port, down_port}
use Rattle.node_table.specs.Columns.{up_by, down_by, member_of, LacksMember, AreDistinct, FitsEntry, IsTightFrom, IsParentIn, IsColumn}
use Rattle.node_table.specs.RowLists.{Row, nodes_numbered, row_at, entry_in, label_in}
use Rattle.node_table.proofs.Builds.MadeRows.{IsRowOf, IsRowFrom, IsRowList}
use Rattle.node_table.proofs.Builds.TreeMembers.{IsIn, is_in_of, contains_of, all_in, distinct_members, laid_members, ChildrenReached, same_distance, farther, begins_with_root, at_in, in_at, one_place, exact_in, parent_in, reached_inside, reached_members, in_map, map_in}
use Rattle.schemes.proofs.Basics.Options.{some_is, same_value, not_none}

-- ---- lists of nodes

reached_nodes : (m : Network) (ks : List Reached) → map (λ (a : Member). a.node) (map (member_of m) ks) ≡ map (λ (k : Reached). k.node) ks
reached_nodes m ks = map-map (λ (a : Member). a.node) (member_of m) ks

lacks_all : (x : ℕ) (ms : List Member) → LacksMember x ms → AllByRecursion (λ y. nat_eq x y ≡ false) (map (λ (a : Member). a.node) ms)
lacks_all x [] l = tt
lacks_all x (a ∷ ms) l = (ne_eqb x a.node l.0, lacks_all x ms l.1)

distinct_nodes : (ms : List Member) → AreDistinct ms → IsDistinct nat_eq (map (λ (a : Member). a.node) ms)
unfolding IsDistinct
distinct_nodes [] d = tt
distinct_nodes (a ∷ ms) d = (lacks_all a.node ms d.0, distinct_nodes ms d.1)

pub flips : (x y : ℕ) → nat_eq x y ≡ nat_eq y x
flips x y = elim (cases_eq x y) [
  | inl e ↦ eq-eqb x y e ∙ sym (eq-eqb y x (sym e))
  | inr ne ↦ ne_eqb x y ne ∙ sym (ne_eqb y x (λ e. ne (sym e)))
]

apart_in : (x : ℕ) (ns : List NumberedMember) → AllByRecursion (λ y. nat_eq x y ≡ false) (map (λ (a : NumberedMember). a.node) ns) → (n : NumberedMember) → IsIn n ns → x ≡ n.node → ⊥
apart_in x [] a n i e = i
apart_in x (b ∷ ns) a n (inl s) e = both_ways (nat_eq x b.node) a.0 (eq-eqb x b.node (e ∙ ap (λ (z : NumberedMember). z.node) s))
apart_in x (b ∷ ns) a n (inr i) e = apart_in x ns a.1 n i e

same_numbered : (ns : List NumberedMember) → IsDistinct nat_eq (map (λ (a : NumberedMember). a.node) ns) → (a b : NumberedMember) → IsIn a ns → IsIn b ns → a.node ≡ b.node → a ≡ b
same_numbered [] d a b i j e = absurd i
same_numbered (n ∷ ns) d a b (inl p) (inl q) e = p ∙ sym q
same_numbered (n ∷ ns) d a b (inl p) (inr j) e = absurd (apart_in n.node ns (IsDistinct-head nat_eq n.node (map (λ (z : NumberedMember). z.node) ns) d) b j (ap (λ (z : NumberedMember). z.node) (sym p) ∙ e))
same_numbered (n ∷ ns) d a b (inr i) (inl q) e = absurd (apart_in n.node ns (IsDistinct-head nat_eq n.node (map (λ (z : NumberedMember). z.node) ns) d) a i (ap (λ (z : NumberedMember). z.node) (sym q) ∙ sym e))
same_numbered (n ∷ ns) d a b (inr i) (inr j) e = same_numbered ns (IsDistinct-tail nat_eq n.node (map (λ (z : NumberedMember). z.node) ns) d) a b i j e

-- ---- rows

pub row_found : (ws : List Row) (x : ℕ) (w : Row) → row_at ws x ≡ Some w → IsIn w ws × (w.node ≡ x)
row_found [] x w e = absurd (not_none e refl)
row_found (a ∷ ws) x w e = cond_both (a.node == x) (Some a) (row_at ws x) (λ o. o ≡ Some w → IsIn w (a ∷ ws) × (w.node ≡ x))
    (λ t q. (let s : a ≡ w = same_value refl q in (inl (sym s), ap (λ (z : Row). z.node) (sym s) ∙ eqb-true a.node x t))) (λ _ q. (let k = row_found ws x w q in (inr k.0, k.1))) e

pub row_there : (ws : List Row) (x : ℕ) (w : Row) → IsIn w ws → w.node ≡ x → (v : Row) × (row_at ws x ≡ Some v)
row_there [] x w i e = absurd i
row_there (a ∷ ws) x w i e = go (a.node == x) refl i (λ j. row_there ws x w j e)
  where
    go : (b : Bool) → (a.node == x) ≡ b → IsIn w (a ∷ ws) → (IsIn w ws → (v : Row) × (row_at ws x ≡ Some v)) → (v : Row) × (cond b (Some a) (row_at ws x) ≡ Some v)
    go true t j ih = (a, refl)
    go false t (inl s) ih = absurd (eqb-false a.node x t (ap (λ (z : Row). z.node) (sym s) ∙ e))
    go false t (inr j) ih = ih j

-- the ports of a member are those of its entry
up_is : (m : Network) (x : ℕ) (e : Entry) (o : Option ℕ) → e.parent ≡ o → up_by m x o ≡ up_port m x (Some e)
up_is m x e None h = rw h refl
up_is m x e (Some y) h = rw h refl

down_is : (m : Network) (x : ℕ) (e : Entry) (o : Option ℕ) → e.parent ≡ o → down_by m x o ≡ down_port m x (Some e)
down_is m x e None h = rw h refl
down_is m x e (Some y) h = rw h refl

head_among : (p : Place) (above : Line) (all : List Line) → Among (p ∷ above) all → IsListed (head_brief (p ∷ above)) (map head_brief all)
head_among p above [] a = absurd a
head_among p above (l ∷ all) (inl e) = inl (ap head_brief e)
head_among p above (l ∷ all) (inr a) = inr (head_among p above all a)

seen_in : (ns : List NumberedMember) (b : Brief) → IsListed b (map seen ns) → (n : NumberedMember) × (IsIn n ns × (b ≡ seen n))
seen_in [] b i = absurd i
seen_in (n ∷ ns) b (inl e) = (n, (inl refl, e))
seen_in (n ∷ ns) b (inr i) = (let k = seen_in ns b i in (k.0, (inr k.1.0, k.1.1)))

module _ (m : Network) (sound : IsSound m) (r : ℕ) (r_in : r < m.nodes) (limit : ℕ → Option ℕ) (ks : List Reached) (h : IsTree m.edges r limit ks) (root_within : is_below 0 (limit r) ≡ true)
    (ns : List NumberedMember) (named : (d : Tree) (b : Brief) → IsListed b (map head_brief (tree_lines (first_or d (subtrees (map (member_of m) ks))))) → IsListed b (map seen ns))
    (same : IsPermutation (map (λ (a : Member). a.node) (map (member_of m) ks)) (map (λ (n : NumberedMember). n.node) ns))
    (ws : List Row) (rows : IsRowList r ks ns ws) where
  same_reached : (a b : Reached) → IsIn a ks → IsIn b ks → a.node ≡ b.node → a ≡ b
  same_reached a b i j e =
      let p = at_in ks a a i in
      let q = at_in ks b a j in
      let eq = one_place m sound r r_in limit ks h root_within p.0 q.0 a p.1.0 q.1.0 (ap (λ (z : Reached). z.node) p.1.1 ∙ e ∙ ap (λ (z : Reached). z.node) (sym q.1.1)) in
      sym p.1.1 ∙ ap (λ i. get_or ks i a) eq ∙ q.1.1

  -- what a row is made of
  parts_of : (w : Row) → IsIn w ws → (k : Reached) × ((n : NumberedMember) × (IsIn k ks × (IsIn n ns × IsRowOf r k n w)))
  parts_of w i = (let g = all_in (IsRowFrom r ks ns) ws rows.each w i in (g.0, (g.1, (is_in_of ks g.0 g.2.0, (is_in_of ns g.1 g.2.1, g.2.2)))))

  row_of : (x : ℕ) (e : Entry) → entry_in ws x ≡ Some e → (w : Row) × ((row_at ws x ≡ Some w) × (w.entry ≡ e))
  row_of x e g = go (row_at ws x) refl g
    where
      go : (o : Option Row) → row_at ws x ≡ o → option_map (λ w. w.entry) o ≡ Some e → (w : Row) × ((row_at ws x ≡ Some w) × (w.entry ≡ e))
      go None q k = absurd (not_none k refl)
      go (Some w) q k = (w, (q, same_value refl k))

  -- a node with an entry was reached
  reached_of : (x : ℕ) (e : Entry) → entry_in ws x ≡ Some e → (k : Reached) × (IsIn k ks × ((k.node ≡ x) × ((e.distance ≡ k.distance) × (e.parent ≡ k.parent))))
  reached_of x e g =
      let w = row_of x e g in
      let f = row_found ws x w.0 w.1.0 in
      let p = parts_of w.0 f.0 in
      let o = p.1.1.1.1 in
      (p.0, (p.1.1.0, (sym o.reached ∙ f.1, (ap (λ (z : Entry). z.distance) (sym w.1.1) ∙ o.distance, ap (λ (z : Entry). z.parent) (sym w.1.1) ∙ o.parent))))

  -- and what was reached has an entry
  entry_of : (k : Reached) → IsIn k ks → (e : Entry) × ((entry_in ws k.node ≡ Some e) × ((e.distance ≡ k.distance) × (e.parent ≡ k.parent)))
  entry_of k i =
      let there = subst (IsIn k.node) (sym (reached_nodes m ks)) (in_map (λ (z : Reached). z.node) ks k i) in
      let among = Contains-permutation (map (λ (a : Member). a.node) (map (member_of m) ks)) (nodes_numbered ns) k.node same (contains_of (map (λ (a : Member). a.node) (map (member_of m) ks)) k.node there) in
      let w = map_in (λ (z : Row). z.node) ws k.node (subst (IsIn k.node) (sym rows.nodes) (is_in_of (nodes_numbered ns) k.node among)) in
      let v = row_there ws k.node w.0 w.1.0 (sym w.1.1) in
      let is : entry_in ws k.node ≡ Some v.0.entry = ap (λ o. option_map (λ z. z.entry) o) v.1 in
      let back = reached_of k.node v.0.entry is in
      let one = same_reached back.0 k back.1.0 i back.1.1.0 in
      (v.0.entry, (is, (back.1.1.1.0 ∙ ap (λ (z : Reached). z.distance) one, back.1.1.1.1 ∙ ap (λ (z : Reached). z.parent) one)))

  entry_exact : (x : ℕ) (e : Entry) → entry_in ws x ≡ Some e → IsLeast m.edges (λ s. s ≡ r) x e.distance × (is_below e.distance (limit x) ≡ true)
  entry_exact x e g =
      let k = reached_of x e g in
      let P : ℕ → ℕ → Type 0 = λ y d. IsLeast m.edges (λ s. s ≡ r) y d × (is_below d (limit y) ≡ true) in
      subst (P x) (sym k.1.1.1.0) (subst (λ y. P y k.0.distance) k.1.1.0 (exact_in m sound r r_in limit ks h root_within k.0 k.1.0))

  entry_complete : (x d : ℕ) → IsLeast m.edges (λ s. s ≡ r) x d → is_below d (limit x) ≡ true → IsSome (entry_in ws x)
  entry_complete x d l b =
      let c = h.complete x d l b in
      let e = entry_of c.0 (is_in_of ks c.0 c.1.0) in
      subst (λ y. IsSome (entry_in ws y)) c.1.1 (some_is e.1.0)

  tight_from : (x d y : ℕ) → IsTight m.edges ks x d y → IsTightFrom m (entry_in ws) x d y
  tight_from x d y g =
      let e = entry_of g.0 (is_in_of ks g.0 g.2.0) in
      (e.0, (g.1, (ap (entry_in ws) (sym g.2.1) ∙ e.1.0, (g.2.2, ap (λ z. z + g.1) e.1.1.0 ∙ g.2.3))))

  tight_in : (x d y : ℕ) → IsTightFrom m (entry_in ws) x d y → IsTight m.edges ks x d y
  tight_in x d y g =
      let k = reached_of y g.0 g.1.1.0 in
      (k.0, g.1.0, (contains_of ks k.0 k.1.0, k.1.1.0, g.1.1.1.0, ap (λ z. z + g.1.0) (sym k.1.1.1.0) ∙ g.1.1.1.1))

  parent_from : (x d : ℕ) (o : Option ℕ) → IsParent m.edges r ks x d o → IsParentIn m (entry_in ws) r x d o
  parent_from x d None g = g
  parent_from x d (Some y) g = (g.0, (tight_from x d y g.1, λ z t. g.2 z (tight_in x d z t)))

  entry_parents : (x : ℕ) (e : Entry) → entry_in ws x ≡ Some e → IsParentIn m (entry_in ws) r x e.distance e.parent
  entry_parents x e g =
      let k = reached_of x e g in
      let P : ℕ → ℕ → Option ℕ → Type 0 = λ y d o. IsParentIn m (entry_in ws) r y d o in
      subst (P x e.distance) (sym k.1.1.1.1) (subst (λ d. P x d k.0.parent) (sym k.1.1.1.0) (subst (λ y. P y k.0.distance k.0.parent) k.1.1.0
      (parent_from k.0.node k.0.distance k.0.parent (parent_in m sound r r_in limit ks h root_within k.0 k.1.0))))

  entry_labelled : (x : ℕ) → IsSome (entry_in ws x) ↔ IsSome (label_in ws x)
  entry_labelled x = go (row_at ws x)
    where
      go : (o : Option Row) → IsSome (option_map (λ w. w.entry) o) ↔ IsSome (option_map (λ w. w.label) o)
      go None = (λ e. e, λ e. e)
      go (Some w) = (λ e. refl, λ e. refl)

  member_fits : (k : Reached) → IsIn k ks → FitsEntry m (entry_in ws) (member_of m k)
  member_fits k i =
      let e = entry_of k i in
      record { entry = e.0; is = e.1.0; parent = e.1.1.1; up = up_is m k.node e.0 k.parent e.1.1.1; down = down_is m k.node e.0 k.parent e.1.1.1 }

  children_reached : (y : Reached) → IsIn y ks → ChildrenReached (entry_in ws) y ks
  children_reached y i x e g p =
      let k = reached_of x e g in
      let j = farther m sound r r_in limit ks h root_within k.0 y.node k.1.0 (sym k.1.1.1.1 ∙ p) in
      let d = same_distance m sound r r_in limit ks h root_within j.0 y j.1.0 i j.1.1.0 in
      (k.0, (k.1.0, (k.1.1.0, omega (arith, d, j.1.1.1))))

  numbered_distinct : IsDistinct nat_eq (map (λ (n : NumberedMember). n.node) ns)
  numbered_distinct =
      IsDistinct-IsPermutation nat_eq flips (map (λ (a : Member). a.node) (map (member_of m) ks)) (map (λ (n : NumberedMember). n.node) ns) same
      (distinct_nodes (map (member_of m) ks) (distinct_members m ks h.ascending (same_distance m sound r r_in limit ks h root_within)))

  numbered_reached : (n : NumberedMember) → IsIn n ns → (k : Reached) × (IsIn k ks × (n.node ≡ k.node))
  numbered_reached n i =
      let among = Contains-permutation (nodes_numbered ns) (map (λ (a : Member). a.node) (map (member_of m) ks)) n.node
      (IsPermutation-sym (map (λ (a : Member). a.node) (map (member_of m) ks)) (nodes_numbered ns) same)
      (contains_of (nodes_numbered ns) n.node (in_map (λ (z : NumberedMember). z.node) ns n i)) in
      map_in (λ (z : Reached). z.node) ks n.node (subst (IsIn n.node) (reached_nodes m ks) (is_in_of (map (λ (a : Member). a.node) (map (member_of m) ks)) n.node among))

  line_entry : (d : Tree) (p : Place) (above : Line) → Among (p ∷ above) (tree_lines (first_or d (subtrees (map (member_of m) ks))))
      → (e : Entry) × ((entry_in ws p.node ≡ Some e) × ((record_of e.tree_record ≡ p.tree_record) × (label_in ws p.node ≡ Some p.label)))
  line_entry d p above a =
      let listed = named d (head_brief (p ∷ above)) (head_among p above (tree_lines (first_or d (subtrees (map (member_of m) ks)))) a) in
      let n = seen_in ns (head_brief (p ∷ above)) listed in
      let node_is : n.0.node ≡ p.node = ap (λ (b : Brief). b.0) (sym n.1.1) in
      let k = numbered_reached n.0 n.1.0 in
      let e = entry_of k.0 k.1.0 in
      let is : entry_in ws p.node ≡ Some e.0 = ap (entry_in ws) (sym node_is ∙ k.1.1) ∙ e.1.0 in
      let w = row_of p.node e.0 is in
      let f = row_found ws p.node w.0 w.1.0 in
      let g = parts_of w.0 f.0 in
      let o = g.1.1.1.1 in
      let one : g.1.0 ≡ n.0 = same_numbered ns numbered_distinct g.1.0 n.0 g.1.1.1.0 n.1.0 (sym o.numbered ∙ f.1 ∙ sym node_is) in (
        e.0,
        (
          is,
          (
            ap (λ (z : Entry). record_of z.tree_record) (sym w.1.1) ∙ ap record_of o.tree_record ∙ ap (λ (z : NumberedMember). record_of z.tree_record) one ∙ ap (λ (b : Brief). b.1.0) (sym n.1.1),
            ap (λ q. option_map (λ z. z.label) q) w.1.0 ∙ ap (λ z. Some z) (o.label ∙ ap (λ (z : NumberedMember). z.label) one ∙ ap (λ (b : Brief). b.1.1) (sym n.1.1)),
          ),
        ),
      )

  pub rows_column : IsColumn m limit r (entry_in ws) (label_in ws)
  rows_column = record {
    exact = entry_exact;
    complete = entry_complete;
    parents = entry_parents;
    labelled = entry_labelled;
    members = map (member_of m) ks;
    distinct = distinct_members m ks h.ascending (same_distance m sound r r_in limit ks h root_within);
    begins = begins_with_root m sound r r_in limit ks h root_within;
    laid = laid_members m (entry_in ws) ks h.ascending member_fits children_reached;
    lines = line_entry;
  }

-- the same, where members and numbered members stand in lists that are equal to these
pub column_of : (m : Network) → IsSound m → (r : ℕ) → r < m.nodes → (limit : ℕ → Option ℕ) (ks : List Reached) → IsTree m.edges r limit ks → is_below 0 (limit r) ≡ true
    → (all : List Member) → all ≡ map (λ k. member_of m k) ks → (nm ns : List NumberedMember) → ns ≡ nm
    → ((d : Tree) (b : Brief) → IsListed b (map head_brief (tree_lines (first_or d (subtrees all)))) → IsListed b (map seen nm)) → IsPermutation (map (λ (a : Member). a.node) all) (map (λ (n : NumberedMember). n.node) nm)
    → (ws : List Row) → IsRowList r ks ns ws → IsColumn m limit r (entry_in ws) (label_in ws)
column_of m s r i limit ks tree below all e nm ns q lines perm ws rows =
    rows_column m s r i limit ks tree below nm (λ d b i. lines d b (subst (λ z. IsListed b (map head_brief (tree_lines (first_or d (subtrees z))))) (sym e) i))
    (subst (λ z. IsPermutation (map (λ (a : Member). a.node) z) (map (λ (n : NumberedMember). n.node) nm)) e perm) ws (subst (λ z. IsRowList r ks z ws) q rows)

module _ (m : Network) (sound : IsSound m) (r : ℕ) (r_in : r < m.nodes) (ks : List Reached) (h : (limit : ℕ → Option ℕ) × (IsTree m.edges r limit ks × (is_below 0 (limit r) ≡ true))) where
  pub are_members : AreMembers (map (member_of m) ks)
  are_members = reached_members m sound r r_in h.0 ks h.1.0 h.1.1 (record { node = 0; distance = 0; parent = None })

  pub few_members : length ks ≤ MOST_MEMBERS
  few_members = (let n = length-map ks (member_of m) in let f = are_members.few in omega (arith, n, f))

  pub nodes_inside : All (λ x. x < m.nodes) (map (λ (k : Reached). k.node) ks)
  nodes_inside = All-map (λ x. x < m.nodes) (λ (k : Reached). k.node) ks (λ i d l. reached_inside m sound r r_in h.0 ks h.1.0 h.1.1 (get_or ks i d) (in_at ks i d l))

  pub numbers_reached : (ns : List NumberedMember) → IsPermutation (map (λ (a : Member). a.node) (map (member_of m) ks)) (nodes_numbered ns) → All (λ x. Contains (map (λ (k : Reached). k.node) ks) x) (nodes_numbered ns)
  numbers_reached ns same i d l =
      let x = get_or (nodes_numbered ns) i d in
      let xs = map (λ (a : Member). a.node) (map (member_of m) ks) in
      subst (λ ys. Contains ys x) (reached_nodes m ks) (Contains-permutation (nodes_numbered ns) xs x (IsPermutation-sym xs (nodes_numbered ns) same) (Contains-get_or (nodes_numbered ns) i d l))

  pub numbers_inside : (ns : List NumberedMember) → IsPermutation (map (λ (a : Member). a.node) (map (member_of m) ks)) (map (λ (n : NumberedMember). n.node) ns) → All (λ x. x < m.nodes) (map (λ (n : NumberedMember). n.node) ns)
  numbers_inside ns same i d l = All-contains (λ x. x < m.nodes) (map (λ (k : Reached). k.node) ks) (get_or (nodes_numbered ns) i d) nodes_inside (numbers_reached ns same i d l)

  pub key_columns : (ns : List NumberedMember) → IsPermutation (map (λ (a : Member). a.node) (map (member_of m) ks)) (nodes_numbered ns) → IsDistinct nat_eq (nodes_numbered ns)
  key_columns ns same =
      IsDistinct-IsPermutation nat_eq flips (map (λ (a : Member). a.node) (map (member_of m) ks)) (nodes_numbered ns) same
      (distinct_nodes (map (member_of m) ks) (distinct_members m ks h.1.0.ascending (same_distance m sound r r_in h.0 ks h.1.0 h.1.1)))
