-- The tree that members grow into is the one that the tables' parents give.
use Rattle.std.proofs.Common.{◌≡◌, ℕ, zero, suc, ◌+◌, ◌<◌, inl, inr, Bool, true, false, cond, nat_le, max, sym, refl, ap, subst, ◌∙◌, arith, List, [], ◌∷◌, ◌++◌, map, length, take, drop, get_or, add-one, append_assoc}
use Rattle.std.specs.Prelude.{Option, Some, None}
use Rattle.std.proofs.lemmas.Bool.Decides.{nat_tests}
use Rattle.std.proofs.lemmas.Bool.{eqb-true, eq-eqb, both_ways, cond_both, false≢true, ne_eqb}
use Rattle.std.proofs.Math.Nat.{le-max_right}
use Rattle.std.proofs.lemmas.List.{take-take}
use Rattle.graph_edits.specs.Edges.{Network, below as up_to}
use Rattle.route_tree.specs.Rose.{Tree, tree, tree_size, of_list}
use Rattle.route_tree.specs.Order.{ascending, heaviest, fronted}
use Rattle.route_tree.specs.Front.{heavy_at, heavy_to_front}
use Rattle.route_tree.specs.Growth.{is_parent, trees_on, subtrees, first_or}
use Rattle.route_tree.specs.declared.member.Member.{Member}
use Rattle.route_tree.proofs.Ascending.{Has, Above, Rising, Fresh, Differ, rising_same, has_ascending, ascending_has, rising_ascending}
use Rattle.route_tree.proofs.Heaviest.{heavy_here, heavy_size, from_part}
use Rattle.schemes.specs.Entry.{Entry}
use Rattle.schemes.specs.Tables.{Tables}
use Rattle.schemes.specs.Checks.{parent_is, children, up_port, down_port, tree_to_depth, farthest, tree_at}
use Rattle.node_table.specs.Columns.{HasMember, LacksMember, AreDistinct, BeginsWith, FitsEntry, IsLaid}
use Rattle.schemes.proofs.Serving.Exact.{Distances}
use Rattle.schemes.proofs.Basics.Lists.{Each, each_filtered, any_filtered, within_up_to}
use Rattle.schemes.proofs.LocalForms.ChildRows.{Ascends, ascends_filtered, ascends_up_to}
use Rattle.schemes.proofs.LocalForms.LocalRecords.{Every, IsDeep, child_farther, child_deep}
use Rattle.schemes.proofs.Basics.Options.{same_value}
use Rattle.schemes.proofs.LocalForms.TreeOfTables.{child_of, tree_to_depth-node, node_inside, far_enough, parent_is_from}

-- ---- the heavy tree in front, said in two ways

front_here : (m : ℕ) (ts : List Tree) (i : ℕ) (passed : List Tree) (d : Tree) → i < length ts → tree_size (get_or ts i d) ≡ m → ((k : ℕ) → k < i → tree_size (get_or ts k d) < m)
    → fronted m passed ts ≡ get_or ts i d ∷ (passed ++ (take i ts ++ drop (suc i) ts))
front_here m [] i passed d l e h = absurd (omega arith)
front_here m (t ∷ ts) zero passed d l e h = rw (eq-eqb (tree_size t) m e) refl
front_here m (t ∷ ts) (suc i) passed d l e h =
    rw (ne_eqb (tree_size t) m (λ same. (let l = h 0 (omega arith) in omega (arith, l, same))))
    (front_here m ts i (passed ++ t ∷ []) d (omega arith) e (λ k j. h (suc k) (omega (arith, j)))
    ∙ ap (λ z. get_or ts i d ∷ z) (append_assoc passed (t ∷ []) (take i ts ++ drop (suc i) ts)))

lighter_before : (ts : List Tree) (d : Tree) (k : ℕ) → k < heavy_at ts → tree_size (get_or ts k d) < heaviest ts
lighter_before [] d k l = absurd (omega arith)
lighter_before (t ∷ ts) d k l = go (λ j h. lighter_before ts d j h) (nat_le (heaviest ts) (tree_size t)) refl k l
  where
    go : ((j : ℕ) → j < heavy_at ts → tree_size (get_or ts j d) < heaviest ts) → (b : Bool) → nat_le (heaviest ts) (tree_size t) ≡ b → (k : ℕ) → k < cond b 0 (suc (heavy_at ts)) → tree_size (get_or (t ∷ ts) k d) < max (tree_size t) (heaviest ts)
    go below true e k l = absurd (omega arith)
    go below false e zero l = (let a : tree_size t < heaviest ts = grind (arith, nat_tests) in omega (arith, a, le-max_right (tree_size t) (heaviest ts)))
    go below false e (suc k) l = (let ih = below k (omega (arith, l)) in omega (arith, ih, le-max_right (tree_size t) (heaviest ts)))

pub heavy_front : (ts : List Tree) → heavy_to_front ts ≡ fronted (heaviest ts) [] ts
heavy_front [] = refl
heavy_front (t ∷ ts) =
    let us = t ∷ ts in
    let i = heavy_at us in
    let l = heavy_here t ts in
    let a : drop i (take (i + 1) us) ≡ get_or us i t ∷ [] = from_part us i t l in
    let b : take i (take (i + 1) us) ≡ take i us = take-take i (i + 1) us (omega arith) in
    ap (λ z. (z ++ take i (take (i + 1) us)) ++ drop (i + 1) us) a
    ∙ ap (λ z. get_or us i t ∷ (z ++ drop (i + 1) us)) b
    ∙ ap (λ z. get_or us i t ∷ (take i us ++ drop z us)) (add-one i)
    ∙ sym (front_here (heaviest us) us i [] t l (heavy_size t ts t) (λ k j. lighter_before us t k j))

-- ---- what hangs on a node

no_tree : (ss : List Tree) → ((s : Tree) → Has s ss → ⊥) → ss ≡ []
no_tree [] h = refl
no_tree (s ∷ ss) h = absurd (h s (inl refl))

fresh_trees : (x n : ℕ) (ms : List Member) → LacksMember x ms → Fresh x (trees_on n ms (subtrees ms))
fresh_trees x n [] l = tt
fresh_trees x n (a ∷ ms) l =
    let here = tree a.node a.up a.down (of_list (heavy_to_front (ascending (trees_on a.node ms (subtrees ms))))) in
    let h = fresh_trees x n ms l.1 in
    cond_both (is_parent n a.parent) (here ∷ trees_on n ms (subtrees ms)) (trees_on n ms (subtrees ms)) (Fresh x) (λ _. (l.0, h)) (λ _. h)

differ_trees : (n : ℕ) (ms : List Member) → AreDistinct ms → Differ (trees_on n ms (subtrees ms))
differ_trees n [] l = tt
differ_trees n (a ∷ ms) l =
    let here = tree a.node a.up a.down (of_list (heavy_to_front (ascending (trees_on a.node ms (subtrees ms))))) in
    let h = differ_trees n ms l.1 in
    cond_both (is_parent n a.parent) (here ∷ trees_on n ms (subtrees ms)) (trees_on n ms (subtrees ms)) Differ (λ _. (fresh_trees a.node n ms l.0, h)) (λ _. h)

is_parent_of : (n : ℕ) (o : Option ℕ) → is_parent n o ≡ true → o ≡ Some n
is_parent_of n None e = absurd (false≢true e)
is_parent_of n (Some p) e = ap (λ z. Some z) (eqb-true p n e)

parent_is_of : (n : ℕ) (o : Option ℕ) → o ≡ Some n → is_parent n o ≡ true
parent_is_of n o e = rw e (eq-eqb n n refl)

each_has : (P : Tree → Type 0) (ss : List Tree) (s : Tree) → Each P ss → Has s ss → P s
each_has P [] s e h = absurd h
each_has P (u ∷ ss) s e (inl i) = subst P (sym i) e.0
each_has P (u ∷ ss) s e (inr h) = each_has P ss s e.1 h

-- each member has its tree, as the tables' parents give it, to whatever depth is enough
abbrev pub HaveTrees : Network → Tables → ℕ → List Member → List Tree → Type 0
HaveTrees m t r [] ss = Unit {0}
HaveTrees m t r (a ∷ ms) [] = ⊥
HaveTrees m t r (a ∷ ms) (s ∷ ss) = ((k : ℕ) → IsDeep m t r k a.node → s ≡ tree_to_depth m t r k a.node) × HaveTrees m t r ms ss

-- s is the tree of a child of n
abbrev pub IsTreeOfChild : Network → Tables → ℕ → ℕ → ℕ → Tree → Type 0
IsTreeOfChild m t r k n s = (y : ℕ) × ((parent_is n (t.entry y r) ≡ true) × (s ≡ tree_to_depth m t r k y))

module _ (m : Network) (t : Tables) (r : ℕ) where
  child_by : (n : ℕ) (a : Member) → FitsEntry m (λ x. t.entry x r) a → is_parent n a.parent ≡ true → parent_is n (t.entry a.node r) ≡ true
  child_by n a fit g = parent_is_from t r n a.node fit.entry fit.is (fit.parent ∙ is_parent_of n a.parent g)

  by_child : (n : ℕ) (a : Member) → FitsEntry m (λ x. t.entry x r) a → parent_is n (t.entry a.node r) ≡ true → is_parent n a.parent ≡ true
  by_child n a fit g =
      let c = child_of m t r n a.node (t.entry a.node r) refl g in
      parent_is_of n a.parent (sym fit.parent ∙ ap (λ (z : Entry). z.parent) (same_value fit.is c.is) ∙ c.parent)

  -- what hangs on n are trees of its children
  hanging_child : (k n : ℕ) (ms : List Member) (ss : List Tree) → IsLaid m (λ x. t.entry x r) ms → HaveTrees m t r ms ss → ((y : ℕ) → parent_is n (t.entry y r) ≡ true → IsDeep m t r k y)
      → (s : Tree) → Has s (trees_on n ms ss) → IsTreeOfChild m t r k n s
  hanging_child k n [] ss laid same deep s h = absurd h
  hanging_child k n (a ∷ ms) [] laid same deep s h = absurd h
  hanging_child k n (a ∷ ms) (u ∷ ss) laid same deep s h = go (is_parent n a.parent) refl (λ q. hanging_child k n ms ss laid.1.1 same.1 deep s q) h
    where
      go : (b : Bool) → is_parent n a.parent ≡ b → (Has s (trees_on n ms ss) → IsTreeOfChild m t r k n s) → Has s (cond b (u ∷ trees_on n ms ss) (trees_on n ms ss)) → IsTreeOfChild m t r k n s
      go true e ih (inl i) = (let c = child_by n a laid.0 e in (a.node, (c, i ∙ same.0 k (deep a.node c))))
      go true e ih (inr q) = ih q
      go false e ih q = ih q

  hanging_any : (n : ℕ) (ms : List Member) (ss : List Tree) → IsLaid m (λ x. t.entry x r) ms → (s : Tree) → Has s (trees_on n ms ss) → (y : ℕ) × (parent_is n (t.entry y r) ≡ true)
  hanging_any n [] ss laid s h = absurd h
  hanging_any n (a ∷ ms) [] laid s h = absurd h
  hanging_any n (a ∷ ms) (u ∷ ss) laid s h =
      cond_both (is_parent n a.parent) (u ∷ trees_on n ms ss) (trees_on n ms ss) (λ us. Has s us → (y : ℕ) × (parent_is n (t.entry y r) ≡ true)) (λ e _. (a.node, child_by n a laid.0 e)) (λ _ q. hanging_any n ms ss laid.1.1 s q) h

  -- and every child's tree hangs there
  child_hangs : (k n y : ℕ) (ms : List Member) (ss : List Tree) → IsLaid m (λ x. t.entry x r) ms → HaveTrees m t r ms ss → parent_is n (t.entry y r) ≡ true → IsDeep m t r k y → HasMember y ms
      → Has (tree_to_depth m t r k y) (trees_on n ms ss)
  child_hangs k n y [] ss laid same g deep h = absurd h
  child_hangs k n y (a ∷ ms) [] laid same g deep h = absurd same
  child_hangs k n y (a ∷ ms) (u ∷ ss) laid same g deep h = go (is_parent n a.parent) refl (λ q. child_hangs k n y ms ss laid.1.1 same.1 g deep q) h
    where
      here : y ≡ a.node → is_parent n a.parent ≡ true
      here i = by_child n a laid.0 (subst (λ z. parent_is n (t.entry z r) ≡ true) i g)

      go : (b : Bool) → is_parent n a.parent ≡ b → (HasMember y ms → Has (tree_to_depth m t r k y) (trees_on n ms ss)) → HasMember y (a ∷ ms) → Has (tree_to_depth m t r k y) (cond b (u ∷ trees_on n ms ss) (trees_on n ms ss))
      go true e ih (inl i) = inl (ap (tree_to_depth m t r k) i ∙ sym (same.0 k (subst (IsDeep m t r k) i deep)))
      go true e ih (inr q) = inr (ih q)
      go false e ih (inl i) = absurd (both_ways (is_parent n a.parent) e (here i))
      go false e ih (inr q) = ih q

  -- an ascending list of nodes has rising trees
  trees_above : (k x : ℕ) (xs : List ℕ) → Every (λ y. x < y) xs → Above x (map (tree_to_depth m t r k) xs)
  trees_above k x [] e = tt
  trees_above k x (y ∷ ys) e = (subst (λ z. x < z) (sym (tree_to_depth-node m t r k y)) e.0, trees_above k x ys e.1)

  trees_rise : (k : ℕ) (xs : List ℕ) → Ascends xs → Rising (map (tree_to_depth m t r k) xs)
  trees_rise k [] a = tt
  trees_rise k (x ∷ xs) a = (subst (λ z. Above z (map (tree_to_depth m t r k) xs)) (sym (tree_to_depth-node m t r k x)) (trees_above k x xs a.0), trees_rise k xs a.1)

  -- sorted, what hangs on n are the trees of its children
  sorted_children : (k n : ℕ) (ms : List Member) → AreDistinct ms → IsLaid m (λ x. t.entry x r) ms → HaveTrees m t r ms (subtrees ms)
      → ((y : ℕ) → parent_is n (t.entry y r) ≡ true → IsDeep m t r k y) → ((y : ℕ) → parent_is n (t.entry y r) ≡ true → y < t.nodes) → ((y : ℕ) → parent_is n (t.entry y r) ≡ true → HasMember y ms)
      → ascending (trees_on n ms (subtrees ms)) ≡ map (tree_to_depth m t r k) (children t r n)
  sorted_children k n ms apart laid same deep inside here =
      rising_same (ascending ss) kids (rising_ascending ss (differ_trees n ms apart)) (trees_rise k (children t r n) (ascends_filtered (λ y. parent_is n (t.entry y r)) (up_to t.nodes) (ascends_up_to t.nodes)))
      (λ s h. (let c = hanging_child k n ms (subtrees ms) laid same deep s (ascending_has ss s h) in
      subst (λ z. Has z kids) (sym c.1.1) (any_filtered (λ u. tree_to_depth m t r k c.0 ≡ u) (tree_to_depth m t r k) (λ y. parent_is n (t.entry y r)) c.0 c.1.0 refl (up_to t.nodes) (within_up_to t.nodes c.0 (inside c.0 c.1.0)))))
      (λ s h. (let c = each_has (IsTreeOfChild m t r k n) kids s (each_filtered (IsTreeOfChild m t r k n) (tree_to_depth m t r k) (λ y. parent_is n (t.entry y r)) (λ y g. (y, (g, refl))) (up_to t.nodes)) h in
      has_ascending ss s (subst (λ z. Has z ss) (sym c.1.1) (child_hangs k n c.0 ms (subtrees ms) laid same c.1.0 (deep c.0 c.1.0) (here c.0 c.1.0)))))
    where
      ss : List Tree
      ss = trees_on n ms (subtrees ms)

      kids : List Tree
      kids = map (tree_to_depth m t r k) (children t r n)

module _ (m : Network) (t : Tables) (r : ℕ) (d : Distances m t) (nodes : t.nodes ≡ m.nodes) where
  kid_inside : (n y : ℕ) → parent_is n (t.entry y r) ≡ true → y < t.nodes
  kid_inside n y g = (let c = child_of m t r n y (t.entry y r) refl g in subst (λ z. y < z) (sym nodes) (node_inside m t d y r c.entry c.is))

  -- at the greatest distance nothing hangs
  childless : (n y : ℕ) → IsDeep m t r 0 n → parent_is n (t.entry y r) ≡ true → ⊥
  childless n y p g =
      let c = child_of m t r n y (t.entry y r) refl g in
      let far = child_farther m t r d n y p.0 (up_port m y (t.entry y r)) (down_port m y (t.entry y r)) p.1.0 c in
      let most = far_enough t r m.nodes y c.entry (node_inside m t d y r c.entry c.is) c.is in
      omega (arith, far, most, p.1.1)

  one_tree : (a : Member) (ms : List Member) → FitsEntry m (λ x. t.entry x r) a → AreDistinct ms → IsLaid m (λ x. t.entry x r) ms → HaveTrees m t r ms (subtrees ms)
      → ((x : ℕ) (e : Entry) → t.entry x r ≡ Some e → e.parent ≡ Some a.node → HasMember x ms) → (k : ℕ) → IsDeep m t r k a.node
      → tree a.node a.up a.down (of_list (heavy_to_front (ascending (trees_on a.node ms (subtrees ms))))) ≡ tree_to_depth m t r k a.node
  one_tree a ms fit apart laid same behind zero deep =
      let up = fit.up ∙ sym (ap (up_port m a.node) fit.is) in
      let down = fit.down ∙ sym (ap (down_port m a.node) fit.is) in
      let none : trees_on a.node ms (subtrees ms) ≡ [] = no_tree (trees_on a.node ms (subtrees ms)) (λ s h.
      (let c = hanging_any m t r a.node ms (subtrees ms) laid s h in childless a.node c.0 deep c.1)) in
      (λ i. tree a.node (up i) (down i) (of_list (heavy_to_front (ascending (none i)))))
  one_tree a ms fit apart laid same behind (suc k) deep =
      let up = fit.up ∙ sym (ap (up_port m a.node) fit.is) in
      let down = fit.down ∙ sym (ap (down_port m a.node) fit.is) in
      let kids : ascending (trees_on a.node ms (subtrees ms)) ≡ map (tree_to_depth m t r k) (children t r a.node) =
      sorted_children m t r k a.node ms apart laid same (λ y g. child_deep m t r d k a.node y deep g) (λ y g. kid_inside a.node y g)
      (λ y g. (let c = child_of m t r a.node y (t.entry y r) refl g in behind y c.entry c.is c.parent)) in
      let front : heavy_to_front (ascending (trees_on a.node ms (subtrees ms))) ≡ fronted (heaviest (map (tree_to_depth m t r k) (children t r a.node))) [] (map (tree_to_depth m t r k) (children t r a.node)) =
      ap heavy_to_front kids ∙ heavy_front (map (tree_to_depth m t r k) (children t r a.node)) in
      (λ i. tree a.node (up i) (down i) (of_list (front i)))

  pub have_trees : (ms : List Member) → AreDistinct ms → IsLaid m (λ x. t.entry x r) ms → HaveTrees m t r ms (subtrees ms)
  have_trees [] apart laid = tt
  have_trees (a ∷ ms) apart laid =
      let ih = have_trees ms apart.1 laid.1.1 in
      ((λ k deep. one_tree a ms laid.0 apart.1 laid.1.1 ih laid.1.0 k deep), ih)

  -- the whole tree
  pub grown_tree : (ms : List Member) (s : Tree) → AreDistinct ms → BeginsWith r ms → IsLaid m (λ x. t.entry x r) ms → first_or s (subtrees ms) ≡ tree_at m t r
  grown_tree [] s apart begins laid = absurd begins
  grown_tree (a ∷ ms) s apart begins laid =
      let all = have_trees (a ∷ ms) apart laid in
      all.0 (farthest t r m.nodes) (laid.0.entry, (laid.0.is, omega arith)) ∙ ap (tree_to_depth m t r (farthest t r m.nodes)) begins
