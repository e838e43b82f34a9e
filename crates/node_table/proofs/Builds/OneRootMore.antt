-- One root more: tables that hold the trees of the first k roots hold k + 1 with the rows of the next.
use Rattle.std.proofs.Common.{◌≡◌, ℕ, suc, ◌+◌, ◌≤◌, ◌<◌, ◌==◌, ◌⊎◌, inl, inr, Bool, true, false, cond, sym, refl, ap, subst, ◌∙◌, arith, List, [], ◌∷◌, ◌++◌, length, map, get_or, IsPermutation}
use Rattle.std.specs.Prelude.{Option, Some, None, IsSome, nat_eq, slice_get, slice_index_or}
use Rattle.std.specs.Option.{option_map}
use Rattle.std.specs.List.{All, AllByRecursion, IsDistinct}
use Rattle.std.specs.List.Sorted.{IsStrictlyIncreasing}
use Rattle.std.proofs.lemmas.Bool.{eqb-true, eq-eqb, both_ways, cases_lt, cond-false, cond_both, eqb-false, false≢true, ne_eqb}
use Rattle.std.proofs.lemmas.List.Elements.{All-map}
use Rattle.std.proofs.lemmas.List.Sorted.{Contains-permutation, IsPermutation-sym}
use Rattle.std.proofs.lemmas.Map.Keys.{IsDistinct-head, IsDistinct-tail}
use Rattle.std.proofs.lemmas.List.{append-nil, map-append}
use Rattle.graph_edits.specs.Edges.{Network}
use Rattle.distances.specs.Nearest.{IsNearestOf}
use Rattle.landmarks.specs.declared.near.Near.{Near}
use Rattle.distances.specs.declared.linked.Linked.{Linked}
use Rattle.heavy_labels.specs.Label.{Label}
use Rattle.heavy_labels.specs.declared.numbered_member.NumberedMember.{NumberedMember}
use Rattle.schemes.specs.declared.parts.Parts.{Parts}
use Rattle.schemes.specs.Entry.{Entry}
use Rattle.schemes.specs.declared.parts.Listed.{Listed}
use Rattle.schemes.specs.Tables.{tables, entries_at, directory_at, first_entry, first_listed, roots_of, nodes_of, value_at, or_false, items_at}
use Rattle.schemes.specs.Checks.{IsListed}
use Rattle.node_table.specs.Columns.{IsColumn, HasColumn, IsBuiltBetween, AreBelow, AreFrom, limit_in}
use Rattle.node_table.specs.RowLists.{Row, nodes_in, nodes_numbered, row_at, row_by, rows_by, entry_in, label_in}
use Rattle.node_table.specs.Building.{entries_for, listed_member, home_by, home_after, limit_by, IsDirectoryOf, IsDirectoryAfter, AreRowsOf, IsWith, IsBuildOf, has_home}
use Rattle.node_table.proofs.Builds.KeptColumns.{column_kept, limit_kept}
use Rattle.node_table.proofs.Builds.MadeRows.{listed_row}
use Rattle.node_table.proofs.Builds.RowSteps.{increasing_push, below_more, rows_nodes, below_both}
use Rattle.node_table.proofs.Builds.RowColumns.{row_found}
use Rattle.node_table.proofs.Builds.TreeMembers.{IsIn, is_in_of, contains_of, in_map, map_in}
use Rattle.node_table.proofs.Builds.BuildSteps.{near_is, rows_listed}
use Rattle.node_table.proofs.Builds.Built.{flag_is}
use Rattle.schemes.specs.Ports.{neighbours}
use Rattle.schemes.proofs.Basics.Options.{not_none}

-- ---- the rows of a node

-- no row of the list has the node v
abbrev pub HasNone : ℕ → List Row → Type 0
HasNone v [] = Unit {0}
HasNone v (w ∷ ws) = ((w.node == v) ≡ false) × HasNone v ws

-- no two rows have one node
abbrev pub AreApart : List Row → Type 0
AreApart [] = Unit {0}
AreApart (w ∷ ws) = HasNone w.node ws × AreApart ws

pub apart_of : (ws : List Row) → IsDistinct nat_eq (nodes_in ws) → AreApart ws
apart_of [] d = tt
apart_of (w ∷ ws) d = (none ws (IsDistinct-head nat_eq w.node (nodes_in ws) d), apart_of ws (IsDistinct-tail nat_eq w.node (nodes_in ws) d))
  where
    none : (vs : List Row) → AllByRecursion (λ y. nat_eq w.node y ≡ false) (nodes_in vs) → HasNone w.node vs
    none [] a = tt
    none (v ∷ vs) a = (ne_eqb v.node w.node (λ s. both_ways (w.node == v.node) a.0 (eq-eqb w.node v.node (sym s))), none vs a.1)

not_there : (v : ℕ) (ws : List Row) → HasNone v ws → (w : Row) → IsIn w ws → (w.node == v) ≡ false
not_there v [] h w i = absurd i
not_there v (u ∷ ws) h w (inl s) = subst (λ (z : Row). (z.node == v) ≡ false) (sym s) h.0
not_there v (u ∷ ws) h w (inr i) = not_there v ws h.1 w i

no_entries : (v : ℕ) (ws : List Row) → HasNone v ws → entries_for v ws ≡ []
no_entries v [] h = refl
no_entries v (w ∷ ws) h = rw h.0 (no_entries v ws h.1)

home_stays : (near : Option Near) (r : ℕ) (ws : List Row) (v : ℕ) (o : Option Label) → HasNone v ws → home_after near r (map listed_row ws) v o ≡ o
home_stays near r [] v o h = refl
home_stays near r (w ∷ ws) v o h = ap (λ b. home_after near r (map listed_row ws) v (cond b (home_by near r w.label o) o)) h.0 ∙ home_stays near r ws v o h.1

-- a node has at most one row
pub record IsOneEntry (x : ℕ) (ws : List Row) (more : List Entry) : Type 0 where
  pub entry : Entry
  pub entries : more ≡ entry ∷ []
  pub is : entry_in ws x ≡ Some entry

entry_cases : (x : ℕ) (ws : List Row) → AreApart ws → ((entries_for x ws ≡ []) × (entry_in ws x ≡ None)) ⊎ IsOneEntry x ws (entries_for x ws)
entry_cases x [] a = inl (refl, refl)
entry_cases x (w ∷ ws) a = go (w.node == x) refl (entry_cases x ws a.1)
  where
    go : (b : Bool) → (w.node == x) ≡ b → ((entries_for x ws ≡ []) × (entry_in ws x ≡ None)) ⊎ IsOneEntry x ws (entries_for x ws)
        → ((cond b (w.entry ∷ entries_for x ws) (entries_for x ws) ≡ []) × (option_map (λ z. z.entry) (cond b (Some w) (row_at ws x)) ≡ None)) ⊎ IsOneEntry x (w ∷ ws) (cond b (w.entry ∷ entries_for x ws) (entries_for x ws))
    go true t ih =
        let s = eqb-true w.node x t in
        let none : entries_for x ws ≡ [] = subst (λ z. entries_for z ws ≡ []) s (no_entries w.node ws a.0) in
        inr (record { entry = w.entry; entries = ap (λ z. w.entry ∷ z) none; is = ap (λ b. option_map (λ z. z.entry) (cond b (Some w) (row_at ws x))) t })
    go false t (inl k) = inl k
    go false t (inr k) = inr (record { entry = k.entry; entries = k.entries; is = ap (λ b. option_map (λ z. z.entry) (cond b (Some w) (row_at ws x))) t ∙ k.is })

roots_for : (r x : ℕ) (ws : List Row) → ((i : ℕ) (d : Row) → i < length ws → (get_or ws i d).entry.root ≡ r) → (e : Entry) → IsIn e (entries_for x ws) → e.root ≡ r
roots_for r x [] h e i = absurd i
roots_for r x (w ∷ ws) h e i = go (w.node == x) i (λ j. roots_for r x ws (λ k d l. h (suc k) d (omega (arith, l))) e j)
  where
    go : (b : Bool) → IsIn e (cond b (w.entry ∷ entries_for x ws) (entries_for x ws)) → (IsIn e (entries_for x ws) → e.root ≡ r) → e.root ≡ r
    go true (inl s) ih = ap (λ (z : Entry). z.root) s ∙ h 0 w (omega arith)
    go true (inr j) ih = ih j
    go false j ih = ih j

row_own : (ws : List Row) → AreApart ws → (w : Row) → IsIn w ws → row_at ws w.node ≡ Some w
row_own [] a w i = absurd i
row_own (u ∷ ws) a w i = go (u.node == w.node) refl i (λ j. row_own ws a.1 w j)
  where
    go : (b : Bool) → (u.node == w.node) ≡ b → IsIn w (u ∷ ws) → (IsIn w ws → row_at ws w.node ≡ Some w) → cond b (Some u) (row_at ws w.node) ≡ Some w
    go true t (inl s) ih = ap (λ z. Some z) (sym s)
    go true t (inr j) ih = absurd (both_ways (w.node == u.node) (not_there u.node ws a.0 w j) (eq-eqb w.node u.node (sym (eqb-true u.node w.node t))))
    go false t (inl s) ih = absurd (eqb-false u.node w.node t (ap (λ (z : Row). z.node) (sym s)))
    go false t (inr j) ih = ih j

-- ---- searching appended entries

pub first_left : (r : ℕ) (es more : List Entry) → first_entry r more ≡ None → first_entry r (es ++ more) ≡ first_entry r es
first_left r [] more n = n
first_left r (e ∷ es) more n = ap (λ z. cond (e.root == r) (Some e) z) (first_left r es more n)

pub first_right : (r : ℕ) (es more : List Entry) → first_entry r es ≡ None → first_entry r (es ++ more) ≡ first_entry r more
first_right r [] more n = refl
first_right r (e ∷ es) more n = cond_both (e.root == r) (Some e) (first_entry r es) (λ o. o ≡ None → cond (e.root == r) (Some e) (first_entry r (es ++ more)) ≡ first_entry r more)
    (λ _ k. absurd (not_none refl k)) (λ f k. cond-false (e.root == r) (Some e) (first_entry r (es ++ more)) f ∙ first_right r es more k) n

pub none_under : (b r : ℕ) (es : List Entry) → b ≤ r → AreBelow b (roots_of es) → first_entry r es ≡ None
none_under b r [] l f = refl
none_under b r (e ∷ es) l f = rw (let k = f.0 in ne_eqb e.root r (λ s. omega (arith, k, l, s))) (none_under b r es l f.1)

-- ---- directories and home labels

is_listed : (e : Listed) (es : List Listed) → IsListed e es → IsIn e es
is_listed e [] i = absurd i
is_listed e (f ∷ es) (inl s) = inl s
is_listed e (f ∷ es) (inr i) = inr (is_listed e es i)

-- what is in a list is in each that has the same in another order
in_permutation : (xs ys : List Listed) (e : Listed) → IsPermutation xs ys → IsIn e xs → IsIn e ys
in_permutation xs ys e p i = is_in_of ys e (Contains-permutation xs ys e p (contains_of xs e i))

listed_found : (v : ℕ) (es : List Listed) (e : Listed) → IsIn e es → e.node ≡ v → IsSome (first_listed v es)
listed_found v [] e i s = absurd i
listed_found v (f ∷ es) e i s = go (f.node == v) refl i (λ j. listed_found v es e j s)
  where
    go : (b : Bool) → (f.node == v) ≡ b → IsIn e (f ∷ es) → (IsIn e es → IsSome (first_listed v es)) → IsSome (cond b (Some f.label) (first_listed v es))
    go true t j ih = refl
    go false t (inl q) ih = absurd (eqb-false f.node v t (ap (λ (z : Listed). z.node) (sym q) ∙ s))
    go false t (inr j) ih = ih j

-- a directory lists each node that has a label
directory_has : (ws : List Row) (all : List Listed) → IsDirectoryOf (map listed_row ws) all → (v : ℕ) (o : Option Row) → row_at ws v ≡ o → IsSome (option_map (λ (z : Row). z.label) o) → IsSome (first_listed v all)
directory_has ws all d v None e s = absurd (false≢true s)
directory_has ws all d v (Some w) e s =
    let f = row_found ws v w e in
    listed_found v all (listed_row w) (in_permutation (map listed_row ws) all (listed_row w) d.same (in_map listed_row ws w f.0)) f.1

-- who has another home keeps it
home_other : (near : Option Near) (r : ℕ) (ws : List Row) (v : ℕ) (o : Option Label) → has_home near r ≡ false → home_after near r (map listed_row ws) v o ≡ o
home_other near r [] v o e = refl
home_other near r (w ∷ ws) v o e =
    ap (home_after near r (map listed_row ws) v) (cond_both (w.node == v) (home_by near r w.label o) o (λ z. z ≡ o) (λ _. kept near e) (λ _. refl)) ∙ home_other near r ws v o e
  where
    kept : (q : Option Near) → has_home q r ≡ false → home_by q r w.label o ≡ o
    kept None f = refl
    kept (Some q) f = rw f refl

home_here : (q : Near) (r : ℕ) (ws : List Row) (v : ℕ) → (q.landmark == r) ≡ true → AreApart ws → home_after (Some q) r (map listed_row ws) v None ≡ label_in ws v
home_here q r [] v e a = refl
home_here q r (w ∷ ws) v e a = go (w.node == v) refl (home_here q r ws v e a.1)
  where
    go : (b : Bool) → (w.node == v) ≡ b → home_after (Some q) r (map listed_row ws) v None ≡ label_in ws v
        → home_after (Some q) r (map listed_row ws) v (cond b (cond (q.landmark == r) (Some w.label) None) None) ≡ option_map (λ z. z.label) (cond b (Some w) (row_at ws v))
    go true t ih =
        ap (λ c. home_after (Some q) r (map listed_row ws) v (cond c (Some w.label) None)) e
        ∙ home_stays (Some q) r ws v (Some w.label) (subst (λ z. HasNone z ws) (eqb-true w.node v t) a.0)
    go false t ih = ih

-- ---- limits

limit_same : (b : Bool) (nearest : List (Option Near)) (x : ℕ) → limit_by b nearest x ≡ cond b None (option_map (λ q. q.distance) (value_at nearest x))
limit_same true nearest x = refl
limit_same false nearest x = ap (λ o. option_map (λ (q : Near). q.distance) o) (near_is nearest x)

pub from_both : (j : ℕ) (xs ys : List ℕ) → AreFrom j xs → AreFrom j ys → AreFrom j (xs ++ ys)
from_both j [] ys a b = b
from_both j (x ∷ xs) ys a b = (a.0, from_both j xs ys a.1 b)

module _ (m : Network) (p q : Parts) (j k : ℕ) (ws : List Row) (le : j ≤ k) (h : IsBuiltBetween m p j k) (rows : AreRowsOf m p k ws) (w : IsWith p k ws (map listed_row ws) q) where
  apart_rows : AreApart ws
  apart_rows = apart_of ws rows.apart

  landmark_same : (r : ℕ) → (tables q).landmark r ≡ (tables p).landmark r
  landmark_same r = ap (λ z. or_false (slice_get z r)) w.landmarks

  nearest_same : (v : ℕ) → (tables q).nearest v ≡ (tables p).nearest v
  nearest_same v = ap (λ z. value_at z v) w.nearest

  more_roots : (x : ℕ) (e : Entry) → IsIn e (entries_for x ws) → e.root ≡ k
  more_roots x e i = roots_for k x ws rows.root e i

  -- an older root is found as before
  first_old : (r x : ℕ) → (r ≡ k → ⊥) → first_entry r (entries_at q x) ≡ first_entry r (entries_at p x)
  first_old r x n = ap (first_entry r) (w.entries.items x) ∙ first_left r (entries_at p x) (entries_for x ws) (none (entries_for x ws) (more_roots x))
    where
      none : (es : List Entry) → ((e : Entry) → IsIn e es → e.root ≡ k) → first_entry r es ≡ None
      none [] f = refl
      none (e ∷ es) f = rw (ne_eqb e.root r (λ s. n (sym s ∙ f e (inl refl)))) (none es (λ z i. f z (inr i)))

  -- and the new one by its row
  first_new : (x : ℕ) → first_entry k (entries_at q x) ≡ entry_in ws x
  first_new x =
      ap (first_entry k) (w.entries.items x) ∙ first_right k (entries_at p x) (entries_for x ws) (none_under k k (entries_at p x) (omega arith) (h.below x)) ∙ found (entry_cases x ws apart_rows)
    where
      found : ((entries_for x ws ≡ []) × (entry_in ws x ≡ None)) ⊎ IsOneEntry x ws (entries_for x ws) → first_entry k (entries_for x ws) ≡ entry_in ws x
      found (inl n) = ap (first_entry k) n.0 ∙ sym n.1
      found (inr o) =
          let here : o.entry.root ≡ k = more_roots x o.entry (subst (IsIn o.entry) (sym o.entries) (inl refl)) in
          ap (first_entry k) o.entries ∙ ap (λ b. cond b (Some o.entry) None) (eq-eqb o.entry.root k here) ∙ sym o.is

  -- at most one root more, the next
  roots_after : (x : ℕ) → (roots_of (entries_at q x) ≡ roots_of (entries_at p x)) ⊎ (roots_of (entries_at q x) ≡ roots_of (entries_at p x) ++ k ∷ [])
  roots_after x =
      let olds = roots_of (entries_at p x) in
      let grown : roots_of (entries_at q x) ≡ olds ++ roots_of (entries_for x ws) = ap roots_of (w.entries.items x) ∙ map-append (λ (e : Entry). e.root) (entries_at p x) (entries_for x ws) in
      elim (entry_cases x ws apart_rows) [
        | inl n ↦ inl (grown ∙ ap (λ z. olds ++ roots_of z) n.0 ∙ append-nil olds)
        | inr o ↦ (
            let here : o.entry.root ≡ k = more_roots x o.entry (subst (IsIn o.entry) (sym o.entries) (inl refl)) in
            inr (grown ∙ ap (λ z. olds ++ roots_of z) o.entries ∙ ap (λ z. olds ++ z ∷ []) here))
      ]

  still_ascends : (x : ℕ) → IsStrictlyIncreasing (roots_of (entries_at q x))
  still_ascends x = elim (roots_after x) [
    | inl e ↦ subst IsStrictlyIncreasing (sym e) (h.ascend x)
    | inr e ↦ subst IsStrictlyIncreasing (sym e) (increasing_push (roots_of (entries_at p x)) k (h.ascend x) (h.below x))
  ]

  still_below : (x : ℕ) → AreBelow (k + 1) (roots_of (entries_at q x))
  still_below x = (let olds = below_more (roots_of (entries_at p x)) k (k + 1) (omega arith) (h.below x) in elim (roots_after x) [
    | inl e ↦ subst (AreBelow (k + 1)) (sym e) olds
    | inr e ↦ subst (AreBelow (k + 1)) (sym e) (below_both (k + 1) (roots_of (entries_at p x)) (k ∷ []) olds (omega arith, tt))
  ])

  still_from : (x : ℕ) → AreFrom j (roots_of (entries_at q x))
  still_from x = elim (roots_after x) [
    | inl e ↦ subst (AreFrom j) (sym e) (h.from x)
    | inr e ↦ subst (AreFrom j) (sym e) (from_both j (roots_of (entries_at p x)) (k ∷ []) (h.from x) (le, tt))
  ]

  old_column : (r : ℕ) → j ≤ r → r < k → HasColumn m q r
  old_column r b l =
      let apart : r ≡ k → ⊥ = λ s. omega (arith, l, s) in
      column_kept m p q r (landmark_same r) nearest_same (w.other_directories r apart) (λ x. first_old r x apart) homes (h.columns r b l)
    where
      homes : (v : ℕ) (z : Near) → (tables p).nearest v ≡ Some z → z.landmark ≡ r → (tables q).home v ≡ (tables p).home v
      homes v z g s =
          w.homes v ∙ ap (λ o. home_after o k (map listed_row ws) v ((tables p).home v)) g ∙ home_other (Some z) k ws v ((tables p).home v) (ne_eqb z.landmark k (λ e. (let a = sym s ∙ e in omega (arith, l, a))))

  new_column : HasColumn m q k
  new_column = record {
    labels = label_in ws;
    column = subst (λ f. IsColumn m (limit_in q k) k f (label_in ws)) (λ i x. sym (first_new x) i)
        (subst (λ lim. IsColumn m lim k (entry_in ws) (label_in ws)) (λ i x. (limit_same ((tables p).landmark k) p.nearest.items x ∙ limit_kept p q k x (landmark_same k) (nearest_same x)) i) rows.column);
    landmark = λ e. empty_directory (sym (landmark_same k) ∙ e);
    listed = λ e i. listed ((tables p).landmark k) refl e i;
    ascend = ascend ((tables p).landmark k) refl;
    complete = λ e v s. directory_has ws (directory_at q k) (own_directory (sym (landmark_same k) ∙ e)) v (row_at ws v) refl s;
    homes = λ v z g s. homes v z (sym (nearest_same v) ∙ g) s;
  }
    where
      own_directory : (tables p).landmark k ≡ false → IsDirectoryOf (map listed_row ws) (directory_at q k)
      own_directory e = subst (λ b. IsDirectoryAfter b (map listed_row ws) (items_at p.directories.items k) (items_at q.directories.items k)) e w.directory

      empty_directory : (tables p).landmark k ≡ true → directory_at q k ≡ []
      empty_directory e = subst (λ b. IsDirectoryAfter b (map listed_row ws) (items_at p.directories.items k) (items_at q.directories.items k)) e w.directory ∙ h.fresh k (omega arith)

      listed : (b : Bool) → (tables p).landmark k ≡ b → (e : Listed) → IsListed e (directory_at q k) → label_in ws e.node ≡ Some e.label
      listed true t e i = absurd (subst (IsListed e) (empty_directory t) i)
      listed false t e i =
          let same = (own_directory t).same in
          let r = map_in listed_row ws e (in_permutation (directory_at q k) (map listed_row ws) e (IsPermutation-sym (map listed_row ws) (directory_at q k) same) (is_listed e (directory_at q k) i)) in
          ap (label_in ws) (ap (λ (z : Listed). z.node) r.1.1) ∙ ap (λ o. option_map (λ (z : Row). z.label) o) (row_own ws apart_rows r.0 r.1.0) ∙ ap (λ (z : Listed). Some z.label) (sym r.1.1)

      ascend : (b : Bool) → (tables p).landmark k ≡ b → IsStrictlyIncreasing (nodes_of (directory_at q k))
      ascend true t = subst (λ z. IsStrictlyIncreasing (nodes_of z)) (sym (empty_directory t)) (λ j l. absurd (omega (arith, l)))
      ascend false t = (own_directory t).ascend

      homes : (v : ℕ) (z : Near) → (tables p).nearest v ≡ Some z → z.landmark ≡ k → (tables q).home v ≡ label_in ws v
      homes v z g s =
          w.homes v ∙ ap (λ o. home_after o k (map listed_row ws) v ((tables p).home v)) g ∙ ap (home_after (Some z) k (map listed_row ws) v) (h.homes_fresh v z g (omega (arith, s))) ∙ home_here z k ws v (eq-eqb z.landmark k s) apart_rows

  homes_near : (v : ℕ) (o : Option Near) → (tables p).nearest v ≡ o → IsSome ((tables q).home v) → IsSome o
  homes_near v None g s = subst IsSome g (h.homes_near v (subst IsSome (w.homes v ∙ ap (λ o. home_after o k (map listed_row ws) v ((tables p).home v)) g ∙ home_other None k ws v ((tables p).home v) refl) s))
  homes_near v (Some z) g s = refl

  homes_fresh : (v : ℕ) (z : Near) → (tables p).nearest v ≡ Some z → k + 1 ≤ z.landmark → (tables q).home v ≡ None
  homes_fresh v z g l =
      w.homes v ∙ ap (λ o. home_after o k (map listed_row ws) v ((tables p).home v)) g ∙ home_other (Some z) k ws v ((tables p).home v) (ne_eqb z.landmark k (λ e. omega (arith, l, e))) ∙ h.homes_fresh v z g (omega (arith, l))

  homes_before : (v : ℕ) (z : Near) → (tables p).nearest v ≡ Some z → z.landmark < j → (tables q).home v ≡ None
  homes_before v z g l =
      w.homes v ∙ ap (λ o. home_after o k (map listed_row ws) v ((tables p).home v)) g ∙ home_other (Some z) k ws v ((tables p).home v) (ne_eqb z.landmark k (λ e. omega (arith, l, le, e))) ∙ h.homes_before v z g l

  pub built_more : IsBuiltBetween m q j (k + 1)
  built_more = record {
    nodes = w.nodes ∙ h.nodes;
    landmarks = ap length w.landmarks ∙ h.landmarks;
    ports = ap length w.ports ∙ h.ports;
    neighbours_are = λ x i. ap (λ z. items_at z x) w.ports ∙ h.neighbours_are x i;
    nearest = ap length w.nearest ∙ h.nearest;
    nearest_is = λ v. subst (λ o. IsNearestOf m.edges q.landmarks.items v o) (sym (nearest_same v)) (subst (λ z. IsNearestOf m.edges z v ((tables p).nearest v)) (sym w.landmarks) (h.nearest_is v));
    entries = w.entries.size ∙ h.entries;
    directories = w.directories_length ∙ h.directories;
    homes = w.homes_length ∙ h.homes;
    ascend = still_ascends;
    below = still_below;
    from = still_from;
    columns = λ r a l. elim (cases_lt r k) [ inl b ↦ old_column r a b | inr b ↦ (let s : k ≡ r = omega (arith, l, b) in subst (HasColumn m q) s new_column) ];
    homes_near = λ v s. subst IsSome (sym (nearest_same v)) (homes_near v ((tables p).nearest v) refl s);
    fresh = λ u l. w.other_directories u (λ s. omega (arith, l, s)) ∙ h.fresh u (omega (arith, l));
    fresh_before = λ u l. w.other_directories u (λ s. omega (arith, l, le, s)) ∙ h.fresh_before u l;
    homes_fresh = λ v z g l. homes_fresh v z (sym (nearest_same v) ∙ g) l;
    homes_before = λ v z g l. homes_before v z (sym (nearest_same v) ∙ g) l;
  }

-- the same for the tables of a build, with the rows of what was numbered
pub built_of_more : (m : Network) (flags : List Bool) (nearest : List (Option Near)) (generation : ℕ) (p q : Parts) (j k : ℕ) (ks : List Linked) (table : List ℕ) (ns : List NumberedMember) → j ≤ k → IsBuildOf m flags nearest generation p j k
    → AreRowsOf m p k (rows_by k ks table ns) → IsWith p k (rows_by k ks table ns) (map listed_member ns) q → IsBuildOf m flags nearest generation q j (k + 1)
built_of_more m flags nearest generation p q j k ks table ns le h rows w = record {
  built = built_more m p q j k (rows_by k ks table ns) le h.built rows (subst (λ ls. IsWith p k (rows_by k ks table ns) ls q) (sym (rows_listed k ks table ns)) w);
  landmarks = w.landmarks ∙ h.landmarks;
  nearest_list = w.nearest ∙ h.nearest_list;
  given = w.generation ∙ h.given;
}

-- the rows of a root, by the flags and the nearest landmarks that the tables hold
pub rows_of : (m : Network) (flags : List Bool) (nearest : List (Option Near)) (generation : ℕ) (p : Parts) (j k : ℕ) (ks : List Linked) (table : List ℕ) (ns : List NumberedMember) → IsBuildOf m flags nearest generation p j k
    → IsDistinct nat_eq (nodes_numbered ns) → All (λ (n : NumberedMember). n.node < m.nodes) ns
    → IsColumn m (limit_by (slice_index_or flags k false) nearest) k (entry_in (rows_by k ks table ns)) (label_in (rows_by k ks table ns)) → AreRowsOf m p k (rows_by k ks table ns)
rows_of m flags nearest generation p j k ks table ns h apart inside column =
    record {
      apart = subst (IsDistinct nat_eq) (sym (rows_nodes k ks table ns)) apart;
      inside = All-map (λ (w : Row). w.node < m.nodes) (row_by k ks table) ns inside;
      root = All-map (λ (w : Row). w.entry.root ≡ k) (row_by k ks table) ns (λ i d l. refl);
      column = subst (λ l. IsColumn m l k (entry_in (rows_by k ks table ns)) (label_in (rows_by k ks table ns)))
          (ap (λ b. limit_by b nearest) (flag_is flags k ∙ ap (λ z. or_false (slice_get z k)) (sym h.landmarks)) ∙ ap (limit_by (or_false (slice_get p.landmarks.items k))) (sym h.nearest_list)) column;
    }

-- no tree yet
pub built_first : (m : Network) (p : Parts) → p.nodes ≡ m.nodes → length p.landmarks.items ≡ m.nodes → length p.ports.items ≡ m.nodes → ((x : ℕ) → x < m.nodes → items_at p.ports.items x ≡ neighbours m x)
    → length p.nearest.items ≡ m.nodes → ((v : ℕ) → IsNearestOf m.edges p.landmarks.items v (slice_index_or p.nearest.items v None))
    → length p.entries.items ≡ m.nodes → ((x : ℕ) → items_at p.entries.items x ≡ []) → length p.directories.items ≡ m.nodes → ((x : ℕ) → items_at p.directories.items x ≡ [])
    → length p.homes.items ≡ m.nodes → ((v : ℕ) → value_at p.homes.items v ≡ None) → (j : ℕ) → IsBuiltBetween m p j j
built_first m p nodes landmarks ports each nearest is entries none directories empty homes unset j = record {
  nodes = nodes;
  landmarks = landmarks;
  ports = ports;
  neighbours_are = each;
  nearest = nearest;
  nearest_is = λ v. subst (IsNearestOf m.edges p.landmarks.items v) (near_is p.nearest.items v) (is v);
  entries = entries;
  directories = directories;
  homes = homes;
  ascend = λ x. subst (λ z. IsStrictlyIncreasing (roots_of z)) (sym (none x)) (λ k l. absurd (omega (arith, l)));
  below = λ x. subst (λ z. AreBelow j (roots_of z)) (sym (none x)) tt;
  from = λ x. subst (λ z. AreFrom j (roots_of z)) (sym (none x)) tt;
  columns = λ r a l. absurd (omega (arith, a, l));
  homes_near = λ v s. absurd (false≢true (subst IsSome (unset v) s));
  fresh = λ u l. empty u;
  fresh_before = λ u l. empty u;
  homes_fresh = λ v q g l. unset v;
  homes_before = λ v q g l. unset v;
}
