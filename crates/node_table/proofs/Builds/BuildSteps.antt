-- Steps of a build: lists at places, entries and home labels of one more row, and the limits of trees.
use Rattle.std.proofs.Common.{◌≡◌, ℕ, zero, suc, ◌+◌, ◌<◌, ◌≤◌, ◌==◌, Bool, true, false, cond, sym, refl, ap, subst, ◌∙◌, arith, List, [], ◌∷◌, ◌++◌, length, map, take, get_or, append_assoc, IsPermutation}
use Rattle.std.specs.Prelude.{Option, Some, None, nat_eq, slice_index, slice_index_or}
use Rattle.std.specs.List.{IsDistinct}
use Rattle.std.specs.List.Sorted.{IsNonDecreasingBy}
use Rattle.std.proofs.lemmas.List.{get_or-map, map-append, append-nil, length-map, take_more}
use Rattle.std.proofs.lemmas.List.Sorted.{IsPermutation-map}
use Rattle.std.proofs.lemmas.Map.Keys.{IsDistinct-IsPermutation, IsDistinct-head, IsDistinct-tail}
use Rattle.std.proofs.Math.ListN.{set}
use Rattle.std.proofs.lemmas.Bool.{eqb-true, eq-eqb, both_ways, cond_both, eqb-false, false_from_ne_true, lt-ltb}
use Rattle.std.specs.declared.vec.Vec.{Vec}
use Rattle.std.proofs.lemmas.Simd.{map-map}
use Rattle.graph_edits.specs.Edges.{Network, IsSound}
use Rattle.landmarks.specs.Chosen.{IsLandmark}
use Rattle.distances.specs.Search.{is_below}
use Rattle.distances.specs.Nearest.{IsNearestOf, near_limit}
use Rattle.landmarks.specs.declared.near.Near.{Near}
use Rattle.heavy_labels.specs.Label.{Label}
use Rattle.heavy_labels.specs.declared.numbered_member.NumberedMember.{NumberedMember}
use Rattle.distances.specs.declared.linked.Linked.{Linked}
use Rattle.schemes.specs.Entry.{Entry}
use Rattle.schemes.specs.declared.parts.Listed.{Listed}
use Rattle.schemes.specs.Tables.{nodes_of, value_at, items_at}
use Rattle.node_table.specs.RowLists.{Row, entry_by, nodes_numbered, row_by, rows_by}
use Rattle.node_table.specs.Building.{entries_for, home_by, home_after, listed_member, IsDirectoryOf}
use Rattle.schemes.proofs.Basics.Places.{items_other, items_read, items_set}
use Rattle.node_table.proofs.Builds.MadeRows.{listed_row}
use Rattle.node_table.proofs.Builds.RowColumns.{flips}
use Rattle.node_table.proofs.Builds.Built.{zero_walk}

-- ---- lists at places

pub pushed_at : (A : Type 0) (vs : List (Vec Entry A)) (i : ℕ) (old new : Vec Entry A) (e : Entry) → i < length vs → old ≡ get_or vs i old → new.items ≡ old.items ++ e ∷ []
    → (x : ℕ) → items_at (set vs i new) x ≡ items_at vs x ++ cond (i == x) (e ∷ []) []
pushed_at A vs i old new e l is more x = cond_both (i == x) (e ∷ []) [] (λ es. items_at (set vs i new) x ≡ items_at vs x ++ es)
    (λ t. subst (λ z. items_at (set vs i new) z ≡ items_at vs z ++ e ∷ []) (eqb-true i x t) (items_set vs i new l ∙ more ∙ ap (λ z. z ++ e ∷ []) (items_read vs i old l is)))
    (λ t. items_other vs i x new (λ s. eqb-false i x t (sym s)) ∙ sym (append-nil (items_at vs x)))

-- ---- one numbered member more

take_next : {X : Type 0} (xs : List X) (i : ℕ) (x : X) → i < length xs → x ≡ get_or xs i x → take (i + 1) xs ≡ take i xs ++ x ∷ []
take_next xs i x l e = take_more xs i x l ∙ ap (λ z. take i xs ++ z ∷ []) (sym e)

map_next : {X Y : Type 0} (f : X → Y) (xs : List X) (i : ℕ) (x : X) → i < length xs → x ≡ get_or xs i x → map f (take (i + 1) xs) ≡ map f (take i xs) ++ f x ∷ []
map_next f xs i x l e = ap (map f) (take_next xs i x l e) ∙ map-append f (take i xs) (x ∷ [])

entries_append : (x : ℕ) (ws vs : List Row) → entries_for x (ws ++ vs) ≡ entries_for x ws ++ entries_for x vs
entries_append x [] vs = refl
entries_append x (w ∷ ws) vs = go (w.node == x) (entries_append x ws vs)
  where
    go : (b : Bool) → entries_for x (ws ++ vs) ≡ entries_for x ws ++ entries_for x vs → cond b (w.entry ∷ entries_for x (ws ++ vs)) (entries_for x (ws ++ vs)) ≡ cond b (w.entry ∷ entries_for x ws) (entries_for x ws) ++ entries_for x vs
    go true ih = ap (λ z. w.entry ∷ z) ih
    go false ih = ih

entries_next : (x r : ℕ) (ks : List Linked) (table : List ℕ) (ns : List NumberedMember) (i : ℕ) (n : NumberedMember) → i < length ns → n ≡ get_or ns i n
    → entries_for x (rows_by r ks table (take (i + 1) ns)) ≡ entries_for x (rows_by r ks table (take i ns)) ++ cond (n.node == x) (entry_by r ks table n ∷ []) []
entries_next x r ks table ns i n l e = ap (entries_for x) (map_next (row_by r ks table) ns i n l e) ∙ entries_append x (rows_by r ks table (take i ns)) (row_by r ks table n ∷ [])

home_append : (near : Option Near) (r : ℕ) (ls : List Listed) (l : Listed) (v : ℕ) (o : Option Label) → home_after near r (ls ++ l ∷ []) v o ≡ cond (l.node == v) (home_by near r l.label (home_after near r ls v o)) (home_after near r ls v o)
home_append near r [] l v o = refl
home_append near r (u ∷ ls) l v o = home_append near r ls l v (cond (u.node == v) (home_by near r u.label o) o)

-- a home label set for the node of a numbered member
home_next : (nearest : List (Option Near)) (r : ℕ) (ns : List NumberedMember) (i : ℕ) (n : NumberedMember) (v : ℕ) (o now : Option Label) (near : Option Near) → i < length ns → n ≡ get_or ns i n → near ≡ value_at nearest n.node
    → now ≡ cond (n.node == v) (home_by near r n.label (home_after (value_at nearest v) r (map listed_member (take i ns)) v o)) (home_after (value_at nearest v) r (map listed_member (take i ns)) v o)
    → now ≡ home_after (value_at nearest v) r (map listed_member (take (i + 1) ns)) v o
home_next nearest r ns i n v o now near l e is h =
    h ∙ same (n.node == v) refl
    ∙ sym (ap (λ z. home_after (value_at nearest v) r z v o) (map_next listed_member ns i n l e) ∙ home_append (value_at nearest v) r (map listed_member (take i ns)) (listed_member n) v o)
  where
    before : Option Label
    before = home_after (value_at nearest v) r (map listed_member (take i ns)) v o

    same : (b : Bool) → (n.node == v) ≡ b → cond b (home_by near r n.label before) before ≡ cond b (home_by (value_at nearest v) r n.label before) before
    same true t = ap (λ z. home_by z r n.label before) (is ∙ ap (λ z. value_at nearest z) (eqb-true n.node v t))
    same false t = refl

pub near_is : (nearest : List (Option Near)) (i : ℕ) → slice_index_or nearest i None ≡ value_at nearest i
near_is [] i = refl
near_is (o ∷ nearest) zero = refl
near_is (o ∷ nearest) (suc i) = near_is nearest i

-- ---- the directory of a root

nodes_listed : (ns : List NumberedMember) → nodes_of (map listed_member ns) ≡ nodes_numbered ns
nodes_listed ns = map-map (λ (l : Listed). l.node) listed_member ns

-- rows are listed as what was numbered is
pub rows_listed : (r : ℕ) (ks : List Linked) (table : List ℕ) (ns : List NumberedMember) → map listed_row (rows_by r ks table ns) ≡ map listed_member ns
rows_listed r ks table ns = map-map listed_row (row_by r ks table) ns

neighbours_apart : (xs : List ℕ) → IsDistinct nat_eq xs → (k : ℕ) → k + 1 < length xs → slice_index xs k ≡ slice_index xs (k + 1) → ⊥
neighbours_apart [] d k l e = omega (arith, l)
neighbours_apart (x ∷ []) d k l e = omega (arith, l)
neighbours_apart (x ∷ y ∷ xs) d zero l e = both_ways (x == y) (IsDistinct-head nat_eq x (y ∷ xs) d).0 (eq-eqb x y e)
neighbours_apart (x ∷ y ∷ xs) d (suc k) l e =
    let q : suc k + 1 ≡ suc (k + 1) = omega arith in
    neighbours_apart (y ∷ xs) (IsDistinct-tail nat_eq x (y ∷ xs) d) k (omega (arith, l)) (e ∙ ap (slice_index (x ∷ y ∷ xs)) q)

nodes_rise : (es : List Listed) → IsNonDecreasingBy (λ (e : Listed). e.node) es → (k : ℕ) → k + 1 < length (nodes_of es) → slice_index (nodes_of es) k ≤ slice_index (nodes_of es) (k + 1)
nodes_rise [] h k l = absurd (omega (arith, l))
nodes_rise (f ∷ es) h k l =
    let n = length-map (f ∷ es) (λ (e : Listed). e.node) in
    let a = get_or-map (λ (e : Listed). e.node) (f ∷ es) k f 0 (omega (arith, l, n)) in
    let b = get_or-map (λ (e : Listed). e.node) (f ∷ es) (k + 1) f 0 (omega (arith, l, n)) in
    let up = h k (k + 1) f (omega arith) (omega (arith, l, n)) in
    omega (arith, a, b, up)

-- numbered members that are listed and sorted are the directory
pub directory_of : (ns : List NumberedMember) (before after : List Listed) → before ≡ map listed_member ns → IsPermutation before after → IsNonDecreasingBy (λ (e : Listed). e.node) after → IsDistinct nat_eq (nodes_numbered ns) → IsDirectoryOf (map listed_member ns) after
directory_of ns before after e p up apart = record {
  same = same;
  ascend = λ k l. (let a = nodes_rise after up k l in let b = neighbours_apart (nodes_of after) distinct k l in grind (arith, a, b));
}
  where
    same : IsPermutation (map listed_member ns) after
    same = subst (λ z. IsPermutation z after) e p

    distinct : IsDistinct nat_eq (nodes_of after)
    distinct =
        IsDistinct-IsPermutation nat_eq flips (nodes_of (map listed_member ns)) (nodes_of after)
        (IsPermutation-map (λ (z : Listed). z.node) (map listed_member ns) after same)
        (subst (IsDistinct nat_eq) (sym (nodes_listed ns)) apart)

-- ---- the limits of a tree

pub cluster_within : (m : Network) → IsSound m → (flags : List Bool) (nearest : List (Option Near)) (r : ℕ) → ((v : ℕ) → IsNearestOf m.edges flags v (slice_index_or nearest v None)) → (IsLandmark flags r → ⊥)
    → is_below 0 (near_limit nearest r) ≡ true
cluster_within m s flags nearest r h none = go (slice_index_or nearest r None) refl
  where
    go : (o : Option Near) → slice_index_or nearest r None ≡ o → is_below 0 (near_limit nearest r) ≡ true
    go None e = rw e refl
    go (Some q) e =
        let k = subst (IsNearestOf m.edges flags r) e (h r) in
        let at = k.2.attained in
        let far : q.distance ≡ 0 → ⊥ = λ z. none (subst (IsLandmark flags) (sym at.1.0 ∙ zero_walk m s at.0 at.1.1.0 r at.1.1.1.0 (at.1.1.1.1 ∙ z)) k.1) in
        rw e (lt-ltb 0 q.distance (omega (arith, far)))

pub added_more : (A : Type 0) (old now new : List (Vec Entry A)) (r : ℕ) (ks : List Linked) (table : List ℕ) (ns : List NumberedMember) (i : ℕ) (n : NumberedMember) (entry : Entry) → i < length ns → n ≡ get_or ns i n
    → entry ≡ entry_by r ks table n → ((x : ℕ) → items_at now x ≡ items_at old x ++ entries_for x (rows_by r ks table (take i ns)))
    → ((x : ℕ) → items_at new x ≡ items_at now x ++ cond (n.node == x) (entry ∷ []) []) → (x : ℕ) → items_at new x ≡ items_at old x ++ entries_for x (rows_by r ks table (take (i + 1) ns))
added_more A old now new r ks table ns i n entry l e is h k x =
    k x ∙ ap (λ z. items_at now x ++ cond (n.node == x) (z ∷ []) []) is ∙ ap (λ z. z ++ cond (n.node == x) (entry_by r ks table n ∷ []) []) (h x)
    ∙ append_assoc (items_at old x) (entries_for x (rows_by r ks table (take i ns))) (cond (n.node == x) (entry_by r ks table n ∷ []) [])
    ∙ ap (λ z. items_at old x ++ z) (sym (entries_next x r ks table ns i n l e))

pub homes_more : (nearest : List (Option Near)) (r : ℕ) (ns : List NumberedMember) (i : ℕ) (n : NumberedMember) (old now new : List (Option Label)) (near : Option Near) → i < length ns → n ≡ get_or ns i n
    → near ≡ slice_index_or nearest n.node None
    → ((v : ℕ) → value_at now v ≡ home_after (value_at nearest v) r (map listed_member (take i ns)) v (value_at old v))
    → ((v : ℕ) → value_at new v ≡ cond (n.node == v) (home_by near r n.label (value_at now v)) (value_at now v))
    → (v : ℕ) → value_at new v ≡ home_after (value_at nearest v) r (map listed_member (take (i + 1) ns)) v (value_at old v)
homes_more nearest r ns i n old now new near l e is h k v =
    home_next nearest r ns i n v (value_at old v) (value_at new v) near l e (is ∙ near_is nearest n.node)
    (k v ∙ ap (λ z. cond (n.node == v) (home_by near r n.label z) z) (h v))

pub flag_false : (flags : List Bool) (r : ℕ) → (IsLandmark flags r → ⊥) → slice_index_or flags r false ≡ false
flag_false flags r none = false_from_ne_true (slice_index_or flags r false) none
