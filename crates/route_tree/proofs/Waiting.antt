-- What waits for the members, from one turn to the next.
use Rattle.std.proofs.Common.{◌≡◌, ◌≢◌, ℕ, suc, zero, ◌+◌, ◌<◌, true, false, inl, inr, List, [], ◌∷◌, ◌++◌, length, take, drop, get_or, refl, sym, ap, subst, ◌∙◌, arith, length-append, length-take, length-drop, set, length-set, map}
use Rattle.std.specs.Prelude.{Option, Some, None, slice_get, nat_eq}
use Rattle.std.specs.List.{IsDistinct, AllByRecursion}
use Rattle.std.proofs.lemmas.Bool.{cases_Bool, cases_eq, cond_both, eq-eqb, ne_eqb}
use Rattle.std.proofs.lemmas.Grind.{reverse_onto}
use Rattle.std.proofs.lemmas.List.{drop_more}
use Rattle.std.proofs.lemmas.List.Sorted.{IsPermutation-reverse}
use Rattle.std.proofs.lemmas.Option.{slice_get-get_or}
use Rattle.std.specs.declared.vec.Vec.{Vec}
use Rattle.route_tree.specs.Rose.{Tree, tree, of_list}
use Rattle.route_tree.specs.Order.{ascending, HaveEachNodeOnce}
use Rattle.route_tree.specs.Front.{heavy_to_front}
use Rattle.route_tree.specs.Growth.{is_parent, trees_on, subtrees, waiting, IsEachOnce, first_or}
use Rattle.route_tree.specs.Slots.{hanging, Waits, IsHung, StandsAt}
use Rattle.route_tree.specs.declared.member.Member.{Member}
use Rattle.route_tree.proofs.Ascending.{once_permutation, same_ascending}

-- the tree of a member, from the members behind it
abbrev pub closed : Member → List Member → Tree
closed m rest = tree m.node m.up m.down (of_list (heavy_to_front (waiting m.node rest)))

pub parent_yes : (n : ℕ) (o : Option ℕ) → o ≡ Some n → is_parent n o ≡ true
parent_yes n o e = rw e (eq-eqb n n refl)

pub parent_no : (n : ℕ) (o : Option ℕ) → o ≢ Some n → is_parent n o ≡ false
parent_no n None h = refl
parent_no n (Some p) h = ne_eqb p n (λ e. h (ap (λ z. Some z) e))

hanging_yes : (n : ℕ) (m : Member) (rest : List Member) → is_parent n m.parent ≡ true → hanging n (m ∷ rest) ≡ hanging n rest ++ closed m rest ∷ []
hanging_yes n m rest e = rw e (reverse_onto (trees_on n rest (subtrees rest)) (closed m rest) [])

hanging_no : (n : ℕ) (m : Member) (rest : List Member) → is_parent n m.parent ≡ false → hanging n (m ∷ rest) ≡ hanging n rest
hanging_no n m rest e = rw e refl

pub some_same : {X : Type 0} {x y : X} → Some x ≡ Some y → x ≡ y
some_same e = cc

pub clash : {X : Type 0} {x : X} → None ≡ Some x → ⊥
clash e = cc

get_removed : {X : Type 0} (xs : List X) (at k : ℕ) (s : X) → length xs ≡ at + 1 → slice_get (take at xs ++ drop (suc at) xs) k ≡ Some s → (slice_get xs k ≡ Some s) × (k < at)
get_removed [] at k s h e = absurd (omega arith)
get_removed (x ∷ []) zero k s h e = absurd (clash e)
get_removed (x ∷ y ∷ xs) zero k s h e = absurd (omega arith)
get_removed (x ∷ xs) (suc at) zero s h e = (e, omega arith)
get_removed (x ∷ xs) (suc at) (suc k) s h e = let r = get_removed xs at k s (omega arith) e in (r.0, omega (arith, r.1))

-- what was taken out of the slots
pub taken : {A : Type 0} (ms : List Member) (at : ℕ) (slots : List (Vec Tree A)) (v : Vec Tree A) (d : Member) → Waits ms (at + 1) slots → v ≡ get_or slots at v → v.items ≡ hanging (get_or ms at d).node (drop (at + 1) ms)
taken ms at slots v d w e = w.each at v d (slice_get-get_or slots at v (let c = w.count in omega arith) ∙ ap (λ z. Some z) (sym e))

each_rest : {A : Type 0} (ms : List Member) (at : ℕ) (slots : List (Vec Tree A)) (m : Member) → at < length ms → Waits ms (at + 1) slots → m ≡ get_or ms at m
    → (k : ℕ) (s : Vec Tree A) (d : Member) → m.parent ≢ Some (get_or ms k d).node → slice_get slots k ≡ Some s → s.items ≡ hanging (get_or ms k d).node (drop at ms)
each_rest ms at slots m lt w e k s d other g =
    w.each k s d g ∙ sym (hanging_no (get_or ms k d).node m (drop (at + 1) ms) (parent_no _ _ other))
    ∙ ap (hanging (get_or ms k d).node) (ap (λ z. z ∷ drop (at + 1) ms) e ∙ sym (drop_more ms at m lt))

pub removed_length : {X : Type 0} (xs : List X) (at : ℕ) → length xs ≡ at + 1 → length (take at xs ++ drop (suc at) xs) ≡ at
removed_length xs at h = omega (arith, length-append (take at xs) (drop (suc at) xs), length-take at xs, length-drop (suc at) xs)

-- the last open tree was closed and hung on its parent, at p
pub waits_less : {A : Type 0} (ms : List Member) (at p : ℕ) (slots mid new : List (Vec Tree A)) (m : Member) (t : Tree) → at < length ms → IsEachOnce ms → Waits ms (at + 1) slots → m ≡ get_or ms at m
    → StandsAt ms at m.parent p → mid ≡ take at slots ++ drop (suc at) slots → t ≡ closed m (drop (at + 1) ms) → IsHung mid p t new → Waits ms at new
waits_less ms at p slots mid new m t lt once w e place f te h = record {
  count = h.count ∙ ap length f ∙ removed_length slots at w.count;
  each = λ k s d g. elim (cases_eq k p) [
    | inl kp ↦ (
        let o = h.here s (subst (λ z. slice_get new z ≡ Some s) kp g) in
        let r = get_removed slots at p o.0 w.count (subst (λ z. slice_get z p ≡ Some o.0) f o.1.0) in
        let old = w.each p o.0 d r.0 in
        let step = hanging_yes (get_or ms p d).node m (drop (at + 1) ms) (parent_yes _ _ (place.is d)) in
        subst (λ z. s.items ≡ hanging (get_or ms z d).node (drop at ms)) (sym kp)
        (o.1.1 ∙ ap (λ z. o.0.items ++ z ∷ []) te ∙ ap (λ z. z ++ closed m (drop (at + 1) ms) ∷ []) old ∙ sym step
        ∙ ap (hanging (get_or ms p d).node) (ap (λ z. z ∷ drop (at + 1) ms) e ∙ sym (drop_more ms at m lt))))
    | inr ne ↦ (
        let r = get_removed slots at k s w.count (subst (λ z. slice_get z k ≡ Some s) f (h.other k s ne g)) in
        each_rest ms at slots m lt w e k s d (λ z. ne (once k p d d (omega (arith, r.1)) (omega (arith, place.before)) (some_same (sym z ∙ place.is d)))) r.0)
  ];
}

-- one slot is left, the root's
pub once_drop : (n : ℕ) (ms : List Member) → IsEachOnce ms → IsEachOnce (drop n ms)
once_drop zero ms o = o
once_drop (suc n) [] o = o
once_drop (suc n) (m ∷ ms) o = once_drop n ms (λ i j d e a b s. (let h = o (suc i) (suc j) d e (omega arith) (omega arith) s in omega (arith, h)))

pub once_tail : (m : Member) (ms : List Member) → IsEachOnce (m ∷ ms) → IsEachOnce ms
once_tail m ms o = once_drop 1 (m ∷ ms) o

-- the node x is none of the members'
abbrev pub Lacks : ℕ → List Member → Type 0
Lacks x ms = (k : ℕ) (d : Member) → k < length ms → x ≢ (get_or ms k d).node

pub lacks_head : (m : Member) (ms : List Member) → IsEachOnce (m ∷ ms) → Lacks m.node ms
lacks_head m ms o k d l e = (let z = o 0 (suc k) m d (omega arith) (omega arith) e in omega (arith, z))

nodes_lack : (x n : ℕ) (ms : List Member) → Lacks x ms → AllByRecursion (λ y. nat_eq x y ≡ false) (map (λ t. t.node) (trees_on n ms (subtrees ms)))
nodes_lack x n [] l = tt
nodes_lack x n (m ∷ ms) l = (let rest = nodes_lack x n ms (λ k d h. l (suc k) d (omega arith)) in
    cond_both (is_parent n m.parent) (closed m ms ∷ trees_on n ms (subtrees ms)) (trees_on n ms (subtrees ms)) (λ z. AllByRecursion (λ y. nat_eq x y ≡ false) (map (λ (t : Tree). t.node) z)) (λ _. (ne_eqb x m.node (l 0 m (omega arith)), rest)) (λ _. rest))

trees_once : (n : ℕ) (ms : List Member) → IsEachOnce ms → HaveEachNodeOnce (trees_on n ms (subtrees ms))
unfolding IsDistinct
trees_once n [] o = tt
trees_once n (m ∷ ms) o = elim (cases_Bool (is_parent n m.parent)) [
  | inl e ↦ rw e (nodes_lack m.node n ms (lacks_head m ms o), trees_once n ms (once_tail m ms o))
  | inr e ↦ rw e (trees_once n ms (once_tail m ms o))
]

pub hanging_once : (n : ℕ) (ms : List Member) → IsEachOnce ms → HaveEachNodeOnce (hanging n ms)
hanging_once n ms o = once_permutation (trees_on n ms (subtrees ms)) (hanging n ms) (IsPermutation-reverse (trees_on n ms (subtrees ms))) (trees_once n ms o)

-- sorted, what hangs on a node is what waits for it
pub hanging_sorted : (n : ℕ) (ms : List Member) → IsEachOnce ms → ascending (hanging n ms) ≡ waiting n ms
hanging_sorted n ms o = same_ascending (trees_on n ms (subtrees ms)) (hanging n ms) (trees_once n ms o) (IsPermutation-reverse (trees_on n ms (subtrees ms)))

pub closed_is : {A : Type 0} (ms : List Member) (at : ℕ) (slots : List (Vec Tree A)) (v : Vec Tree A) (m : Member) (t : Tree) → IsEachOnce ms → Waits ms (at + 1) slots → v ≡ get_or slots at v → m ≡ get_or ms at m
    → t ≡ tree m.node m.up m.down (of_list (heavy_to_front (ascending v.items))) → t ≡ closed m (drop (at + 1) ms)
closed_is ms at slots v m t o w e f g =
    g ∙ ap (λ z. tree m.node m.up m.down (of_list (heavy_to_front (ascending z)))) (taken ms at slots v m w e)
    ∙ ap (λ (z : Member). tree m.node m.up m.down (of_list (heavy_to_front (ascending (hanging z.node (drop (at + 1) ms)))))) (sym f)
    ∙ ap (λ z. tree m.node m.up m.down (of_list (heavy_to_front z))) (hanging_sorted m.node (drop (at + 1) ms) (once_drop (at + 1) ms o))

pub first_is : (ms : List Member) (m : Member) (t x : Tree) → 0 < length ms → m ≡ get_or ms 0 m → t ≡ closed m (drop 1 ms) → t ≡ first_or x (subtrees ms)
first_is [] m t x h e f = absurd (omega arith)
first_is (n ∷ ms) m t x h e f = f ∙ ap (λ z. closed z ms) e

get_set_same : {X : Type 0} (xs : List X) (p : ℕ) (v s : X) → slice_get (set xs p v) p ≡ Some s → v ≡ s
get_set_same [] p v s e = absurd (clash e)
get_set_same (x ∷ xs) zero v s e = some_same e
get_set_same (x ∷ xs) (suc p) v s e = get_set_same xs p v s e

get_set_other : {X : Type 0} (xs : List X) (p k : ℕ) (v s : X) → k ≢ p → slice_get (set xs p v) k ≡ Some s → slice_get xs k ≡ Some s
get_set_other [] p k v s h e = e
get_set_other (x ∷ xs) zero zero v s h e = absurd (h refl)
get_set_other (x ∷ xs) zero (suc k) v s h e = e
get_set_other (x ∷ xs) (suc p) zero v s h e = e
get_set_other (x ∷ xs) (suc p) (suc k) v s h e = get_set_other xs p k v s (λ q. h (ap suc q)) e

pub hung_push : {A : Type 0} (slots : List (Vec Tree A)) (p : ℕ) (t : Tree) (old new : Vec Tree A) → p < length slots → old ≡ get_or slots p old → new.items ≡ old.items ++ t ∷ [] → IsHung slots p t (set slots p new)
hung_push slots p t old new h e f = record {
  count = length-set slots p new;
  other = λ k s ne g. get_set_other slots p k new s ne g;
  here = λ s g. (old, (slice_get-get_or slots p old h ∙ ap (λ z. Some z) (sym e), ap (λ z. z.items) (sym (get_set_same slots p new s g)) ∙ f));
}

abbrev pub no_member : Member
no_member = record { node = 0; parent = None; up = None; down = None }
