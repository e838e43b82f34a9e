-- Each member stands in the tree once, below its parent and with its ports.
use Rattle.std.proofs.Common.{◌≡◌, ◌≢◌, ℕ, suc, zero, ◌+◌, ◌<◌, ◌⊎◌, inl, inr, false, List, [], ◌∷◌, ◌++◌, length, take, drop, get_or, refl, sym, ap, subst, ◌∙◌, arith, IsPermutation, append_assoc, length-append}
use Rattle.std.specs.Prelude.{Option, Some, nat_lt}
use Rattle.std.proofs.lemmas.Bool.{cond_both}
use Rattle.std.proofs.lemmas.List.{append-nil, take-append-drop}
use Rattle.std.proofs.lemmas.List.Sorted.{IsPermutation-refl, IsPermutation-trans, IsPermutation-cons, IsPermutation-append_left, IsPermutation-append_right, IsPermutation-append_comm, length_permutation}
use Rattle.route_tree.specs.Rose.{Forest, no_trees, twig, Tree, tree_size, of_list, count}
use Rattle.route_tree.specs.Order.{insert, ascending}
use Rattle.route_tree.specs.Front.{heavy_to_front, heavy_at}
use Rattle.route_tree.specs.Growth.{is_parent, trees_on, subtrees, waiting, first_or}
use Rattle.route_tree.specs.Members.{AreMembers, HasParentBefore, listed, members_of}
use Rattle.route_tree.specs.declared.member.Member.{Member}
use Rattle.route_tree.proofs.Waiting.{closed, parent_yes, parent_no, some_same, lacks_head, once_tail}
use Rattle.route_tree.proofs.Counting.{Fresh, Distinct, Apart, apart_from, same_parent}

-- what trees on p list, whatever their order
listed_append : (p : Option ℕ) (xs ys : List Tree) → listed p (of_list (xs ++ ys)) ≡ listed p (of_list xs) ++ listed p (of_list ys)
listed_append p [] ys = refl
listed_append p (x ∷ xs) ys =
    ap (λ z. record { node = x.node; parent = p; up = x.up; down = x.down } ∷ (listed (Some x.node) x.below ++ z)) (listed_append p xs ys)
    ∙ ap (λ z. record { node = x.node; parent = p; up = x.up; down = x.down } ∷ z) (sym (append_assoc (listed (Some x.node) x.below) (listed p (of_list xs)) (listed p (of_list ys))))

abbrev lines : Option ℕ → Tree → List Member
lines p t = record { node = t.node; parent = p; up = t.up; down = t.down } ∷ listed (Some t.node) t.below

listed_insert : (p : Option ℕ) (t : Tree) (us : List Tree) → IsPermutation (lines p t ++ listed p (of_list us)) (listed p (of_list (insert t us)))
listed_insert p t [] = IsPermutation-refl (lines p t ++ [])
listed_insert p t (u ∷ us) =
    cond_both (nat_lt t.node u.node) (t ∷ u ∷ us) (u ∷ insert t us) (λ z. IsPermutation (lines p t ++ listed p (of_list (u ∷ us))) (listed p (of_list z)))
    (λ _. IsPermutation-refl (lines p t ++ listed p (of_list (u ∷ us)))) (λ _. IsPermutation-trans _ _ _ swapped (IsPermutation-append_right (lines p u) _ _ (listed_insert p t us)))
  where
    swapped : IsPermutation (lines p t ++ (lines p u ++ listed p (of_list us))) (lines p u ++ (lines p t ++ listed p (of_list us)))
    swapped =
        let comm = IsPermutation-append_left (listed p (of_list us)) _ _ (IsPermutation-append_comm (lines p t) (lines p u)) in
        subst (λ z. IsPermutation z (lines p u ++ (lines p t ++ listed p (of_list us)))) (append_assoc (lines p t) (lines p u) (listed p (of_list us)))
        (subst (λ z. IsPermutation ((lines p t ++ lines p u) ++ listed p (of_list us)) z) (append_assoc (lines p u) (lines p t) (listed p (of_list us))) comm)

listed_ascending : (p : Option ℕ) (ts : List Tree) → IsPermutation (listed p (of_list ts)) (listed p (of_list (ascending ts)))
listed_ascending p [] = IsPermutation-refl []
listed_ascending p (t ∷ ts) = IsPermutation-trans _ _ _ (IsPermutation-append_right (lines p t) _ _ (listed_ascending p ts)) (listed_insert p t (ascending ts))

listed_turned : (p : Option ℕ) (xs ys : List Tree) → IsPermutation (listed p (of_list (xs ++ ys))) (listed p (of_list (ys ++ xs)))
listed_turned p xs ys =
    subst (λ z. IsPermutation z (listed p (of_list (ys ++ xs)))) (sym (listed_append p xs ys))
    (subst (λ z. IsPermutation (listed p (of_list xs) ++ listed p (of_list ys)) z) (sym (listed_append p ys xs)) (IsPermutation-append_comm (listed p (of_list xs)) (listed p (of_list ys))))

listed_front : (p : Option ℕ) (ts : List Tree) → IsPermutation (listed p (of_list ts)) (listed p (of_list (heavy_to_front ts)))
listed_front p ts =
    let i = heavy_at ts in
    let part = take (i + 1) ts in
    let turned = listed_turned p (take i part) (drop i part) in
    let same : listed p (of_list ts) ≡ listed p (of_list (take i part ++ drop i part)) ++ listed p (of_list (drop (i + 1) ts)) =
    ap (λ z. listed p (of_list z)) (sym (take-append-drop (i + 1) ts)) ∙ listed_append p part (drop (i + 1) ts)
    ∙ ap (λ z. listed p (of_list z) ++ listed p (of_list (drop (i + 1) ts))) (sym (take-append-drop i part)) in
    subst (λ z. IsPermutation z (listed p (of_list (heavy_to_front ts)))) (sym same)
    (subst (λ z. IsPermutation (listed p (of_list (take i part ++ drop i part)) ++ listed p (of_list (drop (i + 1) ts))) z) (sym (listed_append p (drop i part ++ take i part) (drop (i + 1) ts)))
    (IsPermutation-append_left (listed p (of_list (drop (i + 1) ts))) _ _ turned))

-- what hangs on a node, and what its tree lists below it
listed_below : (n : ℕ) (ms : List Member) → IsPermutation (listed (Some n) (of_list (trees_on n ms (subtrees ms)))) (listed (Some n) (of_list (heavy_to_front (waiting n ms))))
listed_below n ms = IsPermutation-trans _ _ _ (listed_ascending (Some n) (trees_on n ms (subtrees ms))) (listed_front (Some n) (waiting n ms))

abbrev on : ℕ → List Member → List Member
on n ms = listed (Some n) (of_list (trees_on n ms (subtrees ms)))

-- all that hangs on the nodes ns
abbrev gathered : List ℕ → List Member → List Member
gathered [] ms = []
gathered (n ∷ ns) ms = on n ms ++ gathered ns ms

abbrev IsAmong : Option ℕ → List ℕ → Type 0
IsAmong p [] = ⊥
IsAmong p (n ∷ ns) = (p ≡ Some n) ⊎ IsAmong p ns

-- each parent is one of ns or an earlier member
abbrev Covered : List ℕ → List Member → Type 0
Covered ns [] = Unit {0}
Covered ns (m ∷ ms) = IsAmong m.parent ns × Covered (m.node ∷ ns) ms

on_yes : (n : ℕ) (m : Member) (ms : List Member) → m.parent ≡ Some n → on n (m ∷ ms) ≡ lines m.parent (closed m ms) ++ on n ms
on_yes n m ms e = rw (parent_yes n m.parent e) (ap (λ p. lines p (closed m ms) ++ on n ms) (sym e))

on_no : (n : ℕ) (m : Member) (ms : List Member) → is_parent n m.parent ≡ false → on n (m ∷ ms) ≡ on n ms
on_no n m ms e = rw e refl

gathered_none : (n : ℕ) (ks : List ℕ) (m : Member) (ms : List Member) → m.parent ≡ Some n → Fresh n ks → gathered ks (m ∷ ms) ≡ gathered ks ms
gathered_none n [] m ms e f = refl
gathered_none n (k ∷ ks) m ms e f =
    ap (λ z. z ++ gathered ks (m ∷ ms)) (on_no k m ms (same_parent n k m.parent (parent_yes n m.parent e) f.0))
    ∙ ap (λ z. on k ms ++ z) (gathered_none n ks m ms e f.1)

is_none_of : (n : ℕ) (ks : List ℕ) (p : Option ℕ) → IsAmong p ks → Fresh n ks → p ≢ Some n
is_none_of n [] p h f = absurd h
is_none_of n (k ∷ ks) p (inl e) f = λ q. f.0 (some_same (sym q ∙ e))
is_none_of n (k ∷ ks) p (inr h) f = is_none_of n ks p h f.1

gathered_more : (ns : List ℕ) (m : Member) (ms : List Member) → Distinct ns → IsAmong m.parent ns → IsPermutation (lines m.parent (closed m ms) ++ gathered ns ms) (gathered ns (m ∷ ms))
gathered_more [] m ms d h = absurd h
gathered_more (n ∷ ns) m ms d (inl e) =
    let ls = lines m.parent (closed m ms) in
    subst (λ z. IsPermutation (ls ++ (on n ms ++ gathered ns ms)) z)
    (sym (append_assoc ls (on n ms) (gathered ns ms)) ∙ ap (λ z. z ++ gathered ns ms) (sym (on_yes n m ms e)) ∙ ap (λ z. on n (m ∷ ms) ++ z) (sym (gathered_none n ns m ms e d.0)))
    (IsPermutation-refl (ls ++ (on n ms ++ gathered ns ms)))
gathered_more (n ∷ ns) m ms d (inr h) =
    let ls = lines m.parent (closed m ms) in
    let rest = IsPermutation-append_right (on n ms) _ _ (gathered_more ns m ms d.1 h) in
    let comm = IsPermutation-append_left (gathered ns ms) _ _ (IsPermutation-append_comm ls (on n ms)) in
    let moved = subst (λ z. IsPermutation z (on n ms ++ (ls ++ gathered ns ms))) (append_assoc ls (on n ms) (gathered ns ms))
    (subst (λ z. IsPermutation ((ls ++ on n ms) ++ gathered ns ms) z) (append_assoc (on n ms) ls (gathered ns ms)) comm) in
    subst (λ z. IsPermutation (ls ++ (on n ms ++ gathered ns ms)) (z ++ gathered ns (m ∷ ms))) (sym (on_no n m ms (parent_no n m.parent (is_none_of n ns m.parent h d.0))))
    (IsPermutation-trans _ _ _ moved rest)

-- where each parent is one of ns or an earlier member, all members are gathered
all_gathered : (ms : List Member) (ns : List ℕ) → Distinct ns → Apart ns ms → Covered ns ms → IsPermutation ms (gathered ns ms)
all_gathered [] ns d a c = subst (λ z. IsPermutation [] z) (sym (nothing ns)) (IsPermutation-refl [])
  where
    nothing : (ns : List ℕ) → gathered ns [] ≡ []
    nothing [] = refl
    nothing (n ∷ ns) = nothing ns
all_gathered (m ∷ ms) ns d a c =
    let rest = all_gathered ms (m.node ∷ ns) (a.0, d) a.1 c.1 in
    let closing = IsPermutation-append_left (gathered ns ms) _ _ (listed_below m.node ms) in
    IsPermutation-trans _ _ _ (IsPermutation-cons m _ _ (IsPermutation-trans _ _ _ rest closing)) (gathered_more ns m ms d c.0)

-- a parent before a member of m ∷ ms is m, or it stands before it among ms
among_rest : (m : Member) (ms : List Member) (ns : List ℕ) (k : ℕ) (a : Member) → HasParentBefore (m ∷ ms) (suc k) a → IsAmong a.parent (m.node ∷ ns) ⊎ HasParentBefore ms k a
among_rest m ms ns k a (zero, p) = inl (inl (p.1 m))
among_rest m ms ns k a (suc j, p) = inr (j, (omega (arith, p.0), p.1))

covered : (ms : List Member) (ns : List ℕ) → ((k : ℕ) (d : Member) → k < length ms → IsAmong (get_or ms k d).parent ns ⊎ HasParentBefore ms k (get_or ms k d)) → Covered ns ms
covered [] ns h = tt
covered (m ∷ ms) ns h = (
  elim (h 0 m (omega arith)) [ inl a ↦ a | inr p ↦ absurd (let w = p.1.0 in omega (arith, w)) ],
  covered ms (m.node ∷ ns) (λ k d l. elim (h (suc k) d (omega arith)) [ inl a ↦ inl (inr a) | inr p ↦ among_rest m ms ns k (get_or ms k d) p ]),
)

-- each member stands in its tree once
pub each_once : (ms : List Member) (d : Tree) → AreMembers ms → IsPermutation ms (members_of (first_or d (subtrees ms)))
each_once [] d a = absurd (let l = a.some in omega arith)
each_once (m ∷ ms) d a =
    let apart = apart_from ms (m.node ∷ []) (λ k e l. ((λ q. lacks_head m ms a.once k e l (sym q)), tt)) (once_tail m ms a.once) in
    let parents = covered ms (m.node ∷ []) (λ k e l. among_rest m ms [] k (get_or ms k e) (a.parents (suc k) e (omega arith) (omega arith))) in
    let all = all_gathered ms (m.node ∷ []) (tt, tt) apart parents in
    let below = IsPermutation-trans _ _ _ (subst (λ z. IsPermutation ms z) (append-nil (on m.node ms)) all) (listed_below m.node ms) in
    subst (λ z. IsPermutation (m ∷ ms) (record { node = m.node; parent = z; up = m.up; down = m.down } ∷ listed (Some m.node) (closed m ms).below)) (a.root m).parent
    (IsPermutation-cons m _ _ below)

length_listed : (p : Option ℕ) (f : Forest) → length (listed p f) ≡ count f
length_listed p no_trees = refl
length_listed p (twig n u d below beside) = omega (arith, length-append (listed (Some n) below) (listed p beside), length_listed (Some n) below, length_listed p beside)

-- a tree has as many members as were given
pub as_many : (ms : List Member) (d : Tree) → AreMembers ms → tree_size (first_or d (subtrees ms)) ≡ length ms
as_many ms d a =
    let t = first_or d (subtrees ms) in
    omega (arith, length_permutation ms (members_of t) (each_once ms d a), length_listed (Some t.node) t.below)
