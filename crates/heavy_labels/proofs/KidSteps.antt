-- Children that are met one after the other, in the order of nodes.
use Rattle.std.proofs.Common.{◌≡◌, ◌≢◌, ℕ, zero, suc, ◌+◌, ◌<◌, ◌≤◌, true, false, inl, inr, List, [], ◌∷◌, ◌++◌, length, take, drop, get_or, refl, sym, ap, subst, ◌∙◌, arith, length-append}
use Rattle.std.specs.Prelude.{slice_index}
use Rattle.std.proofs.lemmas.Bool.{cases_Bool, cases_eq}
use Rattle.std.proofs.lemmas.List.{append-nil, take-append-drop, drop_more, get_or_at, get_or-take, take-take, length-take-le}
use Rattle.std.proofs.lemmas.List.Elements.{All-from_recursion}
use Rattle.route_tree.specs.Rose.{Tree, tree_size, of_list, count}
use Rattle.route_tree.specs.Order.{heaviest}
use Rattle.route_tree.specs.Front.{heavy_at}
use Rattle.route_tree.specs.Growth.{is_parent, waiting}
use Rattle.route_tree.specs.Members.{AreMembers}
use Rattle.route_tree.specs.Slots.{hanging, StandsAt}
use Rattle.route_tree.specs.declared.member.Member.{Member}
use Rattle.route_tree.proofs.Counting.{count_front, count_ascending, hanging_fits}
use Rattle.route_tree.proofs.Heaviest.{heavy_here, heavy_size, heaviest_all}
use Rattle.route_tree.proofs.Waiting.{parent_yes, parent_no, some_same, hanging_sorted, once_drop}
use Rattle.heavy_labels.specs.ByNode.{nobody, node_at, tree_of, kids_of, AreAbove, AscendByNode, AreByNode}
use Rattle.heavy_labels.proofs.BehindThem.{subtree_at, waits_behind}
use Rattle.heavy_labels.proofs.KidsByNode.{kids_ascend}
use Rattle.heavy_labels.proofs.OneOf.{in_at}

-- ---- lists of children

kids_append : (ms : List Member) (n : ℕ) (is js : List ℕ) → kids_of ms n (is ++ js) ≡ kids_of ms n is ++ kids_of ms n js
kids_append ms n [] js = refl
kids_append ms n (i ∷ is) js = elim (cases_Bool (is_parent n (get_or ms i nobody).parent)) [ inl e ↦ rw e (ap (λ z. tree_of ms i ∷ z) (kids_append ms n is js)) | inr e ↦ rw e (kids_append ms n is js) ]

-- one place more
pub push_yes : (ms : List Member) (n : ℕ) (met : List ℕ) (x : ℕ) → is_parent n (get_or ms x nobody).parent ≡ true → kids_of ms n (met ++ x ∷ []) ≡ kids_of ms n met ++ tree_of ms x ∷ []
push_yes ms n met x e = (let one : kids_of ms n (x ∷ []) ≡ tree_of ms x ∷ [] = rw e refl in kids_append ms n met (x ∷ []) ∙ ap (λ z. kids_of ms n met ++ z) one)

pub push_no : (ms : List Member) (n : ℕ) (met : List ℕ) (x : ℕ) → is_parent n (get_or ms x nobody).parent ≡ false → kids_of ms n (met ++ x ∷ []) ≡ kids_of ms n met
push_no ms n met x e = (let none : kids_of ms n (x ∷ []) ≡ [] = rw e refl in kids_append ms n met (x ∷ []) ∙ ap (λ z. kids_of ms n met ++ z) none ∙ append-nil (kids_of ms n met))

-- those before a child, the child, and those behind it
pub kids_at : (ms : List Member) (n : ℕ) (is : List ℕ) (j : ℕ) → j < length is → is_parent n (get_or ms (slice_index is j) nobody).parent ≡ true
    → kids_of ms n is ≡ kids_of ms n (take j is) ++ (tree_of ms (slice_index is j) ∷ kids_of ms n (drop (j + 1) is))
kids_at ms n is j l e =
    let here : kids_of ms n (slice_index is j ∷ drop (j + 1) is) ≡ tree_of ms (slice_index is j) ∷ kids_of ms n (drop (j + 1) is) = rw e refl in
    ap (kids_of ms n) (sym (take-append-drop j is)) ∙ kids_append ms n (take j is) (drop j is)
    ∙ ap (λ z. kids_of ms n (take j is) ++ z) (ap (kids_of ms n) (drop_more is j 0 l) ∙ here)

pub kid_at : (ms : List Member) (n : ℕ) (is : List ℕ) (j : ℕ) (d : Tree) → j < length is → is_parent n (get_or ms (slice_index is j) nobody).parent ≡ true
    → get_or (kids_of ms n is) (length (kids_of ms n (take j is))) d ≡ tree_of ms (slice_index is j)
kid_at ms n is j d l e =
    ap (λ (z : List Tree). get_or z (length (kids_of ms n (take j is))) d) (kids_at ms n is j l e)
    ∙ get_or_at (kids_of ms n (take j is)) (tree_of ms (slice_index is j)) (kids_of ms n (drop (j + 1) is)) d (length (kids_of ms n (take j is))) refl

-- fewer children come before it than there are
pub kid_there : (ms : List Member) (n : ℕ) (is : List ℕ) (j : ℕ) → j < length is → is_parent n (get_or ms (slice_index is j) nobody).parent ≡ true → length (kids_of ms n (take j is)) < length (kids_of ms n is)
kid_there ms n is j l e =
    let all = ap (λ (z : List Tree). length z) (kids_at ms n is j l e) in
    let parts = length-append (kids_of ms n (take j is)) (tree_of ms (slice_index is j) ∷ kids_of ms n (drop (j + 1) is)) in
    omega (arith, all, parts)

-- and than come before a later one
pub kids_later : (ms : List Member) (n : ℕ) (is : List ℕ) (j k : ℕ) → j < k → k ≤ length is → is_parent n (get_or ms (slice_index is j) nobody).parent ≡ true
    → length (kids_of ms n (take j is)) < length (kids_of ms n (take k is))
kids_later ms n is j k l lk e =
    let same : slice_index (take k is) j ≡ slice_index is j = get_or-take k is j 0 l in
    let long = length-take-le k is lk in
    let there = kid_there ms n (take k is) j (omega (arith, long, l)) (subst (λ z. is_parent n (get_or ms z nobody).parent ≡ true) (sym same) e) in
    let front = ap (λ z. length (kids_of ms n z)) (take-take j k is (omega (arith, l))) in
    omega (arith, there, front)

-- the place of a child in the order
abbrev Place : List Member → ℕ → List ℕ → ℕ → Type 0
Place ms n is at = (j : ℕ) × ((j < length is) × ((is_parent n (get_or ms (slice_index is j) nobody).parent ≡ true) × (kids_of ms n (take j is) ≡ take at (kids_of ms n is))))

place_yes : (ms : List Member) (n i : ℕ) (is : List ℕ) (at : ℕ) → is_parent n (get_or ms i nobody).parent ≡ true → Place ms n is at → Place ms n (i ∷ is) (suc at)
place_yes ms n i is at e r = (suc r.0, (let l = r.1.0 in omega (arith, l), (r.1.1.0, rw e (ap (λ z. tree_of ms i ∷ z) r.1.1.1))))

place_no : (ms : List Member) (n i : ℕ) (is : List ℕ) (at : ℕ) → is_parent n (get_or ms i nobody).parent ≡ false → Place ms n is at → Place ms n (i ∷ is) at
place_no ms n i is at e r = (suc r.0, (let l = r.1.0 in omega (arith, l), (r.1.1.0, rw e r.1.1.1)))

pub kid_place : (ms : List Member) (n : ℕ) (is : List ℕ) (at : ℕ) → at < length (kids_of ms n is)
    → (j : ℕ) × ((j < length is) × ((is_parent n (get_or ms (slice_index is j) nobody).parent ≡ true) × (kids_of ms n (take j is) ≡ take at (kids_of ms n is))))
kid_place ms n [] at l = absurd (omega (arith, l))
kid_place ms n (i ∷ is) zero l = elim (cases_Bool (is_parent n (get_or ms i nobody).parent)) [
  | inl e ↦ (0, (omega arith, (e, refl)))
  | inr e ↦ place_no ms n i is zero e (kid_place ms n is zero (rw e at l))
]
kid_place ms n (i ∷ is) (suc at) l = elim (cases_Bool (is_parent n (get_or ms i nobody).parent)) [
  | inl e ↦ place_yes ms n i is at e (kid_place ms n is at (let m = rw e at l in omega (arith, m)))
  | inr e ↦ place_no ms n i is (suc at) e (kid_place ms n is (suc at) (rw e at l))
]

-- ---- what is known of the order

pub place_inside : (ms : List Member) (is : List ℕ) (j : ℕ) → AreByNode ms is → j < length is → slice_index is j < length ms
place_inside ms is j b l = (b.all (slice_index is j)).0 (in_at is j 0 l)

above_at : (ms : List Member) (x : ℕ) (is : List ℕ) (j : ℕ) → AreAbove ms x is → j < length is → x < node_at ms (slice_index is j)
above_at ms x [] j a l = absurd (omega (arith, l))
above_at ms x (i ∷ is) zero a l = a.0
above_at ms x (i ∷ is) (suc j) a l = above_at ms x is j a.1 (omega (arith, l))

-- no place comes twice
pub ascend_once : (ms : List Member) (is : List ℕ) (j k : ℕ) → AscendByNode ms is → j < length is → k < length is → slice_index is j ≡ slice_index is k → j ≡ k
ascend_once ms [] j k a l m e = absurd (omega (arith, l))
ascend_once ms (i ∷ is) zero zero a l m e = refl
ascend_once ms (i ∷ is) zero (suc k) a l m e = absurd (let u = above_at ms (node_at ms i) is k a.0 (omega (arith, m)) in let v = ap (node_at ms) e in omega (arith, u, v))
ascend_once ms (i ∷ is) (suc j) zero a l m e = absurd (let u = above_at ms (node_at ms i) is j a.0 (omega (arith, l)) in let v = ap (node_at ms) e in omega (arith, u, v))
ascend_once ms (i ∷ is) (suc j) (suc k) a l m e = ap suc (ascend_once ms is j k a.1 (omega (arith, l)) (omega (arith, m)) e)

-- ---- parents

-- the root is nobody's child
pub root_no : (ms : List Member) (n i : ℕ) → AreMembers ms → i ≡ 0 → is_parent n (get_or ms i nobody).parent ≡ false
root_no ms n i a z = ap (λ k. is_parent n (get_or ms k nobody).parent) z ∙ ap (is_parent n) (a.root nobody).parent

pub kid_not_root : (ms : List Member) (n i : ℕ) → AreMembers ms → is_parent n (get_or ms i nobody).parent ≡ true → i ≢ 0
kid_not_root ms n i a e z = (let f = root_no ms n i a z in cc)

pub child_yes : (ms : List Member) (x p : ℕ) → StandsAt ms x (get_or ms x nobody).parent p → is_parent (node_at ms p) (get_or ms x nobody).parent ≡ true
child_yes ms x p s = parent_yes _ _ (s.is nobody)

pub child_no : (ms : List Member) (x p k : ℕ) → AreMembers ms → StandsAt ms x (get_or ms x nobody).parent p → x < length ms → k < length ms → p ≢ k → is_parent (node_at ms k) (get_or ms x nobody).parent ≡ false
child_no ms x p k a s l lk ne = parent_no _ _ (λ e. ne (a.once p k nobody nobody (let b = s.before in omega (arith, b, l)) lk (some_same (sym (s.is nobody) ∙ e))))

pub child_of : (ms : List Member) (x p k : ℕ) → AreMembers ms → StandsAt ms x (get_or ms x nobody).parent p → x < length ms → k < length ms → is_parent (node_at ms k) (get_or ms x nobody).parent ≡ true → p ≡ k
child_of ms x p k a s l lk e = elim (cases_eq p k) [ inl q ↦ q | inr ne ↦ (let f = child_no ms x p k a s l lk ne in cc) ]

-- ---- sizes

-- the children of a member, as they are met, are those that wait for it
pub kids_waiting : (ms : List Member) (is : List ℕ) (k : ℕ) → AreMembers ms → AreByNode ms is → k < length ms → kids_of ms (node_at ms k) is ≡ waiting (node_at ms k) (drop (k + 1) ms)
kids_waiting ms is k a b l = kids_ascend ms is (node_at ms k) a.once b.ascend b.all ∙ waits_behind ms k a l

pub size_kids : (ms : List Member) (is : List ℕ) (k : ℕ) → AreMembers ms → AreByNode ms is → k < length ms → tree_size (tree_of ms k) ≡ 1 + count (of_list (kids_of ms (node_at ms k) is))
size_kids ms is k a b l =
    let closed = ap tree_size (subtree_at ms k l) in
    let front = count_front (waiting (node_at ms k) (drop (k + 1) ms)) in
    let same = ap (λ z. count (of_list z)) (kids_waiting ms is k a b l) in
    omega (arith, closed, front, same)

pub kids_fit : (ms : List Member) (is : List ℕ) (k : ℕ) → AreMembers ms → AreByNode ms is → k < length ms → count (of_list (kids_of ms (node_at ms k) is)) ≤ length ms
kids_fit ms is k a b l =
    let same = ap (λ z. count (of_list z)) (kids_waiting ms is k a b l) in
    let sorted = ap (λ z. count (of_list z)) (hanging_sorted (node_at ms k) (drop (k + 1) ms) (once_drop (k + 1) ms a.once)) in
    let any = count_ascending (hanging (node_at ms k) (drop (k + 1) ms)) in
    let fit = hanging_fits ms k (k + 1) nobody a.once (omega arith) in
    omega (arith, same, sorted, any, fit)

-- ---- the heaviest

pub heavy_is : (us : List Tree) (d : Tree) → 0 < length us → tree_size (get_or us (heavy_at us) d) ≡ heaviest us
heavy_is [] d l = absurd (omega (arith, l))
heavy_is (t ∷ ts) d l = heavy_size t ts d

pub heavy_inside : (us : List Tree) → 0 < length us → heavy_at us < length us
heavy_inside [] l = absurd (omega (arith, l))
heavy_inside (t ∷ ts) l = heavy_here t ts

pub at_most_heavy : (us : List Tree) (i : ℕ) (d : Tree) → i < length us → tree_size (get_or us i d) ≤ heaviest us
at_most_heavy us i d l = All-from_recursion (λ t. tree_size t ≤ heaviest us) us (heaviest_all us) i d l

pub heaviest_fits : (us : List Tree) → heaviest us ≤ count (of_list us)
heaviest_fits [] = omega arith
heaviest_fits (t ∷ ts) = (let h = heaviest_fits ts in omega (arith, h))
