-- No more trees wait than there are members.
use Rattle.std.proofs.Common.{◌≡◌, ◌≢◌, ℕ, suc, zero, ◌+◌, ◌<◌, ◌≤◌, true, false, inl, inr, List, [], ◌∷◌, ◌++◌, length, take, drop, get_or, refl, sym, ap, ◌∙◌, arith, length-drop, reverse}
use Rattle.std.specs.Prelude.{Option, Some, None, nat_lt}
use Rattle.std.proofs.lemmas.Bool.{cases_Bool, cond_both, eqb-true, false≢true}
use Rattle.std.proofs.lemmas.Grind.{reverse_onto}
use Rattle.std.proofs.lemmas.List.{get_or-drop}
use Rattle.route_tree.specs.Rose.{Tree, tree_size, of_list, count}
use Rattle.route_tree.specs.Order.{insert, ascending}
use Rattle.route_tree.specs.Front.{heavy_to_front, heavy_at}
use Rattle.route_tree.specs.Growth.{is_parent, trees_on, subtrees, waiting, IsEachOnce}
use Rattle.route_tree.specs.Slots.{hanging}
use Rattle.route_tree.specs.declared.member.Member.{Member}
use Rattle.route_tree.proofs.Waiting.{closed, parent_no, some_same, once_drop, once_tail}

-- nothing waits for more room than there are members
pub count_append : (xs ys : List Tree) → count (of_list (xs ++ ys)) ≡ count (of_list xs) + count (of_list ys)
count_append [] ys = omega arith
count_append (x ∷ xs) ys = omega (arith, count_append xs ys)

count_split : (i : ℕ) (xs : List Tree) → count (of_list (take i xs)) + count (of_list (drop i xs)) ≡ count (of_list xs)
count_split zero xs = omega arith
count_split (suc i) [] = refl
count_split (suc i) (x ∷ xs) = omega (arith, count_split i xs)

pub count_front : (ts : List Tree) → count (of_list (heavy_to_front ts)) ≡ count (of_list ts)
count_front ts =
    let i = heavy_at ts in
    let part = take (i + 1) ts in
    omega (arith, count_append (drop i part ++ take i part) (drop (i + 1) ts), count_append (drop i part) (take i part), count_split i part, count_split (i + 1) ts)

count_insert : (t : Tree) (us : List Tree) → count (of_list (insert t us)) ≡ tree_size t + count (of_list us)
count_insert t [] = refl
count_insert t (u ∷ us) = cond_both (nat_lt t.node u.node) (t ∷ u ∷ us) (u ∷ insert t us) (λ z. count (of_list z) ≡ tree_size t + count (of_list (u ∷ us))) (λ _. refl) (λ _. omega (arith, count_insert t us))

pub count_ascending : (ts : List Tree) → count (of_list (ascending ts)) ≡ count (of_list ts)
count_ascending [] = refl
count_ascending (t ∷ ts) = count_insert t (ascending ts) ∙ ap (λ n. tree_size t + n) (count_ascending ts)

abbrev load : ℕ → List Member → ℕ
load n ms = count (of_list (trees_on n ms (subtrees ms)))

abbrev loads : List ℕ → List Member → ℕ
loads [] ms = 0
loads (n ∷ ns) ms = load n ms + loads ns ms

abbrev pub Fresh : ℕ → List ℕ → Type 0
Fresh n [] = Unit {0}
Fresh n (k ∷ ks) = (n ≢ k) × Fresh n ks

abbrev pub Distinct : List ℕ → Type 0
Distinct [] = Unit {0}
Distinct (n ∷ ns) = Fresh n ns × Distinct ns

abbrev pub Apart : List ℕ → List Member → Type 0
Apart ns [] = Unit {0}
Apart ns (m ∷ ms) = Fresh m.node ns × Apart (m.node ∷ ns) ms

load_yes : (n : ℕ) (m : Member) (ms : List Member) → is_parent n m.parent ≡ true → load n (m ∷ ms) ≡ tree_size (closed m ms) + load n ms
load_yes n m ms e = rw e refl

load_no : (n : ℕ) (m : Member) (ms : List Member) → is_parent n m.parent ≡ false → load n (m ∷ ms) ≡ load n ms
load_no n m ms e = rw e refl

pub same_parent : (n k : ℕ) (o : Option ℕ) → is_parent n o ≡ true → n ≢ k → is_parent k o ≡ false
same_parent n k None e h = absurd (false≢true e)
same_parent n k (Some p) e h = parent_no k (Some p) (λ s. h (sym (eqb-true p n e) ∙ some_same s))

loads_none : (n : ℕ) (ks : List ℕ) (m : Member) (ms : List Member) → is_parent n m.parent ≡ true → Fresh n ks → loads ks (m ∷ ms) ≡ loads ks ms
loads_none n [] m ms e f = refl
loads_none n (k ∷ ks) m ms e f = omega (arith, load_no k m ms (same_parent n k m.parent e f.0), loads_none n ks m ms e f.1)

loads_step : (ns : List ℕ) (m : Member) (ms : List Member) → Distinct ns → loads ns (m ∷ ms) ≤ loads ns ms + tree_size (closed m ms)
loads_step [] m ms d = omega arith
loads_step (n ∷ ns) m ms d = elim (cases_Bool (is_parent n m.parent)) [
  | inl e ↦ omega (arith, load_yes n m ms e, loads_none n ns m ms e d.0)
  | inr e ↦ omega (arith, load_no n m ms e, loads_step ns m ms d.1)
]

closed_size : (m : Member) (ms : List Member) → tree_size (closed m ms) ≡ 1 + load m.node ms
closed_size m ms = ap (λ n. 1 + n) (count_front (waiting m.node ms) ∙ count_ascending (trees_on m.node ms (subtrees ms)))

loads_fit : (ms : List Member) (ns : List ℕ) → Distinct ns → Apart ns ms → loads ns ms ≤ length ms
loads_fit [] ns d a = none_left ns
  where
    none_left : (ns : List ℕ) → loads ns [] ≤ 0
    none_left [] = omega arith
    none_left (n ∷ ns) = omega (arith, none_left ns)
loads_fit (m ∷ ms) ns d a =
    let h = loads_fit ms (m.node ∷ ns) (a.0, d) a.1 in
    omega (arith, loads_step ns m ms d, closed_size m ms, h)

pub apart_from : (ms : List Member) (ns : List ℕ) → ((k : ℕ) (d : Member) → k < length ms → Fresh (get_or ms k d).node ns) → IsEachOnce ms → Apart ns ms
apart_from [] ns f o = tt
apart_from (m ∷ ms) ns f o = (
  f 0 m (omega arith),
  apart_from ms (m.node ∷ ns)
      (λ k d l. ((λ e. (let z = o (suc k) 0 d m (omega arith) (omega arith) e in absurd (omega (arith, z))), f (suc k) d (omega arith))))
      (once_tail m ms o),
)

count_reverse : (ts : List Tree) → count (of_list (reverse ts)) ≡ count (of_list ts)
count_reverse [] = refl
count_reverse (t ∷ ts) = omega (arith, ap (λ z. count (of_list z)) (reverse_onto ts t []), count_append (reverse ts) (t ∷ []), count_reverse ts)

later : (n : ℕ) (ms : List Member) (k j : ℕ) (d e : Member) → IsEachOnce ms → k < n → n + j < length ms → (get_or (drop n ms) j e).node ≢ (get_or ms k d).node
later n ms k j d e o l h s =
    let w : n + j ≡ k = o (n + j) k e d h (omega arith) (ap (λ (z : Member). z.node) (sym (get_or-drop n ms j e)) ∙ s) in
    omega (arith, w)

pub hanging_fits : (ms : List Member) (k n : ℕ) (d : Member) → IsEachOnce ms → k < n → count (of_list (hanging (get_or ms k d).node (drop n ms))) ≤ length ms
hanging_fits ms k n d o l =
    let x = (get_or ms k d).node in
    let a = apart_from (drop n ms) (x ∷ []) (λ j e h. (later n ms k j d e o l (omega (arith, length-drop n ms)), tt)) (once_drop n ms o) in
    let f = loads_fit (drop n ms) (x ∷ []) (tt, tt) a in
    omega (arith, f, count_reverse (trees_on x (drop n ms) (subtrees (drop n ms))), length-drop n ms)
