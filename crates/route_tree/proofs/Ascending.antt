-- A list of trees that was sorted by node is the one that the definition gives.
use Rattle.std.proofs.Common.{◌≡◌, ℕ, zero, suc, ◌<◌, ◌≤◌, false, List, [], ◌∷◌, length, get_or, refl, sym, ap, ap₂, subst, ◌∙◌, ◌⊎◌, inl, inr, arith, map, IsPermutation}
use Rattle.std.specs.Prelude.{nat_eq, nat_lt}
use Rattle.std.specs.List.{All, AllByRecursion}
use Rattle.std.specs.List.Sorted.{IsNonDecreasingBy}
use Rattle.std.proofs.lemmas.List.Sorted.{All-permutation, IsPermutation-map, IsPermutation-sym}
use Rattle.std.proofs.lemmas.Map.Keys.{IsDistinct-IsPermutation, IsDistinct-head, IsDistinct-tail}
use Rattle.std.proofs.lemmas.Bool.Decides.{nat_tests}
use Rattle.std.proofs.lemmas.Bool.{cond_both, eqb-false, ltb-true, ltb-false}
use Rattle.route_tree.specs.Rose.{Tree}
use Rattle.route_tree.specs.Order.{insert, ascending, HaveEachNodeOnce}

-- t is one of the trees
abbrev pub Has : Tree → List Tree → Type 0
Has t [] = ⊥
Has t (u ∷ us) = (t ≡ u) ⊎ Has t us

-- all nodes are greater than n
abbrev pub Above : ℕ → List Tree → Type 0
Above n [] = Unit {0}
Above n (t ∷ ts) = (n < t.node) × Above n ts

abbrev pub Rising : List Tree → Type 0
Rising [] = Unit {0}
Rising (t ∷ ts) = Above t.node ts × Rising ts

-- none has the node n
abbrev pub Fresh : ℕ → List Tree → Type 0
Fresh n [] = Unit {0}
Fresh n (t ∷ ts) = (n ≡ t.node → ⊥) × Fresh n ts

abbrev pub Differ : List Tree → Type 0
Differ [] = Unit {0}
Differ (t ∷ ts) = Fresh t.node ts × Differ ts

fresh_of : (n : ℕ) (ts : List Tree) → AllByRecursion (λ y. nat_eq n y ≡ false) (map (λ t. t.node) ts) → Fresh n ts
fresh_of n [] h = tt
fresh_of n (t ∷ ts) h = (eqb-false n t.node h.0, fresh_of n ts h.1)

pub differ_of : (ts : List Tree) → HaveEachNodeOnce ts → Differ ts
differ_of [] h = tt
differ_of (t ∷ ts) h = (fresh_of t.node ts (IsDistinct-head nat_eq t.node (map (λ u. u.node) ts) h), differ_of ts (IsDistinct-tail nat_eq t.node (map (λ u. u.node) ts) h))

above_has : (n : ℕ) (ts : List Tree) (t : Tree) → Above n ts → Has t ts → n < t.node
above_has n [] t a h = absurd h
above_has n (u ∷ us) t a (inl e) = rw e a.0
above_has n (u ∷ us) t a (inr h) = above_has n us t a.1 h

-- two rising lists of the same trees are equal
pub rising_same : (xs ys : List Tree) → Rising xs → Rising ys → ((t : Tree) → Has t xs → Has t ys) → ((t : Tree) → Has t ys → Has t xs) → xs ≡ ys
rising_same [] [] r s f g = refl
rising_same [] (y ∷ ys) r s f g = absurd (g y (inl refl))
rising_same (x ∷ xs) [] r s f g = absurd (f x (inl refl))
rising_same (x ∷ xs) (y ∷ ys) r s f g =
    let e = same_head (f x (inl refl)) (g y (inl refl)) in
    ap₂ (λ a b. a ∷ b) e (rising_same xs ys r.1 s.1
    (λ t h. tail t y ys (above_has x.node xs t r.0 h) (ap (λ z. z.node) e) (f t (inr h)))
    (λ t h. tail t x xs (above_has y.node ys t s.0 h) (ap (λ z. z.node) (sym e)) (g t (inr h))))
  where
    same_head : (x ≡ y) ⊎ Has x ys → (y ≡ x) ⊎ Has y xs → x ≡ y
    same_head (inl e) k = e
    same_head (inr h) (inl e) = sym e
    same_head (inr h) (inr k) = absurd (let a = above_has y.node ys x s.0 h in let b = above_has x.node xs y r.0 k in omega (arith, a, b))

    tail : (t z : Tree) (zs : List Tree) {n : ℕ} → n < t.node → n ≡ z.node → (t ≡ z) ⊎ Has t zs → Has t zs
    tail t z zs l e (inl q) = absurd (let w = ap (λ v. v.node) q in omega (arith, l, e, w))
    tail t z zs l e (inr h) = h

has_insert : (t : Tree) (us : List Tree) (s : Tree) → (s ≡ t) ⊎ Has s us → Has s (insert t us)
has_insert t [] s h = h
has_insert t (u ∷ us) s h = cond_both (nat_lt t.node u.node) (t ∷ u ∷ us) (u ∷ insert t us) (Has s) (λ _. h)
    (λ _. elim h [ inl e ↦ inr (has_insert t us s (inl e)) | inr (inl e) ↦ inl e | inr (inr k) ↦ inr (has_insert t us s (inr k)) ])

insert_has : (t : Tree) (us : List Tree) (s : Tree) → Has s (insert t us) → (s ≡ t) ⊎ Has s us
insert_has t [] s h = h
insert_has t (u ∷ us) s h = cond_both (nat_lt t.node u.node) (t ∷ u ∷ us) (u ∷ insert t us) (λ z. Has s z → (s ≡ t) ⊎ Has s (u ∷ us)) (λ _ k. k)
    (λ _ k. elim k [ inl e ↦ inr (inl e) | inr i ↦ elim (insert_has t us s i) [ inl e ↦ inl e | inr j ↦ inr (inr j) ] ]) h

pub has_ascending : (ts : List Tree) (s : Tree) → Has s ts → Has s (ascending ts)
has_ascending [] s h = h
has_ascending (t ∷ ts) s (inl e) = has_insert t (ascending ts) s (inl e)
has_ascending (t ∷ ts) s (inr h) = has_insert t (ascending ts) s (inr (has_ascending ts s h))

pub ascending_has : (ts : List Tree) (s : Tree) → Has s (ascending ts) → Has s ts
ascending_has [] s h = h
ascending_has (t ∷ ts) s h = elim (insert_has t (ascending ts) s h) [ inl e ↦ inl e | inr k ↦ inr (ascending_has ts s k) ]

above_less : (n k : ℕ) (ts : List Tree) → n ≤ k → Above k ts → Above n ts
above_less n k [] l a = tt
above_less n k (t ∷ ts) l a = (omega (arith, l, a.0), above_less n k ts l a.1)

above_insert : (n : ℕ) (t : Tree) (us : List Tree) → n < t.node → Above n us → Above n (insert t us)
above_insert n t [] l a = (l, tt)
above_insert n t (u ∷ us) l a = cond_both (nat_lt t.node u.node) (t ∷ u ∷ us) (u ∷ insert t us) (Above n) (λ _. (l, a)) (λ _. (a.0, above_insert n t us l a.1))

fresh_has : (n : ℕ) (ts : List Tree) (s : Tree) → Fresh n ts → Has s ts → n ≡ s.node → ⊥
fresh_has n [] s f h = absurd h
fresh_has n (t ∷ ts) s f (inl e) = λ q. f.0 (q ∙ ap (λ z. z.node) e)
fresh_has n (t ∷ ts) s f (inr h) = fresh_has n ts s f.1 h

fresh_from : (n : ℕ) (ts : List Tree) → ((s : Tree) → Has s ts → n ≡ s.node → ⊥) → Fresh n ts
fresh_from n [] h = tt
fresh_from n (t ∷ ts) h = (h t (inl refl), fresh_from n ts (λ s k. h s (inr k)))

rising_insert : (t : Tree) (us : List Tree) → Rising us → Fresh t.node us → Rising (insert t us)
rising_insert t [] r f = (tt, tt)
rising_insert t (u ∷ us) r f = cond_both (nat_lt t.node u.node) (t ∷ u ∷ us) (u ∷ insert t us) Rising
    (λ e. (let l = ltb-true t.node u.node e in ((l, above_less t.node u.node us (omega (arith, l)) r.0), r)))
    (λ e. (let l = ltb-false t.node u.node e in let w = f.0 in (above_insert u.node t us (omega (arith, l, w)) r.0, rising_insert t us r.1 f.1)))

pub rising_ascending : (ts : List Tree) → Differ ts → Rising (ascending ts)
rising_ascending [] d = tt
rising_ascending (t ∷ ts) d =
    rising_insert t (ascending ts) (rising_ascending ts d.1)
    (fresh_from t.node (ascending ts) (λ s h. fresh_has t.node ts s d.0 (ascending_has ts s h)))

-- a list that doesn't fall and has each node once rises
rising_sorted : (ts : List Tree) → IsNonDecreasingBy (λ t. t.node) ts → Differ ts → Rising ts
rising_sorted [] n d = tt
rising_sorted (t ∷ ts) n d = (
  first ts (λ j e l. n 0 (suc j) e (omega arith) (omega arith)) d.0,
  rising_sorted ts (λ i j e l k. n (suc i) (suc j) e (omega arith) (omega arith)) d.1,
)
  where
    first : (us : List Tree) → ((j : ℕ) (e : Tree) → j < length us → t.node ≤ (get_or us j e).node) → Fresh t.node us → Above t.node us
    first [] h f = tt
    first (u ∷ us) h f = (let l = h 0 u (omega arith) in omega (arith, l, f.0), first us (λ j e l. h (suc j) e (omega arith)) f.1)

has_at : (ts : List Tree) (k : ℕ) (d : Tree) → k < length ts → Has (get_or ts k d) ts
has_at [] k d l = absurd (omega arith)
has_at (t ∷ ts) zero d l = inl refl
has_at (t ∷ ts) (suc k) d l = inr (has_at ts k d (omega arith))

has_from : (P : Tree → Type 0) (us : List Tree) → All P us → (t : Tree) → Has t us → P t
has_from P [] a t h = absurd h
has_from P (u ∷ us) a t (inl e) = subst P (sym e) (a 0 u (omega arith))
has_from P (u ∷ us) a t (inr h) = has_from P us (λ k d l. a (suc k) d (omega arith)) t h

pub has_permutation : (ts us : List Tree) → IsPermutation ts us → (t : Tree) → Has t us → Has t ts
has_permutation ts us p = has_from (λ t. Has t ts) us (All-permutation (λ t. Has t ts) ts us p (has_at ts))

flips : (x y : ℕ) → nat_eq x y ≡ nat_eq y x
flips x y = grind (arith, nat_tests)

pub once_permutation : (ts us : List Tree) → IsPermutation ts us → HaveEachNodeOnce ts → HaveEachNodeOnce us
once_permutation ts us p h = IsDistinct-IsPermutation nat_eq flips (map (λ t. t.node) ts) (map (λ t. t.node) us) (IsPermutation-map (λ t. t.node) ts us p) h

-- what a sort by node leaves
pub sorted_is : (ts us : List Tree) → HaveEachNodeOnce ts → IsPermutation ts us → IsNonDecreasingBy (λ t. t.node) us → us ≡ ascending ts
sorted_is ts us o p n =
    rising_same us (ascending ts)
    (rising_sorted us n (differ_of us (once_permutation ts us p o))) (rising_ascending ts (differ_of ts o))
    (λ t h. has_ascending ts t (has_permutation ts us p t h))
    (λ t h. has_permutation us ts (IsPermutation-sym ts us p) t (ascending_has ts t h))

-- the order in which the trees come is nothing to their ascending list
pub same_ascending : (ts us : List Tree) → HaveEachNodeOnce ts → IsPermutation ts us → ascending us ≡ ascending ts
same_ascending ts us o p =
    rising_same (ascending us) (ascending ts)
    (rising_ascending us (differ_of us (once_permutation ts us p o))) (rising_ascending ts (differ_of ts o))
    (λ t h. has_ascending ts t (has_permutation ts us p t (ascending_has us t h)))
    (λ t h. has_ascending us t (has_permutation us ts (IsPermutation-sym ts us p) t (ascending_has ts t h)))
