-- The order of children: the heavy one first, and the others by ascending node.
use Rattle.std.proofs.Common.{◌≡◌, ℕ, suc, zero, ◌+◌, ◌<◌, ◌≤◌, List, [], ◌∷◌, ◌++◌, length, take, drop, get_or, sym, ap, subst, ◌∙◌, arith, add-one, IsPermutation}
use Rattle.std.specs.Prelude.{nat_lt, nat_le}
use Rattle.std.specs.List.{AllByRecursion}
use Rattle.std.specs.List.Sorted.{IsNonDecreasingBy}
use Rattle.std.proofs.lemmas.Bool.{cond_both, ltb-true, ltb-false, leb-false}
use Rattle.std.proofs.lemmas.List.{take-append-drop, take-take}
use Rattle.std.proofs.lemmas.List.Elements.{All-from_recursion}
use Rattle.std.proofs.lemmas.List.Sorted.{IsPermutation-append_left, IsPermutation-append_comm}
use Rattle.route_tree.specs.Rose.{Tree, tree_size}
use Rattle.route_tree.specs.Order.{insert, ascending, heaviest}
use Rattle.route_tree.specs.Front.{heavy_to_front, heavy_at, IsHeavyBefore, IsInOrder}
use Rattle.route_tree.proofs.Heaviest.{heaviest_all, heavy_here, heavy_size, from_there}

-- no node is smaller than an earlier one
abbrev pub Climbs : List Tree → Type 0
Climbs [] = Unit {0}
Climbs (t ∷ ts) = AllByRecursion (λ u. t.node ≤ u.node) ts × Climbs ts

pub climbs_from : (ts : List Tree) → IsNonDecreasingBy (λ t. t.node) ts → Climbs ts
climbs_from [] n = tt
climbs_from (t ∷ ts) n = (first ts (λ j e l. n 0 (suc j) e (omega arith) (omega arith)), climbs_from ts (λ i j e l k. n (suc i) (suc j) e (omega arith) (omega arith)))
  where
    first : (us : List Tree) → ((j : ℕ) (e : Tree) → j < length us → t.node ≤ (get_or us j e).node) → AllByRecursion (λ u. t.node ≤ u.node) us
    first [] h = tt
    first (u ∷ us) h = (h 0 u (omega arith), first us (λ j e l. h (suc j) e (omega arith)))

climbs_to : (ts : List Tree) → Climbs ts → IsNonDecreasingBy (λ t. t.node) ts
climbs_to [] c i j d l k = absurd (omega arith)
climbs_to (t ∷ ts) c zero zero d l k = omega arith
climbs_to (t ∷ ts) c zero (suc j) d l k = All-from_recursion (λ u. t.node ≤ u.node) ts c.0 j d (omega arith)
climbs_to (t ∷ ts) c (suc i) zero d l k = absurd (omega arith)
climbs_to (t ∷ ts) c (suc i) (suc j) d l k = climbs_to ts c.1 i j d (omega arith) (omega arith)

at_least : (n m : ℕ) (ts : List Tree) → n ≤ m → AllByRecursion (λ u. m ≤ u.node) ts → AllByRecursion (λ u. n ≤ u.node) ts
at_least n m [] l h = tt
at_least n m (t ∷ ts) l h = (let a = h.0 in omega (arith, l, a), at_least n m ts l h.1)

at_least_insert : (n : ℕ) (t : Tree) (us : List Tree) → n ≤ t.node → AllByRecursion (λ u. n ≤ u.node) us → AllByRecursion (λ u. n ≤ u.node) (insert t us)
at_least_insert n t [] l h = (l, tt)
at_least_insert n t (u ∷ us) l h = cond_both (nat_lt t.node u.node) (t ∷ u ∷ us) (u ∷ insert t us) (AllByRecursion (λ v. n ≤ v.node)) (λ _. (l, h)) (λ _. (h.0, at_least_insert n t us l h.1))

climbs_insert : (t : Tree) (us : List Tree) → Climbs us → Climbs (insert t us)
climbs_insert t [] c = (tt, tt)
climbs_insert t (u ∷ us) c = cond_both (nat_lt t.node u.node) (t ∷ u ∷ us) (u ∷ insert t us) Climbs
    (λ e. (let l = ltb-true t.node u.node e in ((omega (arith, l), at_least t.node u.node us (omega (arith, l)) c.0), c)))
    (λ e. (at_least_insert u.node t us (ltb-false t.node u.node e) c.0, climbs_insert t us c.1))

pub climbs_ascending : (ts : List Tree) → Climbs (ascending ts)
climbs_ascending [] = tt
climbs_ascending (t ∷ ts) = climbs_insert t (ascending ts) (climbs_ascending ts)

-- without the tree at i
each_without : (P : Tree → Type 0) (i : ℕ) (us : List Tree) → AllByRecursion P us → AllByRecursion P (take i us ++ drop (suc i) us)
each_without P zero [] h = tt
each_without P zero (u ∷ us) h = h.1
each_without P (suc i) [] h = tt
each_without P (suc i) (u ∷ us) h = (h.0, each_without P i us h.1)

climbs_without : (i : ℕ) (us : List Tree) → Climbs us → Climbs (take i us ++ drop (suc i) us)
climbs_without zero [] c = tt
climbs_without zero (u ∷ us) c = c.1
climbs_without (suc i) [] c = tt
climbs_without (suc i) (u ∷ us) c = (each_without (λ v. u.node ≤ v.node) i us c.0, climbs_without i us c.1)

-- The trees before the heavy one are lighter, and those behind it have no smaller node.
abbrev Yields : ℕ → ℕ → Tree → Type 0
Yields s n u = (tree_size u ≤ s) × (tree_size u ≡ s → n ≤ u.node)

no_smaller : (s n : ℕ) (us : List Tree) → AllByRecursion (λ u. tree_size u ≤ s) us → AllByRecursion (λ u. n ≤ u.node) us → AllByRecursion (Yields s n) us
no_smaller s n [] h k = tt
no_smaller s n (u ∷ us) h k = ((h.0, λ _. k.0), no_smaller s n us h.1 k.1)

yielding : (ts : List Tree) (d : Tree) → Climbs ts → AllByRecursion (Yields (heaviest ts) (get_or ts (heavy_at ts) d).node) (take (heavy_at ts) ts ++ drop (suc (heavy_at ts)) ts)
yielding [] d c = tt
yielding (t ∷ ts) d c =
    cond_both (nat_le (heaviest ts) (tree_size t)) 0 (suc (heavy_at ts)) (λ i. AllByRecursion (Yields (heaviest (t ∷ ts)) (get_or (t ∷ ts) i d).node) (take i (t ∷ ts) ++ drop (suc i) (t ∷ ts)))
    (λ _. no_smaller (heaviest (t ∷ ts)) t.node ts (heaviest_all (t ∷ ts)).1 c.0)
    (λ e.
    (let l = leb-false (heaviest ts) (tree_size t) e in
    let same : heaviest ts ≡ heaviest (t ∷ ts) = omega (arith, l) in (
      (omega (arith, l), λ q. absurd (omega (arith, l, q))),
      subst (λ s. AllByRecursion (Yields s (get_or ts (heavy_at ts) d).node) (take (heavy_at ts) ts ++ drop (suc (heavy_at ts)) ts)) same (yielding ts d c.1),
    )))

-- the heavy tree, and the others in their order
pub front_is : (us : List Tree) (d : Tree) → heavy_at us < length us → heavy_to_front us ≡ get_or us (heavy_at us) d ∷ (take (heavy_at us) us ++ drop (suc (heavy_at us)) us)
front_is us d h =
    let i = heavy_at us in
    let turned : (drop i (take (suc i) us) ++ take i (take (suc i) us)) ++ drop (suc i) us ≡ get_or us i d ∷ (take i us ++ drop (suc i) us) =
    ap (λ z. (z ++ take i (take (suc i) us)) ++ drop (suc i) us) (from_there us i d h)
    ∙ ap (λ z. get_or us i d ∷ (z ++ drop (suc i) us)) (take-take i (suc i) us (omega arith)) in
    rw add-one turned

heavy_before : (g : Tree) (s : ℕ) (us : List Tree) → tree_size g ≡ s → AllByRecursion (Yields s g.node) us → AllByRecursion (IsHeavyBefore g) us
heavy_before g s [] e h = tt
heavy_before g s (u ∷ us) e h =
    (record { size = (let l = h.0.0 in omega (arith, l, e)); tie = λ q. h.0.1 (q ∙ e) }, heavy_before g s us e h.1)

pub in_order_front : (us : List Tree) → Climbs us → IsInOrder (heavy_to_front us)
in_order_front [] c = tt
in_order_front (t ∷ ts) c =
    let us = t ∷ ts in
    let i = heavy_at us in
    subst IsInOrder (sym (front_is us t (heavy_here t ts))) (
      All-from_recursion (IsHeavyBefore (get_or us i t)) (take i us ++ drop (suc i) us) (heavy_before (get_or us i t) (heaviest us) (take i us ++ drop (suc i) us) (heavy_size t ts t) (yielding us t c)),
      climbs_to (take i us ++ drop (suc i) us) (climbs_without i us c),
    )

pub permutes_front : (ts : List Tree) → IsPermutation ts (heavy_to_front ts)
permutes_front ts =
    let i = heavy_at ts in
    let part = take (i + 1) ts in
    let same : (take i part ++ drop i part) ++ drop (i + 1) ts ≡ ts = ap (λ z. z ++ drop (i + 1) ts) (take-append-drop i part) ∙ take-append-drop (i + 1) ts in
    subst (λ z. IsPermutation z (heavy_to_front ts)) same
    (IsPermutation-append_left (drop (i + 1) ts) (take i part ++ drop i part) (drop i part ++ take i part) (IsPermutation-append_comm (take i part) (drop i part)))
