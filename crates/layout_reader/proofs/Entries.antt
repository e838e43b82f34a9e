-- The entries of an edge map as a list.
use Rattle.std.proofs.Common.{◌≡◌, Bool, true, false, cond, ◌&&◌, T, List, [], ◌∷◌, ◌++◌, Option, None, Some, Ordering, Less, Equal, Greater, is_lt, is_eq, refl, sym, ap, ◌∙◌, subst}
use Rattle.std.specs.Ordering.{eq_by_cmp, ordering_reverse}
use Rattle.std.specs.Cmp.{IsTotalOrder}
use Rattle.std.specs.List.{AllByRecursion}
use Rattle.std.specs.FinMap.{find, put, is_sorted, IsAntisymmetric}
use Rattle.layout_reader.specs.Ascending.{AllBelow, last_key}
use Rattle.std.specs.FinMap.Entries.{by_order, below_all}

abbrev Less-only : (r : Ordering) → T (is_lt r) → r ≡ Less
Less-only Less h = refl
Less-only Equal h = absurd h
Less-only Greater h = absurd h

first : (a b : Bool) → T (a && b) → T a
first true b p = tt
first false b p = p

second : (a b : Bool) → T (a && b) → T b
second true b p = p
second false b p = absurd p

same_some : {A : Type 0} (x y : A) → Some x ≡ Some y → x ≡ y
same_some x y e = cc

not_some : {A : Type 0} (x : A) (o : Option A) → o ≡ None → o ≡ Some x → ⊥
not_some x o e f = let g : None ≡ Some x = sym e ∙ f in cc

module _ {K : Type 0} {R : K → K → Ordering} (o : IsTotalOrder R) where
  turned : (x k : K) → R x k ≡ Less → R k x ≡ Greater
  turned x k lt = o.antisymm k x ∙ ap ordering_reverse lt

  itself : (k : K) → eq_by_cmp R k k ≡ true
  itself k = by (R k k) (o.antisymm k k)
    where
      by : (r : Ordering) → r ≡ ordering_reverse r → is_eq r ≡ true
      by Less e = absurd cc
      by Equal e = refl
      by Greater e = absurd cc

module _ {K X : Type 0} (R : K → K → Ordering) where
  below_there : (x k : K) (v : X) (es fs : List (K × X)) → T (below_all R x (es ++ (k, v) ∷ fs)) → R x k ≡ Less
  below_there x k v [] fs h = Less-only _ (first _ _ h)
  below_there x k v (e ∷ es) fs h = below_there x k v es fs (second _ _ h)

  pub below_sorted : (k : K) (v : X) (es fs : List (K × X)) → T (is_sorted R (es ++ (k, v) ∷ fs)) → AllBelow R k es
  below_sorted k v [] fs s = tt
  below_sorted k v (e ∷ es) fs s = (below_there e.0 k v es fs (first _ _ s), below_sorted k v es fs (second _ _ s))

  pub last_below : (k l : K) (es : List (K × X)) → AllBelow R k es → last_key es ≡ Some l → R l k ≡ Less
  last_below k l [] lt is = absurd cc
  last_below k l (e ∷ []) lt is = subst (λ x. R x k ≡ Less) (same_some e.0 l is) lt.0
  last_below k l (e ∷ f ∷ es) lt is = last_below k l (f ∷ es) lt.1 is

  module _ (o : IsTotalOrder R) where
    pub put_last : (k : K) (v : X) (es : List (K × X)) → AllBelow R k es → put R k v es ≡ es ++ (k, v) ∷ []
    put_last k v [] lt = refl
    put_last k v (e ∷ es) lt = ap (λ r. by_order r ((k, v) ∷ e ∷ es) ((e.0, v) ∷ es) (e ∷ put R k v es)) (turned o e.0 k lt.0) ∙ ap (λ t. e ∷ t) (put_last k v es lt.1)

    pub find_none : (k : K) (es : List (K × X)) → AllBelow R k es → find R k es ≡ None
    find_none k [] lt = refl
    find_none k (e ∷ es) lt = ap (λ r. cond (is_eq r) (Some e.1) (find R k es)) (turned o e.0 k lt.0) ∙ find_none k es lt.1

    last_above : (x l : K) (es : List (K × X)) → T (below_all R x es) → last_key es ≡ Some l → R x l ≡ Less
    last_above x l [] h is = absurd cc
    last_above x l (e ∷ []) h is = subst (λ y. R x y ≡ Less) (same_some e.0 l is) (Less-only _ (first _ _ h))
    last_above x l (e ∷ f ∷ es) h is = last_above x l (f ∷ es) (second _ _ h) is

    pub above_last : (k l : K) (es : List (K × X)) → T (is_sorted R es) → last_key es ≡ Some l → R l k ≡ Less → AllBelow R k es
    above_last k l [] s is lt = tt
    above_last k l (e ∷ []) s is lt = (subst (λ x. R x k ≡ Less) (sym (same_some e.0 l is)) lt, tt)
    above_last k l (e ∷ f ∷ es) s is lt = (o.trans e.0 l k (last_above e.0 l (f ∷ es) (first _ _ s) is) lt, above_last k l (f ∷ es) (second _ _ s) is lt)

    none_below : (k : K) (es : List (K × X)) → T (below_all R k es) → find R k es ≡ None
    none_below k [] h = refl
    none_below k (e ∷ es) h = ap (λ r. cond (is_eq r) (Some e.1) (find R k es)) (Less-only _ (first _ _ h)) ∙ none_below k es (second _ _ h)

    module _ (same : IsAntisymmetric R) where
      -- what a later entry answers, the whole list answers
      find_later : (e : K × X) (es : List (K × X)) (q : K) (w : X) → T (below_all R e.0 es) → find R q es ≡ Some w → find R q (e ∷ es) ≡ Some w
      find_later e es q w h is = by (R q e.0) refl
        where
          by : (r : Ordering) → R q e.0 ≡ r → cond (is_eq r) (Some e.1) (find R q es) ≡ Some w
          by Less _ = is
          by Greater _ = is
          by Equal t = absurd (not_some w (find R q es) (ap (λ k. find R k es) (same q e.0 t) ∙ none_below e.0 es h) is)

      -- what holds of each pair that is found holds of each entry
      pub all_entries : (P : K → X → Type 0) (es : List (K × X)) → T (is_sorted R es) → ((q : K) (w : X) → find R q es ≡ Some w → P q w) → AllByRecursion (λ e. P e.0 e.1) es
      all_entries P [] s h = tt
      all_entries P (e ∷ es) s h =
          (h e.0 e.1 (ap (λ b. cond b (Some e.1) (find R e.0 es)) (itself o e.0)), all_entries P es (second _ _ s) (λ q w is. h q w (find_later e es q w (first _ _ s) is)))

      -- and the other way round
      pub found_one : (P : K → X → Type 0) (es : List (K × X)) → AllByRecursion (λ e. P e.0 e.1) es → (q : K) (w : X) → find R q es ≡ Some w → P q w
      found_one P [] all q w is = absurd cc
      found_one P (e ∷ es) all q w is = by (found_one P es all.1 q w) (R q e.0) refl is
        where
          by : (find R q es ≡ Some w → P q w) → (r : Ordering) → R q e.0 ≡ r → cond (is_eq r) (Some e.1) (find R q es) ≡ Some w → P q w
          by later Less _ is = later is
          by later Greater _ is = later is
          by later Equal t is = subst (λ k. P k w) (sym (same q e.0 t)) (subst (λ x. P e.0 x) (same_some e.1 w is) all.0)
