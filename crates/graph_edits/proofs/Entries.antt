-- Rows as lists of entries: an entry put in its place or cut, and what is found afterwards.
use Rattle.std.proofs.Common.{◌≡◌, ℕ, zero, suc, ◌+◌, ◌<◌, ◌≤◌, Bool, true, false, cond, not, ◌&&◌, T, ◌≢◌, List, [], ◌∷◌, ◌++◌, length, get_or, take, drop, set, Option, None, Some, Ordering, Less, Equal, Greater, is_eq, is_lt, nat_cmp, inl, inr, ◌↔◌, refl, sym, ap, ◌∙◌, subst, arith}
use Rattle.std.specs.Ordering.{eq_by_cmp, ordering_reverse}
use Rattle.std.specs.Cmp.{IsTotalOrder, nat_cmp_total, nat_cmp_is, ranked}
use Rattle.std.specs.List.{slice_get}
use Rattle.std.specs.Option.{option_map}
use Rattle.std.proofs.lemmas.Bool.{cases_eq}
use Rattle.std.proofs.lemmas.Option.{same_Some, none-some, slice_get_within, get_or_from_slice_get, slice_get-get_or}
use Rattle.std.specs.FinMap.{find, put, is_sorted}
use Rattle.std.specs.FinMap.Entries.{by_order, where_key, below_all}
use Rattle.graph_edits.specs.Laws.{IsRising, rising_place, rising_once}
use Rattle.graph_edits.specs.Rows.{Row, place, HasAt, MissesAt}

less_equal : (P : Type 0) (r : Ordering) → r ≡ Less → r ≡ Equal → P
less_equal P r p q = absurd (subst (λ o. T (is_lt o)) (sym p ∙ q) tt)

equal_less : (r : Ordering) → T (is_lt r) → r ≡ Less
equal_less Less h = refl
equal_less Equal h = absurd h
equal_less Greater h = absurd h

first : (a b : Bool) → T (a && b) → T a
first true b p = tt
first false b p = p

second : (a b : Bool) → T (a && b) → T b
second true b p = p
second false b p = absurd p

module _ {K X : Type 0} (R : K → K → Ordering) where
  pub place-le : (k : K) (es : List (K × X)) → place R k es ≤ length es
  place-le k [] = omega arith
  place-le k (e ∷ es) =
      let rest = place-le k es in
      elim (R k e.0) as (λ r. by_order r 0 0 (suc (place R k es)) ≤ suc (length es)) [ Less ↦ omega arith | Equal ↦ omega arith | Greater ↦ omega arith ]

  below_at : (k : K) (es : List (K × X)) (i : ℕ) (d : K × X) → T (below_all R k es) → i < length es → R k (get_or es i d).0 ≡ Less
  below_at k [] i d h lt = absurd (omega arith)
  below_at k (e ∷ es) zero d h lt = equal_less _ (first _ _ h)
  below_at k (e ∷ es) (suc i) d h lt = below_at k es i d (second _ _ h) (omega arith)

  -- an entry below k stands before the place of k
  pub place_past : IsTotalOrder R → (k : K) (es : List (K × X)) (i : ℕ) (d : K × X) → T (is_sorted R es) → i < length es → R (get_or es i d).0 k ≡ Less → i < place R k es
  place_past o k [] i d s lt is = absurd (omega arith)
  place_past o k (e ∷ es) zero d s lt is = subst (λ r. 0 < by_order r 0 0 (suc (place R k es))) (sym (o.antisymm k e.0 ∙ ap ordering_reverse is)) (omega arith)
  place_past o k (e ∷ es) (suc i) d s lt is =
      let up : i < place R k es = place_past o k es i d (second _ _ s) (omega arith) is in
      let lowest = o.trans e.0 _ k (below_at e.0 es i d (first _ _ s) (omega arith)) is in
      subst (λ r. suc i < by_order r 0 0 (suc (place R k es))) (sym (o.antisymm k e.0 ∙ ap ordering_reverse lowest)) (omega arith)

  -- an entry that is not below k does not
  pub place_within : IsTotalOrder R → (k : K) (es : List (K × X)) (i : ℕ) (d : K × X) → i < length es → R (get_or es i d).0 k ≢ Less → place R k es ≤ i
  place_within o k [] i d lt apart = absurd (omega arith)
  place_within o k (e ∷ es) zero d lt apart =
      elim (R k e.0) as (λ r. R k e.0 ≡ r → by_order r 0 0 (suc (place R k es)) ≤ 0) [
        | Less ↦ λ p. omega arith
        | Equal ↦ λ p. omega arith
        | Greater ↦ λ p. absurd (apart (o.antisymm e.0 k ∙ ap ordering_reverse p))
      ] refl
  place_within o k (e ∷ es) (suc i) d lt apart =
      let rest = place_within o k es i d (omega arith) apart in
      elim (R k e.0) as (λ r. by_order r 0 0 (suc (place R k es)) ≤ suc i) [ Less ↦ omega arith | Equal ↦ omega arith | Greater ↦ omega arith ]

  -- an entry that is there gets the new value
  pub put_found : (k : K) (v : X) (es : List (K × X)) (d : K × X) → place R k es < length es → R k (get_or es (place R k es) d).0 ≡ Equal
      → put R k v es ≡ set es (place R k es) ((get_or es (place R k es) d).0, v)
  put_found k v [] d lt is = absurd (omega arith)
  put_found k v (e ∷ es) d lt is =
      elim (R k e.0) as (λ r. R k e.0 ≡ r → by_order r 0 0 (suc (place R k es)) < suc (length es) → R k (get_or (e ∷ es) (by_order r 0 0 (suc (place R k es))) d).0 ≡ Equal
      → by_order r ((k, v) ∷ e ∷ es) ((e.0, v) ∷ es) (e ∷ put R k v es) ≡ set (e ∷ es) (by_order r 0 0 (suc (place R k es))) ((get_or (e ∷ es) (by_order r 0 0 (suc (place R k es))) d).0, v)) [
        | Less ↦ λ p _ q. less_equal _ _ p q
        | Equal ↦ λ p _ q. refl
        | Greater ↦ λ p h q. ap (λ t. e ∷ t) (put_found k v es d (omega arith) q)
      ] refl lt is

  -- an entry that is not there is inserted
  pub put_new : (k : K) (v : X) (es : List (K × X)) (d : K × X) → (place R k es < length es → R k (get_or es (place R k es) d).0 ≢ Equal)
      → put R k v es ≡ take (place R k es) es ++ (k, v) ∷ drop (place R k es) es
  put_new k v [] d apart = refl
  put_new k v (e ∷ es) d apart =
      elim (R k e.0) as (λ r. R k e.0 ≡ r → (by_order r 0 0 (suc (place R k es)) < suc (length es) → R k (get_or (e ∷ es) (by_order r 0 0 (suc (place R k es))) d).0 ≢ Equal)
      → by_order r ((k, v) ∷ e ∷ es) ((e.0, v) ∷ es) (e ∷ put R k v es) ≡ take (by_order r 0 0 (suc (place R k es))) (e ∷ es) ++ (k, v) ∷ drop (by_order r 0 0 (suc (place R k es))) (e ∷ es)) [
        | Less ↦ λ p h. refl
        | Equal ↦ λ p h. absurd (h (omega arith) p)
        | Greater ↦ λ p h. ap (λ t. e ∷ t) (put_new k v es d (λ lt. h (omega arith)))
      ] refl apart

  -- what is found at the place
  pub find_found : IsTotalOrder R → (k : K) (es : List (K × X)) (d : K × X) → place R k es < length es → R k (get_or es (place R k es) d).0 ≡ Equal
      → find R k es ≡ Some (get_or es (place R k es) d).1
  find_found o k [] d lt is = absurd (omega arith)
  find_found o k (e ∷ es) d lt is =
      elim (R k e.0) as (λ r. R k e.0 ≡ r → by_order r 0 0 (suc (place R k es)) < suc (length es) → R k (get_or (e ∷ es) (by_order r 0 0 (suc (place R k es))) d).0 ≡ Equal
      → cond (is_eq r) (Some e.1) (find R k es) ≡ Some (get_or (e ∷ es) (by_order r 0 0 (suc (place R k es))) d).1) [
        | Less ↦ λ p _ q. less_equal _ _ p q
        | Equal ↦ λ p _ q. refl
        | Greater ↦ λ p h q. find_found o k es d (omega arith) q
      ] refl lt is

  module _ (o : IsTotalOrder R) where
    none_below : (k : K) (es : List (K × X)) → T (below_all R k es) → find R k es ≡ None
    none_below k [] h = refl
    none_below k (e ∷ es) h = ap (λ r. cond (is_eq r) (Some e.1) (find R k es)) (equal_less _ (first _ _ h)) ∙ none_below k es (second _ _ h)

    below_lower : (k l : K) (es : List (K × X)) → R k l ≡ Less → T (below_all R l es) → T (below_all R k es)
    below_lower k l [] p h = tt
    below_lower k l (e ∷ es) p h = subst (λ r. T (is_lt r && below_all R k es)) (sym (o.trans k l e.0 p (equal_less _ (first _ _ h)))) (below_lower k l es p (second _ _ h))

    below_same : (k l : K) (es : List (K × X)) → R k l ≡ Equal → T (below_all R l es) → T (below_all R k es)
    below_same k l [] p h = tt
    below_same k l (e ∷ es) p h = subst (λ r. T (is_lt r && below_all R k es)) (sym (o.congr k l e.0 p ∙ equal_less _ (first _ _ h))) (below_same k l es p (second _ _ h))

    kept_below : (k : K) (es : List (K × X)) → T (below_all R k es) → where_key R (λ x. not (eq_by_cmp R k x)) es ≡ es
    kept_below k [] h = refl
    kept_below k (e ∷ es) h =
        ap (λ r. cond (not (is_eq r)) (e ∷ where_key R (λ x. not (eq_by_cmp R k x)) es) (where_key R (λ x. not (eq_by_cmp R k x)) es)) (equal_less _ (first _ _ h))
        ∙ ap (λ t. e ∷ t) (kept_below k es (second _ _ h))

    pub find_missing : (k : K) (es : List (K × X)) → T (is_sorted R es) → ((d : K × X) → place R k es < length es → R k (get_or es (place R k es) d).0 ≢ Equal) → find R k es ≡ None
    find_missing k [] s apart = refl
    find_missing k (e ∷ es) s apart =
        elim (R k e.0) as (λ r. R k e.0 ≡ r → ((d : K × X) → by_order r 0 0 (suc (place R k es)) < suc (length es) → R k (get_or (e ∷ es) (by_order r 0 0 (suc (place R k es))) d).0 ≢ Equal)
        → cond (is_eq r) (Some e.1) (find R k es) ≡ None) [
          | Less ↦ λ p h. none_below k es (below_lower k e.0 es p (first _ _ s))
          | Equal ↦ λ p h. absurd (h e (omega arith) p)
          | Greater ↦ λ p h. find_missing k es (second _ _ s) (λ d lt. h d (omega arith))
        ] refl apart

    pub cut_found : (k : K) (es : List (K × X)) (d : K × X) → T (is_sorted R es) → place R k es < length es → R k (get_or es (place R k es) d).0 ≡ Equal
        → where_key R (λ x. not (eq_by_cmp R k x)) es ≡ take (place R k es) es ++ drop (suc (place R k es)) es
    cut_found k [] d s lt is = absurd (omega arith)
    cut_found k (e ∷ es) d s lt is =
        elim (R k e.0) as (λ r. R k e.0 ≡ r → by_order r 0 0 (suc (place R k es)) < suc (length es) → R k (get_or (e ∷ es) (by_order r 0 0 (suc (place R k es))) d).0 ≡ Equal
        → cond (not (is_eq r)) (e ∷ where_key R (λ x. not (eq_by_cmp R k x)) es) (where_key R (λ x. not (eq_by_cmp R k x)) es) ≡ take (by_order r 0 0 (suc (place R k es))) (e ∷ es) ++ drop (suc (by_order r 0 0 (suc (place R k es)))) (e ∷ es)) [
          | Less ↦ λ p _ q. less_equal _ _ p q
          | Equal ↦ λ p _ q. kept_below k es (below_same k e.0 es p (first _ _ s))
          | Greater ↦ λ p h q. ap (λ t. e ∷ t) (cut_found k es d (second _ _ s) (omega arith) q)
        ] refl lt is

    pub cut_missing : (k : K) (es : List (K × X)) → T (is_sorted R es) → ((d : K × X) → place R k es < length es → R k (get_or es (place R k es) d).0 ≢ Equal)
        → where_key R (λ x. not (eq_by_cmp R k x)) es ≡ es
    cut_missing k [] s apart = refl
    cut_missing k (e ∷ es) s apart =
        elim (R k e.0) as (λ r. R k e.0 ≡ r → ((d : K × X) → by_order r 0 0 (suc (place R k es)) < suc (length es) → R k (get_or (e ∷ es) (by_order r 0 0 (suc (place R k es))) d).0 ≢ Equal)
        → cond (not (is_eq r)) (e ∷ where_key R (λ x. not (eq_by_cmp R k x)) es) (where_key R (λ x. not (eq_by_cmp R k x)) es) ≡ e ∷ es) [
          | Less ↦ λ p h. ap (λ t. e ∷ t) (kept_below k es (below_lower k e.0 es p (first _ _ s)))
          | Equal ↦ λ p h. absurd (h e (omega arith) p)
          | Greater ↦ λ p h. ap (λ t. e ∷ t) (cut_missing k es (second _ _ s) (λ d lt. h d (omega arith)))
        ] refl apart

-- the same of the test that the search makes
is_less : (r : Ordering) → is_lt r ≡ true → r ≡ Less
is_less Less e = refl
is_less Equal e = absurd (subst T (sym e) tt)
is_less Greater e = absurd (subst T (sym e) tt)

no_less : (r : Ordering) → is_lt r ≡ false → r ≢ Less
no_less r e is = absurd (subst T (sym (ap is_lt is) ∙ e) tt)

pub search_past : {K X : Type 0} (R : K → K → Ordering) → IsTotalOrder R → (k : K) (es : List (K × X)) (i : ℕ) (d : K × X) → T (is_sorted R es) → i < length es → is_lt (R (get_or es i d).0 k) ≡ true → i + 1 ≤ place R k es
search_past R o k es i d s lt is = let past : i < place R k es = place_past R o k es i d s lt (is_less _ is) in omega arith

pub search_within : {K X : Type 0} (R : K → K → Ordering) → IsTotalOrder R → (k : K) (es : List (K × X)) (i : ℕ) (d : K × X) → i < length es → is_lt (R (get_or es i d).0 k) ≡ false → place R k es ≤ i
search_within R o k es i d lt is = place_within R o k es i d lt (no_less _ is)

-- the same of keys that are numbers
pub node_past : {X : Type 0} (k : ℕ) (es : List (ℕ × X)) (i : ℕ) (d : ℕ × X) → T (is_sorted nat_cmp es) → i < length es → (get_or es i d).0 < k → i + 1 ≤ place nat_cmp k es
node_past k es i d s lt is =
    let past = place_past nat_cmp nat_cmp_total k es i d s lt (sym (nat_cmp_is (get_or es i d).0 k Less is)) in
    omega arith

pub node_within : {X : Type 0} (k : ℕ) (es : List (ℕ × X)) (i : ℕ) (d : ℕ × X) → i < length es → k ≤ (get_or es i d).0 → place nat_cmp k es ≤ i
node_within k es i d lt is =
    place_within nat_cmp nat_cmp_total k es i d lt (λ r. let below : (get_or es i d).0 < k = ranked (get_or es i d).0 k Less (sym r) in omega arith)

-- keys that rise are strictly rising numbers
pub rising_sorted : (es : Row) → T (is_sorted nat_cmp es) → IsRising es
rising_sorted [] s i j lt within = absurd (omega (arith, within))
rising_sorted (e ∷ es) s i zero lt within = absurd (omega arith)
rising_sorted (e ∷ es) s zero (suc j) lt within = ranked e.0 (get_or es j (0, 0)).0 Less (sym (below_at nat_cmp e.0 es j (0, 0) (first _ _ s) (omega arith)))
rising_sorted (e ∷ es) s (suc i) (suc j) lt within = rising_sorted es (second _ _ s) i j (omega arith) (omega arith)

module _ {K X : Type 0} (R : K → K → Ordering) (o : IsTotalOrder R) where
  -- what `find_place` says, of the list of entries
  at_place : (es : List (K × X)) (k : K) (i : ℕ) → HasAt R es k i → HasAt R es k (place R k es)
  at_place es k i h = (refl, subst (λ j. j < length es) h.0 h.1, λ d. subst (λ j. R k (get_or es j d).0 ≡ Equal) h.0 (h.2 d))

  not_at_place : (es : List (K × X)) (k : K) (i : ℕ) → MissesAt R es k i → (d : K × X) → place R k es < length es → R k (get_or es (place R k es) d).0 ≢ Equal
  not_at_place es k i m d = subst (λ j. j < length es → R k (get_or es j d).0 ≢ Equal) m.0 (m.2 d)

  pub has_find : (es : List (K × X)) (k : K) (i : ℕ) (d : K × X) → HasAt R es k i → find R k es ≡ Some (get_or es i d).1
  has_find es k i d h = let at = at_place es k i h in find_found R o k es d at.1 (at.2 d) ∙ ap (λ j. Some (get_or es j d).1) (sym h.0)

  pub has_put : (es : List (K × X)) (k : K) (i : ℕ) (v : X) (d : K × X) → HasAt R es k i → set es i ((get_or es i d).0, v) ≡ put R k v es
  has_put es k i v d h = let at = at_place es k i h in ap (λ j. set es j ((get_or es j d).0, v)) h.0 ∙ sym (put_found R k v es d at.1 (at.2 d))

  pub has_cut : (es : List (K × X)) (k : K) (i : ℕ) (d : K × X) → T (is_sorted R es) → HasAt R es k i → take i es ++ drop (suc i) es ≡ where_key R (λ x. not (eq_by_cmp R k x)) es
  has_cut es k i d s h = let at = at_place es k i h in ap (λ j. take j es ++ drop (suc j) es) h.0 ∙ sym (cut_found R o k es d s at.1 (at.2 d))

  pub misses_find : (es : List (K × X)) (k : K) (i : ℕ) → T (is_sorted R es) → MissesAt R es k i → find R k es ≡ None
  misses_find es k i s m = find_missing R o k es s (not_at_place es k i m)

  pub misses_put : (es : List (K × X)) (k : K) (i : ℕ) (v : X) (d : K × X) → MissesAt R es k i → take i es ++ (k, v) ∷ drop i es ≡ put R k v es
  misses_put es k i v d m = ap (λ j. take j es ++ (k, v) ∷ drop j es) m.0 ∙ sym (put_new R k v es d (not_at_place es k i m d))

  pub misses_cut : (es : List (K × X)) (k : K) (i : ℕ) → T (is_sorted R es) → MissesAt R es k i → es ≡ where_key R (λ x. not (eq_by_cmp R k x)) es
  misses_cut es k i s m = sym (cut_missing R o k es s (not_at_place es k i m))

tied_from_same : (x y : ℕ) → y ≡ x → nat_cmp x y ≡ Equal
tied_from_same x y e = sym (nat_cmp_is x y Equal (sym e))

same_from_tied : (x y : ℕ) → nat_cmp x y ≡ Equal → y ≡ x
same_from_tied x y e = sym (ranked x y Equal (sym e))

-- ---- a row as a list of ports

node_at : (row : Row) (k i : ℕ) (o : Option (ℕ × ℕ)) → slice_get row i ≡ o → option_map (λ e. e.0) o ≡ Some k → (i < length row) × ((get_or row i (0, 0)).0 ≡ k)
node_at row k i None at is = absurd (none-some k is)
node_at row k i (Some e) at is = (slice_get_within row i e at, ap (λ x. x.0) (get_or_from_slice_get row i e (0, 0) at) ∙ same_Some e.0 k is)

-- the port to a node that has an entry is its place, and no other
pub has_port : (row : Row) (k i : ℕ) → T (is_sorted nat_cmp row) → HasAt nat_cmp row k i → (j : ℕ) → (Some i ≡ Some j) ↔ (option_map (λ e. e.0) (slice_get row j) ≡ Some k)
has_port row k i s h j = (
  (λ e. subst (λ p. option_map (λ x. x.0) (slice_get row p) ≡ Some k) (same_Some i j e) (ap (option_map (λ x. x.0)) (slice_get-get_or row i (0, 0) h.1) ∙ ap Some (same_from_tied k _ (h.2 (0, 0))))),
  (λ is. let at = node_at row k j (slice_get row j) refl is in ap Some (rising_once row (rising_sorted row s) i j h.1 at.0 (same_from_tied k _ (h.2 (0, 0)) ∙ sym at.1))),
)

-- and a node without an entry has none
pub misses_port : (row : Row) (k i : ℕ) → T (is_sorted nat_cmp row) → MissesAt nat_cmp row k i → (j : ℕ) → (let none : Option ℕ = None in none ≡ Some j) ↔ (option_map (λ e. e.0) (slice_get row j) ≡ Some k)
misses_port row k i s m j = (
  (λ e. absurd (none-some j e)),
  (λ is.
      let at = node_at row k j (slice_get row j) refl is in
      let le : i ≤ j = subst (λ p. p ≤ j) (sym m.0) (node_within k row j (0, 0) at.0 (omega (arith, at.1))) in
      elim (cases_eq i j) [
        | inl e ↦ absurd (m.2 (0, 0) (omega (arith, e, at.0)) (tied_from_same k _ (ap (λ p. (get_or row p (0, 0)).0) e ∙ at.1)))
        | inr ne ↦
            let below : (get_or row i (0, 0)).0 < k = subst (λ n. (get_or row i (0, 0)).0 < n) at.1 (rising_sorted row s i j (omega (arith, le, ne)) at.0) in
            let past : i + 1 ≤ place nat_cmp k row = node_past k row i (0, 0) s (omega (arith, le, at.0)) below in
            absurd (omega (arith, past, m.0))
      ]),
)

-- no port is greater than the number of its node
pub port_le : (row : Row) (k i : ℕ) → T (is_sorted nat_cmp row) → HasAt nat_cmp row k i → i ≤ k
port_le row k i s h = let le = rising_place row (rising_sorted row s) i h.1 in let same : (get_or row i (0, 0)).0 ≡ k = same_from_tied k _ (h.2 (0, 0)) in omega (arith, le, same)
