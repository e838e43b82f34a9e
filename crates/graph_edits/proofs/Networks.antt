-- The network that rows stand for.
use Rattle.std.proofs.Common.{◌≡◌, ℕ, zero, suc, ◌+◌, ◌<◌, ◌≤◌, Bool, true, false, cond, ◌&&◌, T, inl, inr, List, [], ◌∷◌, ◌++◌, length, get_or, Option, None, Some, Less, is_lt, nat_cmp, eqb, ltb, refl, sym, ap, ◌∙◌, subst, arith, Vec, Global, take}
use Rattle.std.specs.Cmp.{nat_cmp_total, nat_cmp_is, unsigned_tied}
use Rattle.std.specs.FinMap.{find, get, len, empty, get-empty, len-empty, same_map, is_sorted, nat_cmp-IsAntisymmetric}
use Rattle.std.specs.FinMap.Entries.{same_entries, find-append, below_all}
use Rattle.std.specs.List.{filter_map, cons_option, sum_by}
use Rattle.std.proofs.lemmas.List.Sums.{sum_by-append, sum_by-cons}
use Rattle.std.proofs.Math.Seq.{take-suc}
use Rattle.std.specs.Option.{option_map}
use Rattle.std.proofs.lemmas.List.{get_or_past}
use Rattle.std.proofs.lemmas.List.Elements.{filter_map-append}
use Rattle.std.proofs.lemmas.Bool.{cases_lt}
use Rattle.std.proofs.lemmas.Bool.Decides.{nat_tests}
use Rattle.graph_edits.specs.Edges.{pair_cmp, weight_in, Network, below, neighbours_of, all_degrees, IsSound, most_edges, most_nodes}
use Rattle.graph_edits.specs.Rows.{Row, row_of, edges_from, network_of, AreRows, lists}
use Rattle.graph_edits.proofs.EdgesOfRows.{get-edges_from, between_rows, pair_total, pair_same}

-- ---- the edges of rows

pub weight_rows : (rows : List Row) (count : ℕ) → AreRows rows count → (a b : ℕ) → weight_in (network_of rows) a b ≡ find nat_cmp b (row_of rows a)
weight_rows rows count kept a b = between_rows rows kept.mirrored kept.loopless a b

past : (rows : List Row) (a b w : ℕ) → length rows ≤ a → find nat_cmp b (row_of rows a) ≡ Some w → ⊥
past rows a b w le is = let e : row_of rows a ≡ [] = get_or_past rows a [] le in let none : None ≡ Some w = sym (ap (find nat_cmp b) e) ∙ is in cc

bounded : (rows : List Row) (a b w : ℕ) → find nat_cmp b (row_of rows a) ≡ Some w → a < length rows
bounded rows a b w is = elim (cases_lt a (length rows)) [ inl lt ↦ lt | inr le ↦ absurd (past rows a b w le is) ]

ordered : (rows : List Row) (a b w : ℕ) → get (edges_from 0 rows) (a, b) ≡ Some w → a < b
ordered rows a b w is = by (ltb a b) refl (sym (get-edges_from rows a b) ∙ is)
  where
    by : (t : Bool) → ltb a b ≡ t → cond t (find nat_cmp b (row_of rows a)) None ≡ Some w → a < b
    by true lt _ = grind (arith, nat_tests, lt)
    by false ge none = absurd cc

pub sound_rows : (rows : List Row) (count : ℕ) → AreRows rows count → IsSound (network_of rows)
sound_rows rows count kept = record {
  ordered = ordered rows;
  within = λ a b w is. let here = sym (weight_rows rows count kept a b) ∙ is in (bounded rows a b w here, bounded rows b a w (sym (kept.mirrored a b) ∙ here));
  loopless = λ a w is. let none : None ≡ Some w = sym (weight_rows rows count kept a a ∙ kept.loopless a) ∙ is in cc;
  weighted = λ a b w is. kept.weighted a b w (sym (weight_rows rows count kept a b) ∙ is);
  nodes_fit = kept.some_nodes;
  edges_fit = subst (λ k. k ≤ most_edges) kept.counted kept.few_edges;
}

-- ---- neighbours in ascending order

abbrev listed : (ℕ → Option ℕ) → ℕ → List (ℕ × ℕ)
listed f n = filter_map (λ y. option_map (λ w. (y, w)) (f y)) (below n)

abbrev AllUnder : ℕ → List (ℕ × ℕ) → Type 0
AllUnder k [] = Unit {0}
AllUnder k (e ∷ es) = (e.0 < k) × AllUnder k es

under_more : (k : ℕ) (es : List (ℕ × ℕ)) → AllUnder k es → AllUnder (suc k) es
under_more k [] h = tt
under_more k (e ∷ es) h = (omega arith, under_more k es h.1)

under_push : (k w : ℕ) (es : List (ℕ × ℕ)) → AllUnder k es → AllUnder (suc k) (es ++ (k, w) ∷ [])
under_push k w [] h = (omega arith, tt)
under_push k w (e ∷ es) h = (omega arith, under_push k w es h.1)

less : (x k : ℕ) → x < k → T (is_lt (nat_cmp x k))
less x k lt = subst (λ o. T (is_lt o)) (nat_cmp_is x k Less lt) tt

below_push : (x k w : ℕ) (es : List (ℕ × ℕ)) → x < k → T (below_all nat_cmp x es) → T (below_all nat_cmp x (es ++ (k, w) ∷ []))
below_push x k w [] lt h = both _ _ (less x k lt) tt
  where
    both : (a b : Bool) → T a → T b → T (a && b)
    both true b p q = q
    both false b p q = p
below_push x k w (e ∷ es) lt h = join _ _ _ (below_push x k w es lt) h
  where
    join : (a b c : Bool) → (T b → T c) → T (a && b) → T (a && c)
    join true b c f p = f p
    join false b c f p = p

sorted_push : (k w : ℕ) (es : List (ℕ × ℕ)) → AllUnder k es → T (is_sorted nat_cmp es) → T (is_sorted nat_cmp (es ++ (k, w) ∷ []))
sorted_push k w [] u s = tt
sorted_push k w (e ∷ es) u s = join _ _ _ _ (below_push e.0 k w es u.0) (sorted_push k w es u.1) s
  where
    join : (a b c d : Bool) → (T a → T c) → (T b → T d) → T (a && b) → T (c && d)
    join true b true d f g p = g p
    join true b false d f g p = absurd (f tt)
    join false b c d f g p = absurd p

missing_under : (k : ℕ) (es : List (ℕ × ℕ)) → AllUnder k es → find nat_cmp k es ≡ None
missing_under k [] h = refl
missing_under k (e ∷ es) h = ap (λ t. cond t (Some e.1) (find nat_cmp k es)) (unsigned_tied k e.0 ∙ (let f : eqb k e.0 ≡ false = grind (arith, nat_tests) in f)) ∙ missing_under k es h.1

-- one more number
grown : (f : ℕ → Option ℕ) (n : ℕ) (o : Option ℕ) → f n ≡ o → listed f (suc n) ≡ listed f n ++ cons_option (option_map (λ w. (n, w)) o) []
grown f n o e = filter_map-append (λ y. option_map (λ w. (y, w)) (f y)) (below n) (n ∷ []) ∙ ap (λ u. listed f n ++ cons_option (option_map (λ w. (n, w)) u) []) e

record Listed (f : ℕ → Option ℕ) (n : ℕ) (es : List (ℕ × ℕ)) : Type 0 where
  under : AllUnder n es
  sorted : T (is_sorted nat_cmp es)
  found : (q : ℕ) → find nat_cmp q es ≡ cond (ltb q n) (f q) None

appended : (es : List (ℕ × ℕ)) → es ++ [] ≡ es
appended [] = refl
appended (e ∷ es) = ap (λ t. e ∷ t) (appended es)

step : (f : ℕ → Option ℕ) (n : ℕ) (es : List (ℕ × ℕ)) (o : Option ℕ) → f n ≡ o → Listed f n es → Listed f (suc n) (es ++ cons_option (option_map (λ w. (n, w)) o) [])
step f n es None e l = subst (Listed f (suc n)) (sym (appended es)) (record {
  under = under_more n es l.under;
  sorted = l.sorted;
  found = λ q. l.found q ∙ same q (f q) (λ is. ap f is ∙ e);
})
  where
    same : (q : ℕ) (u : Option ℕ) → (q ≡ n → u ≡ None) → cond (ltb q n) u None ≡ cond (ltb q (suc n)) u None
    same q u h = grind (arith, nat_tests)
step f n es (Some w) e l = record {
  under = under_push n w es l.under;
  sorted = sorted_push n w es l.under l.sorted;
  found = λ q. find-append nat_cmp nat_cmp_total es n w q (missing_under n es l.under) ∙ ap (λ t. cond t (Some w) (find nat_cmp q es)) (unsigned_tied q n) ∙ ap (λ u. cond (eqb q n) (Some w) u) (l.found q) ∙ same q (f q) (λ is. ap f is ∙ e);
}
  where
    same : (q : ℕ) (u : Option ℕ) → (q ≡ n → u ≡ Some w) → cond (eqb q n) (Some w) (cond (ltb q n) u None) ≡ cond (ltb q (suc n)) u None
    same q u h = grind (arith, nat_tests)

listed_is : (f : ℕ → Option ℕ) (n : ℕ) → Listed f n (listed f n)
listed_is f zero = record { under = tt; sorted = tt; found = λ q. let t : ltb q 0 ≡ false = grind (arith, nat_tests) in ap (λ b. cond b (f q) None) (sym t) }
listed_is f (suc n) = subst (Listed f (suc n)) (sym (grown f n (f n) refl)) (step f n (listed f n) (f n) refl (listed_is f n))

pub neighbours_rows : (rows : List Row) (count : ℕ) → AreRows rows count → (x : ℕ) → row_of rows x ≡ neighbours_of (network_of rows) x
neighbours_rows rows count kept x =
    let l = listed_is (λ y. weight_in (network_of rows) x y) (length rows) in
    same_entries nat_cmp nat_cmp_total nat_cmp-IsAntisymmetric _ _ (kept.sorted x) l.sorted (λ q.
    within q (find nat_cmp q (row_of rows x)) (λ le. kept.mirrored x q ∙ ap (find nat_cmp x) (get_or_past rows q [] le))
    ∙ ap (λ o. cond (ltb q (length rows)) o None) (sym (weight_rows rows count kept x q))
    ∙ sym (l.found q))
  where
    within : (q : ℕ) (o : Option ℕ) → (length rows ≤ q → o ≡ None) → o ≡ cond (ltb q (length rows)) o None
    within q o h = grind (arith, nat_tests)

pub sorted_neighbours : (g : Network) (x : ℕ) → T (is_sorted nat_cmp (neighbours_of g x))
sorted_neighbours g x = (listed_is (λ y. weight_in g x y) g.nodes).sorted

-- ---- degrees

sum_below : (rows : List Row) (n : ℕ) → n ≤ length rows → sum_by (λ x. length (row_of rows x)) (below n) ≡ sum_by length (take n rows)
sum_below rows zero le = refl
sum_below rows (suc n) le =
    sum_by-append (λ x. length (row_of rows x)) (below n) (n ∷ [])
    ∙ ap (λ k. k + sum_by (λ x. length (row_of rows x)) (n ∷ [])) (sum_below rows n (omega arith))
    ∙ sym (ap (sum_by length) (take-suc rows n [] le) ∙ sum_by-append length (take n rows) (row_of rows n ∷ []))

-- an edge stands in the rows of both its nodes
pub degrees_rows : (rows : List Row) (count : ℕ) → AreRows rows count → all_degrees (network_of rows) ≡ len (edges_from 0 rows) + len (edges_from 0 rows)
degrees_rows rows count kept =
    sym (λ i. sum_by (λ x. length (neighbours_rows rows count kept x i)) (below (length rows)))
    ∙ sum_below rows (length rows) (omega arith)
    ∙ ap (sum_by length) (take_all rows)
    ∙ kept.both_ways
    ∙ (λ i. kept.counted i + kept.counted i)
  where
    take_all : (rows : List Row) → take (length rows) rows ≡ rows
    take_all [] = refl
    take_all (r ∷ rows) = ap (λ t. r ∷ t) (take_all rows)

-- ---- no edges

pub edges_none : (rows : List Row) → ((x : ℕ) → row_of rows x ≡ []) → edges_from 0 rows ≡ empty
edges_none rows none = same_map pair_total pair_same _ _ (λ q.
    get-edges_from rows q.0 q.1 ∙ ap (λ r. cond (ltb q.0 q.1) (find nat_cmp q.1 r) None) (none q.0) ∙ nothing (ltb q.0 q.1) ∙ sym (get-empty pair_cmp q))
  where
    nothing : (b : Bool) → let gone : Option ℕ = None in cond b gone None ≡ gone
    nothing true = refl
    nothing false = refl

pub rows_none : (rows : List Row) → ((x : ℕ) → row_of rows x ≡ []) → 1 ≤ length rows → length rows ≤ most_nodes → AreRows rows 0
rows_none rows none some few = record {
  sorted = λ x. subst (λ r. T (is_sorted nat_cmp r)) (sym (none x)) tt;
  mirrored = λ x y. ap (find nat_cmp y) (none x) ∙ sym (ap (find nat_cmp x) (none y));
  loopless = λ x. ap (find nat_cmp x) (none x);
  weighted = λ x y w is. let gone : None ≡ Some w = sym (ap (find nat_cmp y) (none x)) ∙ is in cc;
  some_nodes = (some, few);
  counted = sym (ap len (edges_none rows none) ∙ len-empty pair_cmp ℕ);
  few_edges = omega arith;
  both_ways = none_in_all rows none;
}
  where
    none_in_all : (rows : List Row) → ((x : ℕ) → row_of rows x ≡ []) → sum_by length rows ≡ 0
    none_in_all [] none = refl
    none_in_all (r ∷ rows) none = sum_by-cons length r rows ∙ (λ i. length (none 0 i) + none_in_all rows (λ x. none (suc x)) i)

-- ---- rows as a vector holds them

pub row_read : (rows : List (Vec (ℕ × ℕ) Global)) (x : ℕ) (row : Vec (ℕ × ℕ) Global) → x < length rows → row ≡ get_or rows x row → row_of (lists rows) x ≡ row.items
row_read [] x row lt is = absurd (omega arith)
row_read (r ∷ rows) zero row lt is = ap (λ v. v.items) (sym is)
row_read (r ∷ rows) (suc x) row lt is = row_read rows x row (omega arith) is
