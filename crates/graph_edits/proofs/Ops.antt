-- What an op that is not refused does to rows.
use Rattle.std.proofs.Common.{◌≡◌, ℕ, ◌+◌, ◌-◌, ◌<◌, ◌≤◌, Bool, true, false, cond, not, T, ◌≢◌, inl, inr, List, [], length, set, Option, None, Some, Equal, nat_cmp, eqb, refl, sym, ap, ◌∙◌, subst, arith, length-set, get_or-set_same, get_or-set_other}
use Rattle.std.specs.Ordering.{eq_by_cmp}
use Rattle.std.specs.Option.{is_some}
use Rattle.std.specs.Cmp.{nat_cmp_total, ranked, unsigned_tied}
use Rattle.std.specs.FinMap.{find, put, is_sorted, len, len-insert, len-remove, insert, remove}
use Rattle.std.specs.FinMap.Entries.{find-put, find-where_key, is_sorted-put, is_sorted-where_key, length-put, length_without}
use Rattle.std.specs.List.{sum_by}
use Rattle.std.proofs.lemmas.List.Sums.{sum_by-set}
use Rattle.std.proofs.lemmas.Bool.{cases_eq}
use Rattle.std.proofs.lemmas.Option.{same_Some, none-some}
use Rattle.std.proofs.lemmas.Bool.Decides.{nat_tests}
use Rattle.graph_edits.specs.Edges.{EdgeMap, pair_of, weight_between, greatest_weight, most_edges, most_nodes}
use Rattle.graph_edits.specs.Rows.{Row, row_of, edges_from, AreRows, put_both, cut_both, cut_row, joins}
use Rattle.graph_edits.specs.Changes.{refusal}
use Rattle.graph_edits.specs.declared.edits.Op.TheVariants.{Add, Set, Cut}
use Rattle.graph_edits.proofs.EdgesOfRows.{edges_inserted, edges_removed, between_rows, pair_total}

-- ---- the tests that an op has passed

pub record HasEnds (n a b : ℕ) : Type 0 where
  pub a_in : a < n
  pub b_in : b < n
  pub apart : a ≢ b

pub record AddPassed (n e a b w : ℕ) (there : Bool) : Type 0 where
  pub ends : HasEnds n a b
  pub weight : (1 ≤ w) × (w ≤ greatest_weight)
  pub free : there ≡ false
  pub few : e < most_edges

pub record SetPassed (n a b w : ℕ) (there : Bool) : Type 0 where
  pub ends : HasEnds n a b
  pub weight : (1 ≤ w) × (w ≤ greatest_weight)
  pub taken : there ≡ true

pub record CutPassed (n a b : ℕ) (there : Bool) : Type 0 where
  pub ends : HasEnds n a b
  pub taken : there ≡ true

pub add_passed : (n e a b w : ℕ) (t : Bool) → refusal n e t (Add a b w) ≡ None → AddPassed n e a b w t
add_passed n e a b w t is = record {
  ends = record { a_in = grind (arith, nat_tests); b_in = grind (arith, nat_tests); apart = λ same. grind (arith, nat_tests) };
  weight = (grind (arith, nat_tests), grind (arith, nat_tests));
  free = grind (arith, nat_tests);
  few = grind (arith, nat_tests);
}

pub set_passed : (n e a b w : ℕ) (t : Bool) → refusal n e t (Set a b w) ≡ None → SetPassed n a b w t
set_passed n e a b w t is = record {
  ends = record { a_in = grind (arith, nat_tests); b_in = grind (arith, nat_tests); apart = λ same. grind (arith, nat_tests) };
  weight = (grind (arith, nat_tests), grind (arith, nat_tests));
  taken = grind (arith, nat_tests);
}

pub cut_passed : (n e a b : ℕ) (t : Bool) → refusal n e t (Cut a b) ≡ None → CutPassed n a b t
cut_passed n e a b t is = record {
  ends = record { a_in = grind (arith, nat_tests); b_in = grind (arith, nat_tests); apart = λ same. grind (arith, nat_tests) };
  taken = grind (arith, nat_tests);
}

-- ---- what is found in the rows afterwards

row_set : (rows : List Row) (a x : ℕ) (r : Row) → a < length rows → row_of (set rows a r) x ≡ cond (eqb x a) r (row_of rows x)
row_set rows a x r lt = elim (cases_eq x a) [
  | inl e ↦ subst (λ k. row_of (set rows a r) k ≡ cond (eqb k a) r (row_of rows k)) (sym e) (get_or-set_same rows a r [] lt ∙ (let t : eqb a a ≡ true = grind (arith, nat_tests) in ap (λ b. cond b r (row_of rows a)) (sym t)))
  | inr ne ↦ get_or-set_other rows a x r [] ne ∙ (let t : eqb x a ≡ false = grind (arith, nat_tests) in ap (λ b. cond b r (row_of rows x)) (sym t))
]

two_rows : (rows : List Row) (a b x : ℕ) (r s : Row) → a < length rows → b < length rows → row_of (set (set rows a r) b s) x ≡ cond (eqb x b) s (cond (eqb x a) r (row_of rows x))
two_rows rows a b x r s la lb = row_set (set rows a r) b x s (subst (λ n. b < n) (sym (length-set rows a r)) lb) ∙ ap (cond (eqb x b) s) (row_set rows a x r la)

find_cond : (y : ℕ) (t : Bool) (r s : Row) → find nat_cmp y (cond t r s) ≡ cond t (find nat_cmp y r) (find nat_cmp y s)
find_cond y true r s = refl
find_cond y false r s = refl

find_two : (rows : List Row) (a b x y : ℕ) (r s : Row) → a < length rows → b < length rows
    → find nat_cmp y (row_of (set (set rows a r) b s) x) ≡ cond (eqb x b) (find nat_cmp y s) (cond (eqb x a) (find nat_cmp y r) (find nat_cmp y (row_of rows x)))
find_two rows a b x y r s la lb = ap (find nat_cmp y) (two_rows rows a b x r s la lb) ∙ find_cond y (eqb x b) s _ ∙ ap (cond (eqb x b) (find nat_cmp y s)) (find_cond y (eqb x a) r (row_of rows x))

merged : (a b x y : ℕ) (u o p q : Option ℕ) → a ≢ b → (x ≡ b → p ≡ o) → (x ≡ a → q ≡ o) → cond (eqb x b) (cond (eqb y a) u p) (cond (eqb x a) (cond (eqb y b) u q) o) ≡ cond (joins a b x y) u o
merged a b x y u o p q apart pb qa = grind (arith, nat_tests)

find_put : (y k w : ℕ) (row : Row) → find nat_cmp y (put nat_cmp k w row) ≡ cond (eqb y k) (Some w) (find nat_cmp y row)
find_put y k w row = find-put nat_cmp nat_cmp_total y k w row ∙ ap (λ t. cond t (Some w) (find nat_cmp y row)) (unsigned_tied y k)

find_cut : (y k : ℕ) (row : Row) → find nat_cmp y (cut_row k row) ≡ cond (eqb y k) None (find nat_cmp y row)
find_cut y k row =
    find-where_key nat_cmp (λ x. not (eq_by_cmp nat_cmp k x)) y (λ x t. ap (λ z. not (eq_by_cmp nat_cmp k z)) (sym (ranked y x Equal (sym t)))) row
    ∙ ap (λ t. cond (not t) (find nat_cmp y row) None) (unsigned_tied k y)
    ∙ turned k y (find nat_cmp y row)
  where
    turned : (k y : ℕ) (o : Option ℕ) → cond (not (eqb k y)) o None ≡ cond (eqb y k) None o
    turned k y o = grind (arith, nat_tests)

pub found_put : (rows : List Row) (a b w : ℕ) → HasEnds (length rows) a b → (x y : ℕ) → find nat_cmp y (row_of (put_both rows a b w) x) ≡ cond (joins a b x y) (Some w) (find nat_cmp y (row_of rows x))
found_put rows a b w ends x y =
    find_two rows a b x y _ _ ends.a_in ends.b_in
    ∙ (λ i. cond (eqb x b) (find_put y a w (row_of rows b) i) (cond (eqb x a) (find_put y b w (row_of rows a) i) (find nat_cmp y (row_of rows x))))
    ∙ merged a b x y (Some w) (find nat_cmp y (row_of rows x)) _ _ ends.apart (λ e. ap (λ k. find nat_cmp y (row_of rows k)) (sym e)) (λ e. ap (λ k. find nat_cmp y (row_of rows k)) (sym e))

pub found_cut : (rows : List Row) (a b : ℕ) → HasEnds (length rows) a b → (x y : ℕ) → find nat_cmp y (row_of (cut_both rows a b) x) ≡ cond (joins a b x y) None (find nat_cmp y (row_of rows x))
found_cut rows a b ends x y =
    find_two rows a b x y _ _ ends.a_in ends.b_in
    ∙ (λ i. cond (eqb x b) (find_cut y a (row_of rows b) i) (cond (eqb x a) (find_cut y b (row_of rows a) i) (find nat_cmp y (row_of rows x))))
    ∙ merged a b x y None (find nat_cmp y (row_of rows x)) _ _ ends.apart (λ e. ap (λ k. find nat_cmp y (row_of rows k)) (sym e)) (λ e. ap (λ k. find nat_cmp y (row_of rows k)) (sym e))

-- ---- and what the rows stay

sorted_cond : (t : Bool) (r s : Row) → T (is_sorted nat_cmp r) → T (is_sorted nat_cmp s) → T (is_sorted nat_cmp (cond t r s))
sorted_cond true r s p q = p
sorted_cond false r s p q = q

joins_turned : (a b x y : ℕ) → joins a b x y ≡ joins a b y x
joins_turned a b x y = grind (arith, nat_tests)

joins_self : (a b x : ℕ) → a ≢ b → joins a b x x ≡ false
joins_self a b x apart = grind (arith, nat_tests)

some_or : (t : Bool) (w v : ℕ) (o : Option ℕ) (P : ℕ → Type 0) → P w → ((u : ℕ) → o ≡ Some u → P u) → cond t (Some w) o ≡ Some v → P v
some_or true w v o P p f e = subst P (same_Some w v e) p
some_or false w v o P p f e = f v e

none_or : (t : Bool) (v : ℕ) (o : Option ℕ) (P : ℕ → Type 0) → ((u : ℕ) → o ≡ Some u → P u) → cond t None o ≡ Some v → P v
none_or true v o P f e = absurd (none-some v e)
none_or false v o P f e = f v e

lengths : (rows : List Row) (a b : ℕ) (r s : Row) → length (set (set rows a r) b s) ≡ length rows
lengths rows a b r s = length-set (set rows a r) b s ∙ length-set rows a r

length_put : (k w : ℕ) (row : Row) → T (is_sorted nat_cmp row) → length (put nat_cmp k w row) ≡ cond (is_some (find nat_cmp k row)) (length row) (length row + 1)
length_put k w row s = length-put nat_cmp nat_cmp_total k w row s

length_cut : (k : ℕ) (row : Row) → T (is_sorted nat_cmp row) → cond (is_some (find nat_cmp k row)) 1 0 + length (cut_row k row) ≡ length row
length_cut k row s = length_without nat_cmp nat_cmp_total k row s

-- all entries of the rows, after two rows were written
sum_two : (rows : List Row) (a b : ℕ) (r s : Row) → HasEnds (length rows) a b
    → (sum_by length (set (set rows a r) b s) + length (row_of rows b)) + length (row_of rows a) ≡ (sum_by length rows + length r) + length s
sum_two rows a b r s ends =
    let first : sum_by length (set rows a r) + length (row_of rows a) ≡ sum_by length rows + length r = sum_by-set length rows a r [] ends.a_in in
    let second : sum_by length (set (set rows a r) b s) + length (row_of (set rows a r) b) ≡ sum_by length (set rows a r) + length s = sum_by-set length (set rows a r) b s [] (subst (λ n. b < n) (sym (length-set rows a r)) ends.b_in) in
    let same : length (row_of (set rows a r) b) ≡ length (row_of rows b) = ap length (get_or-set_other rows a b r [] (λ e. ends.apart (sym e))) in
    omega (arith, first, second, same)

grown_sums : (t : Bool) (all now la lb lr ls count after : ℕ) → (now + lb) + la ≡ (all + lr) + ls → lr ≡ cond t la (la + 1) → ls ≡ cond t lb (lb + 1)
    → all ≡ count + count → after ≡ cond t count (count + 1) → now ≡ after + after
grown_sums true all now la lb lr ls count after e p q f g = omega (arith, e, p, q, f, g)
grown_sums false all now la lb lr ls count after e p q f g = omega (arith, e, p, q, f, g)

shrunk_sums : (t : Bool) (all now la lb lr ls count after : ℕ) → (now + lb) + la ≡ (all + lr) + ls → cond t 1 0 + lr ≡ la → cond t 1 0 + ls ≡ lb
    → all ≡ count + count → after ≡ cond t (count - 1) count → now ≡ after + after
shrunk_sums true all now la lb lr ls count after e p q f g = omega (arith, e, p, q, f, g)
shrunk_sums false all now la lb lr ls count after e p q f g = omega (arith, e, p, q, f, g)

pub kept_put : (rows : List Row) (count a b w after : ℕ) → AreRows rows count → HasEnds (length rows) a b → (1 ≤ w) × (w ≤ greatest_weight)
    → after ≡ len (insert (edges_from 0 rows) (pair_of a b) w) → after ≤ most_edges → AreRows (put_both rows a b w) after
kept_put rows count a b w after kept ends weight is few =
    let found = found_put rows a b w ends in
    record {
      sorted = λ x. subst (λ r. T (is_sorted nat_cmp r)) (sym (two_rows rows a b x _ _ ends.a_in ends.b_in))
          (sorted_cond (eqb x b) _ _ (is_sorted-put nat_cmp nat_cmp_total a w _ (kept.sorted b)) (sorted_cond (eqb x a) _ _ (is_sorted-put nat_cmp nat_cmp_total b w _ (kept.sorted a)) (kept.sorted x)));
      mirrored = λ x y. found x y ∙ (λ i. cond (joins_turned a b x y i) (Some w) (kept.mirrored x y i)) ∙ sym (found y x);
      loopless = λ x. found x x ∙ (λ i. cond (joins_self a b x ends.apart i) (Some w) (kept.loopless x i));
      weighted = λ x y v e. some_or (joins a b x y) w v _ (λ u. (1 ≤ u) × (u ≤ greatest_weight)) weight (λ u. kept.weighted x y u) (sym (found x y) ∙ e);
      some_nodes = subst (λ n. (1 ≤ n) × (n ≤ most_nodes)) (sym (lengths rows a b _ _)) kept.some_nodes;
      counted = is ∙ ap len (sym (edges_inserted rows (put_both rows a b w) a b w ends.apart found));
      both_ways =
          let here : weight_between (edges_from 0 rows) a b ≡ find nat_cmp b (row_of rows a) = between_rows rows kept.mirrored kept.loopless a b in
          grown_sums (is_some (find nat_cmp b (row_of rows a))) _ _ (length (row_of rows a)) (length (row_of rows b)) _ _ count after (sum_two rows a b _ _ ends)
          (length_put b w (row_of rows a) (kept.sorted a))
          (length_put a w (row_of rows b) (kept.sorted b) ∙ ap (λ o. cond (is_some o) (length (row_of rows b)) (length (row_of rows b) + 1)) (kept.mirrored b a))
          kept.both_ways
          (is ∙ len-insert pair_total (edges_from 0 rows) (pair_of a b) w ∙ ap (λ o. cond (is_some o) (len (edges_from 0 rows)) (len (edges_from 0 rows) + 1)) here ∙ ap (λ n. cond (is_some (find nat_cmp b (row_of rows a))) n (n + 1)) (sym kept.counted));
      few_edges = few;
    }

pub kept_cut : (rows : List Row) (count a b after : ℕ) → AreRows rows count → HasEnds (length rows) a b → after ≡ len (remove (edges_from 0 rows) (pair_of a b)) → after ≤ most_edges → AreRows (cut_both rows a b) after
kept_cut rows count a b after kept ends is few =
    let found = found_cut rows a b ends in
    record {
      sorted = λ x. subst (λ r. T (is_sorted nat_cmp r)) (sym (two_rows rows a b x _ _ ends.a_in ends.b_in))
          (sorted_cond (eqb x b) _ _ (is_sorted-where_key {X = ℕ} nat_cmp (λ z. not (eq_by_cmp nat_cmp a z)) (row_of rows b) (kept.sorted b)) (sorted_cond (eqb x a) _ _ (is_sorted-where_key {X = ℕ} nat_cmp (λ z. not (eq_by_cmp nat_cmp b z)) (row_of rows a) (kept.sorted a)) (kept.sorted x)));
      mirrored = λ x y. found x y ∙ (λ i. cond (joins_turned a b x y i) None (kept.mirrored x y i)) ∙ sym (found y x);
      loopless = λ x. found x x ∙ (λ i. cond (joins_self a b x ends.apart i) None (kept.loopless x i));
      weighted = λ x y v e. none_or (joins a b x y) v _ (λ u. (1 ≤ u) × (u ≤ greatest_weight)) (λ u. kept.weighted x y u) (sym (found x y) ∙ e);
      some_nodes = subst (λ n. (1 ≤ n) × (n ≤ most_nodes)) (sym (lengths rows a b _ _)) kept.some_nodes;
      counted = is ∙ ap len (sym (edges_removed rows (cut_both rows a b) a b ends.apart found));
      both_ways =
          let here : weight_between (edges_from 0 rows) a b ≡ find nat_cmp b (row_of rows a) = between_rows rows kept.mirrored kept.loopless a b in
          shrunk_sums (is_some (find nat_cmp b (row_of rows a))) _ _ (length (row_of rows a)) (length (row_of rows b)) _ _ count after (sum_two rows a b _ _ ends)
          (length_cut b (row_of rows a) (kept.sorted a))
          (ap (λ o. cond (is_some o) 1 0 + length (cut_row a (row_of rows b))) (sym (kept.mirrored b a)) ∙ length_cut a (row_of rows b) (kept.sorted b))
          kept.both_ways
          (is ∙ len-remove pair_total (edges_from 0 rows) (pair_of a b) ∙ ap (λ o. cond (is_some o) (len (edges_from 0 rows) - 1) (len (edges_from 0 rows))) here ∙ ap (λ n. cond (is_some (find nat_cmp b (row_of rows a))) (n - 1) n) (sym kept.counted));
      few_edges = few;
    }

-- ---- how many edges there are

pub one_more_edge : (m : EdgeMap) (a b w : ℕ) → is_some (weight_between m a b) ≡ false → len (insert m (pair_of a b) w) ≡ len m + 1
one_more_edge m a b w e = len-insert pair_total m (pair_of a b) w ∙ ap (λ t. cond t (len m) (len m + 1)) e

pub as_many_edges : (m : EdgeMap) (a b w : ℕ) → is_some (weight_between m a b) ≡ true → len (insert m (pair_of a b) w) ≡ len m
as_many_edges m a b w e = len-insert pair_total m (pair_of a b) w ∙ ap (λ t. cond t (len m) (len m + 1)) e

pub one_less_edge : (m : EdgeMap) (a b : ℕ) → is_some (weight_between m a b) ≡ true → len (remove m (pair_of a b)) ≡ len m - 1
one_less_edge m a b e = len-remove pair_total m (pair_of a b) ∙ ap (λ t. cond t (len m - 1) (len m)) e
