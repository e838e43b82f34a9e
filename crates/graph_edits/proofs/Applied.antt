-- The ops of a change, one after another.
use Rattle.std.proofs.Common.{◌≡◌, ℕ, ◌+◌, ◌<◌, ◌≤◌, Bool, true, false, cond, ◌&&◌, T, List, [], ◌∷◌, ◌++◌, length, get_or, take, drop, Option, None, Some, Result, Ok, Err, eqb, ltb, refl, sym, ap, ◌∙◌, subst, arith}
use Rattle.std.specs.Ordering.{eq_by_cmp}
use Rattle.std.specs.Option.{is_some}
use Rattle.std.specs.List.{All}
use Rattle.std.specs.FinMap.{len, get-insert, get-remove, get-empty, empty_of_len}
use Rattle.std.proofs.lemmas.List.{drop_more, take_more}
use Rattle.std.proofs.lemmas.List.Elements.{All-nil, All-cons}
use Rattle.std.proofs.lemmas.Bool.Decides.{nat_tests}
use Rattle.std.proofs.lemmas.Option.{same_Some, none-some}
use Rattle.graph_edits.specs.Edges.{EdgeMap, Network, pair_cmp, pair_of, weight_between, most_edges}
use Rattle.graph_edits.specs.Changes.{after, after_within, fold, edges_by, edges_after, edges_after_op, op_weight, first_node, second_node, refusal, refusal_within, refusal_at, refusal_at_within, edges_after_within, or_refused_at, err_of, count_after, CountFits, HasEndsIn}
use Rattle.graph_edits.specs.Rows.{joins}
use Rattle.std.specs.Option.{IsSome}
use Rattle.std.specs.Prelude.{IsOk}
use Rattle.graph_edits.specs.declared.edits.Op.{Op}
use Rattle.graph_edits.specs.declared.edits.Op.TheVariants.{Add, Set, Cut}
use Rattle.graph_edits.specs.declared.edits.Code.{Code}
use Rattle.graph_edits.proofs.EdgesOfRows.{pair_tied, pair_total}
use Rattle.graph_edits.proofs.Ops.{add_passed, set_passed, cut_passed, one_more_edge, as_many_edges, one_less_edge}

pub edges_by-push : (m : EdgeMap) (ops : List Op) (op : Op) → edges_by m (ops ++ op ∷ []) ≡ edges_after_op (edges_by m ops) op
edges_by-push m [] op = refl
edges_by-push m (o ∷ ops) op = edges_by-push (edges_after_op m o) ops op

same_pairs_by : (a b c d : ℕ) (s t : Bool) → ltb a b ≡ s → ltb c d ≡ t → let p : ℕ × ℕ = cond s (a, b) (b, a) in let q : ℕ × ℕ = cond t (c, d) (d, c) in (eqb p.0 q.0 && eqb p.1 q.1) ≡ joins c d a b
same_pairs_by a b c d true true p q = grind (arith, nat_tests)
same_pairs_by a b c d true false p q = grind (arith, nat_tests)
same_pairs_by a b c d false true p q = grind (arith, nat_tests)
same_pairs_by a b c d false false p q = grind (arith, nat_tests)

same_pairs : (a b c d : ℕ) → eq_by_cmp pair_cmp (pair_of a b) (pair_of c d) ≡ joins c d a b
same_pairs a b c d = pair_tied (pair_of a b) (pair_of c d) ∙ same_pairs_by a b c d (ltb a b) (ltb c d) refl refl

pub weight_step : (m : EdgeMap) (op : Op) (a b : ℕ) → weight_between (edges_after_op m op) a b ≡ cond (joins (first_node op) (second_node op) a b) (op_weight op) (weight_between m a b)
weight_step m (Add c d w) a b = get-insert pair_total m (pair_of c d) w (pair_of a b) ∙ ap (λ t. cond t (Some w) (weight_between m a b)) (same_pairs a b c d)
weight_step m (Set c d w) a b = get-insert pair_total m (pair_of c d) w (pair_of a b) ∙ ap (λ t. cond t (Some w) (weight_between m a b)) (same_pairs a b c d)
weight_step m (Cut c d) a b = get-remove pair_total m (pair_of c d) (pair_of a b) ∙ ap (λ t. cond t None (weight_between m a b)) (same_pairs a b c d)

-- ---- one op that is not refused

some_edge : (m : EdgeMap) (a b : ℕ) → is_some (weight_between m a b) ≡ true → 1 ≤ len m
some_edge m a b e = positive (len m) (λ z. let none : weight_between m a b ≡ None = ap (λ n. weight_between n a b) (empty_of_len m z) ∙ get-empty pair_cmp (pair_of a b) in let f : is_some (weight_between m a b) ≡ false = ap is_some none in cc)
  where
    positive : (n : ℕ) → (n ≡ 0 → ⊥) → 1 ≤ n
    positive n h = grind arith

pub count_fits : (n : ℕ) (m : EdgeMap) (op : Op) → refusal_at n m op ≡ None → CountFits (len m) op
count_fits n m (Add a b w) is = (add_passed n (len m) a b w _ is).few
count_fits n m (Set a b w) is = tt
count_fits n m (Cut a b) is = some_edge m a b (cut_passed n (len m) a b _ is).taken

pub count_step : (n : ℕ) (m : EdgeMap) (op : Op) → refusal_at n m op ≡ None → len (edges_after_op m op) ≡ count_after (len m) op
count_step n m (Add a b w) is = one_more_edge m a b w (add_passed n (len m) a b w _ is).free
count_step n m (Set a b w) is = as_many_edges m a b w (set_passed n (len m) a b w _ is).taken
count_step n m (Cut a b) is = one_less_edge m a b (cut_passed n (len m) a b _ is).taken

pub count_few : (count : ℕ) (op : Op) → CountFits count op → count ≤ most_edges → count_after count op ≤ most_edges
count_few count (Add a b w) fits few = omega arith
count_few count (Set a b w) fits few = few
count_few count (Cut a b) fits few = omega arith

pub ends_in : (n : ℕ) (m : EdgeMap) (op : Op) → refusal_at n m op ≡ None → HasEndsIn n op
ends_in n m (Add a b w) is = let e = (add_passed n (len m) a b w _ is).ends in (e.a_in, e.b_in)
ends_in n m (Set a b w) is = let e = (set_passed n (len m) a b w _ is).ends in (e.a_in, e.b_in)
ends_in n m (Cut a b) is = let e = (cut_passed n (len m) a b _ is).ends in (e.a_in, e.b_in)

-- ---- all ops

refused_not : (o : Option Code) (i : ℕ) (r : Result EdgeMap (ℕ × Code)) → err_of (or_refused_at o i r) ≡ None → (o ≡ None) × (err_of r ≡ None)
refused_not None i r e = (refl, e)
refused_not (Some code) i r e = let none : None ≡ Some (i, code) = sym e in absurd (cc)

pub all_ends : (n : ℕ) (m : EdgeMap) (i : ℕ) (ops : List Op) → err_of (edges_after n m i ops) ≡ None → All (HasEndsIn n) ops
all_ends n m i [] e = All-nil (HasEndsIn n)
all_ends n m i (op ∷ ops) e = let both = refused_not (refusal_at n m op) i (edges_after n (edges_after_op m op) (i + 1) ops) e in
    All-cons (HasEndsIn n) op ops (ends_in n m op both.0) (all_ends n (edges_after_op m op) (i + 1) ops both.1)

-- under a limit of their own
module _ (most n : ℕ) (m : EdgeMap) (ops : List Op) (i : ℕ) (d : Op) (lt : i < length ops) where
  pub opened_within : edges_after_within most n m i (drop i ops) ≡ or_refused_at (refusal_at_within most n m (get_or ops i d)) i (edges_after_within most n (edges_after_op m (get_or ops i d)) (i + 1) (drop (i + 1) ops))
  opened_within = ap (edges_after_within most n m i) (drop_more ops i d lt)

  pub passed_within : refusal_at_within most n m (get_or ops i d) ≡ None → edges_after_within most n m i (drop i ops) ≡ edges_after_within most n (edges_after_op m (get_or ops i d)) (i + 1) (drop (i + 1) ops)
  passed_within e = opened_within ∙ ap (λ o. or_refused_at o i (edges_after_within most n (edges_after_op m (get_or ops i d)) (i + 1) (drop (i + 1) ops))) e

-- what passes under a smaller limit passes under that of a graph
pub refusal_lower : (most n e : ℕ) (t : Bool) (op : Op) → most ≤ most_edges → refusal_within most n e t op ≡ None → refusal n e t op ≡ None
refusal_lower most n e t (Add a b w) le is = grind (arith, nat_tests, is, le)
refusal_lower most n e t (Set a b w) le is = is
refusal_lower most n e t (Cut a b) le is = is

-- and so does a whole change
pub lower : (most n : ℕ) (m : EdgeMap) (i : ℕ) (ops : List Op) → most ≤ most_edges → err_of (edges_after_within most n m i ops) ≡ None → edges_after_within most n m i ops ≡ edges_after n m i ops
lower most n m i [] le e = refl
lower most n m i (op ∷ ops) le e =
    let both = refused_not (refusal_at_within most n m op) i (edges_after_within most n (edges_after_op m op) (i + 1) ops) e in
    ap (λ o. or_refused_at o i (edges_after_within most n (edges_after_op m op) (i + 1) ops)) both.0
    ∙ lower most n (edges_after_op m op) (i + 1) ops le both.1
    ∙ ap (λ o. or_refused_at o i (edges_after n (edges_after_op m op) (i + 1) ops)) (sym (refusal_lower most n (len m) (is_some (weight_between m (first_node op) (second_node op))) op le both.0))

pub opened : (n : ℕ) (m : EdgeMap) (ops : List Op) (i : ℕ) (d : Op) → i < length ops
    → edges_after n m i (drop i ops) ≡ or_refused_at (refusal_at n m (get_or ops i d)) i (edges_after n (edges_after_op m (get_or ops i d)) (i + 1) (drop (i + 1) ops))
opened n m ops i d lt = opened_within most_edges n m ops i d lt

pub not_refused_at : (n : ℕ) (m : EdgeMap) (ops : List Op) (i : ℕ) (d : Op) → i < length ops → err_of (edges_after n m i (drop i ops)) ≡ None → refusal_at n m (get_or ops i d) ≡ None
not_refused_at n m ops i d lt e = (refused_not (refusal_at n m (get_or ops i d)) i _ (sym (ap err_of (opened n m ops i d lt)) ∙ e)).0

pub passed_step : (n : ℕ) (m : EdgeMap) (ops : List Op) (i : ℕ) (d : Op) → i < length ops → refusal_at n m (get_or ops i d) ≡ None
    → edges_after n m i (drop i ops) ≡ edges_after n (edges_after_op m (get_or ops i d)) (i + 1) (drop (i + 1) ops)
passed_step n m ops i d lt e = passed_within most_edges n m ops i d lt e

pub by_step : (m : EdgeMap) (ops : List Op) (i : ℕ) (d : Op) → i < length ops → edges_by m (take (i + 1) ops) ≡ edges_after_op (edges_by m (take i ops)) (get_or ops i d)
by_step m ops i d lt = ap (edges_by m) (take_more ops i d lt) ∙ edges_by-push m (take i ops) (get_or ops i d)

-- ---- changes

-- a change that is accepted has no op that is refused
pub after_accepts : (g : Network) (change : List Op) → IsOk (after g change) → err_of (edges_after g.nodes g.edges 0 change) ≡ None
after_accepts g change ok =
    elim (edges_after g.nodes g.edges 0 change) as (λ r. IsOk (elim r as (λ _. Result Network (ℕ × Code)) [ Ok m ↦ Ok (record g { edges = m }) | Err e ↦ Err e ]) → err_of r ≡ None) [
      | Ok m ↦ λ is. refl
      | Err e ↦ λ is. absurd (subst T (sym is) tt)
    ] ok

pub after_step : (g : Network) (m : EdgeMap) (change : List Op) → edges_after g.nodes g.edges 0 change ≡ Ok m → after g change ≡ Ok (record { nodes = g.nodes; edges = m })
after_step g m change is = ap (λ (r : Result EdgeMap (ℕ × Code)). elim r as (λ _. Result Network (ℕ × Code)) [ Ok m ↦ Ok (record g { edges = m }) | Err e ↦ Err e ]) is

-- where changes are accepted, the first is
pub fold_accepts : (g : Network) (change : List Op) (changes : List (List Op)) → IsSome (fold g (change ∷ changes)) → IsOk (after g change)
fold_accepts g change changes some =
    elim (after g change) as (λ r. IsSome (elim r as (λ _. Option Network) [ Ok h ↦ fold h changes | Err e ↦ None ]) → IsOk r) [
      | Ok h ↦ λ is. refl
      | Err e ↦ λ is. absurd (subst T (sym is) tt)
    ] some

pub fold_step : (g h : Network) (change : List Op) (changes : List (List Op)) → after g change ≡ Ok h → fold g (change ∷ changes) ≡ fold h changes
fold_step g h change changes is = ap (λ (r : Result Network (ℕ × Code)). elim r as (λ _. Option Network) [ Ok h ↦ fold h changes | Err e ↦ None ]) is

-- ---- one change under a limit of its own

pub after_lower : (most : ℕ) (g : Network) (change : List Op) → most ≤ most_edges → err_of (edges_after_within most g.nodes g.edges 0 change) ≡ None → after_within most g change ≡ after g change
after_lower most g change le e = ap (λ (r : Result EdgeMap (ℕ × Code)). elim r as (λ _. Result Network (ℕ × Code)) [ Ok m ↦ Ok (record g { edges = m }) | Err e ↦ Err e ]) (lower most g.nodes g.edges 0 change le e)

pub one_accepted : (most : ℕ) (g : Network) (change : List Op) → most ≤ most_edges → err_of (edges_after_within most g.nodes g.edges 0 change) ≡ None → IsSome (fold g (change ∷ []))
one_accepted most g change le e =
    elim (edges_after g.nodes g.edges 0 change) as (λ r. err_of r ≡ None → IsSome (elim (elim r as (λ _. Result Network (ℕ × Code)) [ Ok m ↦ Ok (record g { edges = m }) | Err e ↦ Err e ]) as (λ _. Option Network) [ Ok h ↦ Some h | Err e ↦ None ])) [
      | Ok m ↦ λ is. refl
      | Err f ↦ λ is. absurd (none-some f (sym is))
    ] (sym (ap err_of (lower most g.nodes g.edges 0 change le e)) ∙ e)

pub only_change : (g h : Network) (change : List Op) → fold g (change ∷ []) ≡ Some h → after g change ≡ Ok h
only_change g h change is =
    elim (after g change) as (λ r. elim r as (λ _. Option Network) [ Ok k ↦ Some k | Err e ↦ None ] ≡ Some h → r ≡ Ok h) [
      | Ok k ↦ λ same. ap Ok (same_Some k h same)
      | Err e ↦ λ none. absurd (none-some h none)
    ] is
