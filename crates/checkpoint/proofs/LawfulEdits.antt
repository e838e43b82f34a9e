-- Edits that are accepted keep a network within the limits.
use Rattle.std.proofs.Common.{◌≡◌, ◌≢◌, ℕ, ◌+◌, ◌<◌, ◌≤◌, Bool, true, false, cond, List, [], ◌∷◌, length, Option, None, Some, Ordering, Less, Equal, Greater, is_eq, ltb, refl, sym, ◌∙◌, subst, arith}
use Rattle.std.specs.Prelude.{Result, Ok, Err, is_some}
use Rattle.std.specs.Option.{option_map}
use Rattle.std.specs.FinMap.{get, insert, remove, len, len-entries, get-insert, get-remove}
use Rattle.std.proofs.lemmas.Bool.Decides.{nat_tests}
use Rattle.layout_2.specs.Records.{Entry}
use Rattle.requests.specs.Tickets.{tickets_after}
use Rattle.graph_edits.specs.declared.edits.Op.{Op}
use Rattle.graph_edits.specs.declared.edits.Op.TheVariants.{Add, Set, Cut}
use Rattle.graph_edits.specs.declared.edits.Code.{Code}
use Rattle.graph_edits.specs.Edges.{EdgeMap, Network, pair_cmp, pair_of, weight_between, most_edges, greatest_weight}
use Rattle.graph_edits.specs.Changes.{fold, edges_after, edges_after_op, refusal_at, or_refused_at, after as graph_after}
use Rattle.graph_edits.proofs.EdgesOfRows.{pair_total, pair_same}
use Rattle.graph_edits.proofs.Ops.{HasEnds, add_passed, set_passed}
use Rattle.graph_edits.proofs.Applied.{count_fits, count_step, count_few}
use Rattle.layout_2.specs.State.{State, state_with, changes_of, asked, after, IsLawful}
use Rattle.layout_reader.specs.EdgeTexts.{IsEdge}
use Rattle.layout_reader.proofs.Results.{some_is, ok_is}

-- the edges of a network of so many nodes
abbrev Edges : ℕ → EdgeMap → Type 0
Edges n m = (pair : ℕ × ℕ) (weight : ℕ) → get m pair ≡ Some weight → IsEdge n (pair, weight)

in_order : (n a b w : ℕ) → HasEnds n a b → 1 ≤ w → w ≤ greatest_weight → IsEdge n (pair_of a b, w)
in_order n a b w ends low high = by (ltb a b) refl
  where
    by : (t : Bool) → ltb a b ≡ t → IsEdge n (cond t (a, b) (b, a), w)
    by true lt = (let l : a < b = grind (arith, nat_tests, lt) in l, ends.b_in, low, high)
    by false ge =
        let le : b ≤ a = grind (arith, nat_tests, ge) in
        let apart : b ≢ a = λ e. ends.apart (sym e) in
        (omega (arith, le, apart), ends.a_in, low, high)

put_edge : (n : ℕ) (m : EdgeMap) (k : ℕ × ℕ) (w : ℕ) → Edges n m → IsEdge n (k, w) → Edges n (insert m k w)
put_edge n m k w each is q v found = by (pair_cmp q k) refl (sym (get-insert pair_total m k w q) ∙ found)
  where
    by : (r : Ordering) → pair_cmp q k ≡ r → cond (is_eq r) (Some w) (get m q) ≡ Some v → IsEdge n (q, v)
    by Less _ e = each q v e
    by Greater _ e = each q v e
    by Equal t e = subst (λ p. IsEdge n (p, v)) (sym (pair_same q k t)) (subst (λ x. IsEdge n (k, x)) (some_is w v e) is)

cut_edge : (n : ℕ) (m : EdgeMap) (k : ℕ × ℕ) → Edges n m → Edges n (remove m k)
cut_edge n m k each q v found = by (pair_cmp q k) (sym (get-remove pair_total m k q) ∙ found)
  where
    by : (r : Ordering) → cond (is_eq r) None (get m q) ≡ Some v → IsEdge n (q, v)
    by Less e = each q v e
    by Greater e = each q v e
    by Equal e = absurd cc

edges_op : (n : ℕ) (m : EdgeMap) (op : Op) → refusal_at n m op ≡ None → Edges n m → Edges n (edges_after_op m op)
edges_op n m (Add a b w) passed each = let p = add_passed n (len m) a b w (is_some (weight_between m a b)) passed in put_edge n m (pair_of a b) w each (in_order n a b w p.ends p.weight.0 p.weight.1)
edges_op n m (Set a b w) passed each = let p = set_passed n (len m) a b w (is_some (weight_between m a b)) passed in put_edge n m (pair_of a b) w each (in_order n a b w p.ends p.weight.0 p.weight.1)
edges_op n m (Cut a b) passed each = cut_edge n m (pair_of a b) each

-- a map of lawful edges, not too many
record IsWithin (n : ℕ) (m : EdgeMap) : Type 0 where
  few : len m ≤ most_edges
  each : Edges n m

within_op : (n : ℕ) (m : EdgeMap) (op : Op) → refusal_at n m op ≡ None → IsWithin n m → IsWithin n (edges_after_op m op)
within_op n m op passed is = record {
  few = subst (λ k. k ≤ most_edges) (sym (count_step n m op passed)) (count_few (len m) op (count_fits n m op passed) is.few);
  each = edges_op n m op passed is.each;
}

within_ops : (n : ℕ) (m : EdgeMap) (place : ℕ) (ops : List Op) (final : EdgeMap) → edges_after n m place ops ≡ Ok final → IsWithin n m → IsWithin n final
within_ops n m place [] final is within = subst (IsWithin n) (ok_is m final is) within
within_ops n m place (op ∷ ops) final is within = by (λ passed rest. within_ops n (edges_after_op m op) (place + 1) ops final rest (within_op n m op passed within)) (refusal_at n m op) refl is
  where
    by : (refusal_at n m op ≡ None → edges_after n (edges_after_op m op) (place + 1) ops ≡ Ok final → IsWithin n final) → (o : Option Code) → refusal_at n m op ≡ o
        → or_refused_at o place (edges_after n (edges_after_op m op) (place + 1) ops) ≡ Ok final → IsWithin n final
    by later None e is = later e is
    by later (Some c) e is = absurd cc

lawful_within : (g : Network) → IsLawful g → IsWithin g.nodes g.edges
lawful_within g lawful = record { few = subst (λ k. k ≤ most_edges) (sym (len-entries g.edges)) lawful.few_edges; each = lawful.each }

lawful_change : (g h : Network) (change : List Op) → graph_after g change ≡ Ok h → IsLawful g → IsLawful h
lawful_change g h change is lawful = by (edges_after g.nodes g.edges 0 change) refl is
  where
    by : (r : Result EdgeMap (ℕ × Code)) → edges_after g.nodes g.edges 0 change ≡ r → (elim r as (λ _. Result Network (ℕ × Code)) [ Ok m ↦ Ok (record g { edges = m }) | Err e ↦ Err e ]) ≡ Ok h → IsLawful h
    by (Ok m) e f =
        let within = within_ops g.nodes g.edges 0 change m e (lawful_within g lawful) in
        subst IsLawful (ok_is (record g { edges = m }) h f) (record {
          some_nodes = lawful.some_nodes;
          few_nodes = lawful.few_nodes;
          few_edges = subst (λ k. k ≤ most_edges) (len-entries m) within.few;
          each = within.each;
        })
    by (Err x) e f = absurd cc

lawful_fold : (g h : Network) (changes : List (List Op)) → fold g changes ≡ Some h → IsLawful g → IsLawful h
lawful_fold g h [] is lawful = subst IsLawful (some_is g h is) lawful
lawful_fold g h (x ∷ xs) is lawful = by (λ m e l. lawful_fold m h xs e l) (graph_after g x) refl is
  where
    by : ((m : Network) → fold m xs ≡ Some h → IsLawful m → IsLawful h) → (r : Result Network (ℕ × Code)) → graph_after g x ≡ r → (elim r as (λ _. Option Network) [ Ok m ↦ fold m xs | Err e ↦ None ]) ≡ Some h → IsLawful h
    by later (Ok m) e is = later m is (lawful_change g m x e lawful)
    by later (Err x) _ is = absurd cc

-- the network of a state that comes after a lawful one
pub lawful_after : (base state : State) (requests : List Entry) → after base requests ≡ Some state → IsLawful base.graph → IsLawful state.graph
lawful_after base state requests is lawful = by (fold base.graph (changes_of requests)) refl is
  where
    made : Network → State
    made graph = state_with (base.count + length requests) graph (tickets_after base.tickets (asked requests))

    by : (o : Option Network) → fold base.graph (changes_of requests) ≡ o → option_map made o ≡ Some state → IsLawful state.graph
    by None e f = absurd cc
    by (Some h) e f = subst (λ (s : State). IsLawful s.graph) (some_is (made h) state f) (lawful_fold base.graph h (changes_of requests) e lawful)
