use Rattle.std.proofs.Common.{arith, rules, tests, ◌≡◌, refl, sym, ap, subst, true, List, [], ◌∷◌, map}
use Rattle.std.specs.List.{Contains}
use Rattle.std.specs.List.Sorted.{IsStrictlySortedBy}
use Rattle.std.proofs.lemmas.Bool.Decides.{nat_tests}
use Rattle.std.proofs.lemmas.Iterator.{YieldsList-from_map, YieldsList-from_slice, items_from_collect}
use Rattle.std.proofs.lemmas.List.Elements.{All-map, recursion_from_All}
use Rattle.std.proofs.lemmas.List.Filters.{dedup_is}
use Rattle.std.proofs.lemmas.List.Kept.{Contains-dedup, IsStrictlySortedBy-dedup}
use Rattle.std.proofs.lemmas.List.Sorted.{Contains-permutation}
use Rattle.std.proofs.lemmas.Result.{IfOk-weaker}
use Rattle.crash_trials.specs.contracts.kinds.KindEq.TheImpl.Laws.{laws-law}
use Rattle.crash_trials.specs.contracts.kinds.KindOrd.TheImpl.Laws.{matches_eq-law, total-law}
use Rattle.crash_trials.specs.declared.kinds.Kind.{Kind}
use Rattle.crash_trials.specs.declared.kinds.KindCount.{KindCount}
use Rattle.crash_trials.specs.Tables.{IsTableOf, is_kind, kinds_of, order, row_of, times}
use Rattle.crash_trials.proofs.kinds.table_of.Goals as goal

same : (a b : Kind) → is_kind a b ≡ true → a ≡ b
same a b e =
    let found : a.found ≡ b.found = grind (arith, nat_tests) in
    let acknowledged : a.acknowledged ≡ b.acknowledged = grind (arith, nat_tests) in
    let opened : a.opened ≡ b.opened = grind (arith, nat_tests) in
    λ i. record { found = found i; acknowledged = acknowledged i; opened = opened i }

-- the kinds of the rows of kinds are these
again : (kinds each : List Kind) → kinds_of (map (row_of kinds) each) ≡ each
again kinds [] = refl
again kinds (kind ∷ rest) = ap (λ (ks : List Kind). kind ∷ ks) (again kinds rest)

-- the rows of kinds that stand in order and are all of these are a table
table : (kinds each : List Kind) → IsStrictlySortedBy order each → ((kind : Kind) → Contains kinds kind → Contains each kind) → IsTableOf kinds (map (row_of kinds) each)
table kinds each sorted among = record {
  ascending = subst (IsStrictlySortedBy order) (sym (again kinds each)) sorted;
  each = recursion_from_All _ _ (All-map (λ (row : KindCount). row.trials ≡ times row.kind kinds) (row_of kinds) each (λ k d lt. refl));
  all = λ kind there. subst (λ (ks : List Kind). Contains ks kind) (sym (again kinds each)) (among kind there);
}

pub returns : goal.returns
returns c =
    let kinds : List Kind = c.args.kinds.now in
    let is = dedup_is _ _ _ c.dedup.ensures.filtered in
    let sorted : IsStrictlySortedBy order c.dedup.new.self.items = rw is (IsStrictlySortedBy-dedup total-law matches_eq-law _ c.sort_unstable.ensures.sorted) in
    let among : (kind : Kind) → Contains kinds kind → Contains c.dedup.new.self.items kind = λ kind there. rw is (Contains-dedup laws-law same _ kind (Contains-permutation _ _ kind c.sort_unstable.ensures.permutation (subst (λ (ks : List Kind). Contains ks kind) (sym c.in_ok-each.ensures.items) there))) in
    let rows = items_from_collect c.collect.result c.collect.ensures.ran (YieldsList-from_map _ (row_of kinds) (YieldsList-from_slice c.dedup.new.self.items cc) c.map.ensures.closure (λ x r q k. search (rules, tests))) in
    IfOk-weaker c.collect.result _ _ (λ rows are. subst (IsTableOf kinds) (sym are) (table kinds c.dedup.new.self.items sorted among)) rows
