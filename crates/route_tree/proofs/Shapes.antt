-- The shape of the trees that members give.
use Rattle.std.proofs.Common.{◌≡◌, ℕ, suc, zero, ◌+◌, ◌<◌, ◌≤◌, List, [], ◌∷◌, ◌++◌, length, take, drop, get_or, sym, subst, arith}
use Rattle.std.specs.Prelude.{Some, nat_lt}
use Rattle.std.specs.List.{AllByRecursion}
use Rattle.std.proofs.lemmas.Bool.{cond_both}
use Rattle.route_tree.specs.Rose.{Tree, tree_size, of_list, to_list, to_list-of_list}
use Rattle.route_tree.specs.Order.{insert, ascending, heaviest}
use Rattle.route_tree.specs.Front.{heavy_to_front, heavy_at, IsInOrder}
use Rattle.route_tree.specs.Growth.{is_parent, trees_on, subtrees, waiting, first_or}
use Rattle.route_tree.specs.Members.{HasBoth, AreMembers}
use Rattle.route_tree.specs.Shape.{HasPorts, widest, IsHeavyHead, IsHeavyFirst, IsOrdered, IsRouteTree}
use Rattle.route_tree.specs.declared.member.Member.{Member}
use Rattle.route_tree.proofs.EachOnce.{as_many}
use Rattle.route_tree.proofs.Orders.{front_is, in_order_front, climbs_ascending}
use Rattle.route_tree.proofs.Waiting.{closed}
use Rattle.route_tree.proofs.Heaviest.{heaviest_all, widest_bound, heavy_here, heavy_size}

-- What holds of each tree holds of each after the trees changed places.
module _ (P : Tree → Type 0) where
  each_append : (xs ys : List Tree) → AllByRecursion P xs → AllByRecursion P ys → AllByRecursion P (xs ++ ys)
  each_append [] ys h k = k
  each_append (x ∷ xs) ys h k = (h.0, each_append xs ys h.1 k)

  each_take : (n : ℕ) (xs : List Tree) → AllByRecursion P xs → AllByRecursion P (take n xs)
  each_take zero xs h = tt
  each_take (suc n) [] h = tt
  each_take (suc n) (x ∷ xs) h = (h.0, each_take n xs h.1)

  each_drop : (n : ℕ) (xs : List Tree) → AllByRecursion P xs → AllByRecursion P (drop n xs)
  each_drop zero xs h = h
  each_drop (suc n) [] h = tt
  each_drop (suc n) (x ∷ xs) h = each_drop n xs h.1

  each_front : (ts : List Tree) → AllByRecursion P ts → AllByRecursion P (heavy_to_front ts)
  each_front ts h =
      let i = heavy_at ts in
      let part = take (i + 1) ts in
      let p = each_take (i + 1) ts h in
      each_append (drop i part ++ take i part) (drop (i + 1) ts)
      (each_append (drop i part) (take i part) (each_drop i part p) (each_take i part p)) (each_drop (i + 1) ts h)

  each_insert : (t : Tree) (us : List Tree) → P t → AllByRecursion P us → AllByRecursion P (insert t us)
  each_insert t [] h k = (h, k)
  each_insert t (u ∷ us) h k = cond_both (nat_lt t.node u.node) (t ∷ u ∷ us) (u ∷ insert t us) (AllByRecursion P) (λ _. (h, k)) (λ _. (k.0, each_insert t us h k.1))

  each_ascending : (ts : List Tree) → AllByRecursion P ts → AllByRecursion P (ascending ts)
  each_ascending [] h = tt
  each_ascending (t ∷ ts) h = each_insert t (ascending ts) h.0 (each_ascending ts h.1)

  each_on : (n : ℕ) (ms : List Member) (ts : List Tree) → AllByRecursion P ts → AllByRecursion P (trees_on n ms ts)
  each_on n [] ts h = tt
  each_on n (m ∷ ms) [] h = tt
  each_on n (m ∷ ms) (t ∷ ts) h = cond_both (is_parent n m.parent) (t ∷ trees_on n ms ts) (trees_on n ms ts) (AllByRecursion P) (λ _. (h.0, each_on n ms ts h.1)) (λ _. each_on n ms ts h.1)

  each_below : (n : ℕ) (ms : List Member) → AllByRecursion P (subtrees ms) → AllByRecursion P (heavy_to_front (waiting n ms))
  each_below n ms h = each_front (waiting n ms) (each_ascending (trees_on n ms (subtrees ms)) (each_on n ms (subtrees ms) h))

  -- and of each member's tree, where it follows from what holds below the member
  each_grown : ((m : Member) (ms : List Member) → AllByRecursion P (heavy_to_front (waiting m.node ms)) → P (closed m ms)) → (ms : List Member) → AllByRecursion P (subtrees ms)
  each_grown own [] = tt
  each_grown own (m ∷ ms) = (let r = each_grown own ms in (own m ms (each_below m.node ms r), r))

abbrev IsPorted : Tree → Type 0
IsPorted t = ((a : ℕ) × (t.up ≡ Some a)) × (((b : ℕ) × (t.down ≡ Some b)) × HasPorts t.below)

ports_of : (ts : List Tree) → AllByRecursion IsPorted ts → HasPorts (of_list ts)
ports_of [] h = tt
ports_of (t ∷ ts) h = (h.0.0, (h.0.1.0, (h.0.1.1, ports_of ts h.1)))

ported : (ms : List Member) → AllByRecursion HasBoth ms → AllByRecursion IsPorted (subtrees ms)
ported [] h = tt
ported (m ∷ ms) h =
    let r = ported ms h.1 in
    ((h.0.up, (h.0.down, ports_of (heavy_to_front (waiting m.node ms)) (each_below IsPorted m.node ms r))), r)

pub ports_below : (n : ℕ) (ms : List Member) → AllByRecursion HasBoth ms → HasPorts (of_list (heavy_to_front (waiting n ms)))
ports_below n ms h = ports_of (heavy_to_front (waiting n ms)) (each_below IsPorted n ms (ported ms h))

-- the heavy one in front
pub front_heavy : (ts : List Tree) → IsHeavyHead (of_list (heavy_to_front ts))
front_heavy [] = tt
front_heavy (t ∷ ts) =
    let us = t ∷ ts in
    let front = front_is us t (heavy_here t ts) in
    let rest = take (heavy_at us) us ++ drop (suc (heavy_at us)) us in
    let all = subst (AllByRecursion (λ u. tree_size u ≤ heaviest us)) front (each_front (λ u. tree_size u ≤ heaviest us) us (heaviest_all us)) in
    let most = widest_bound (heaviest us) rest all.1 in
    let size = heavy_size t ts t in
    let head : widest (of_list rest) ≤ tree_size (get_or us (heavy_at us) t) = omega (arith, most, size) in
    subst (λ z. IsHeavyHead (of_list z)) (sym front) head

abbrev IsHeavy : Tree → Type 0
IsHeavy t = IsHeavyHead t.below × IsHeavyFirst t.below

heavy_of : (ts : List Tree) → AllByRecursion IsHeavy ts → IsHeavyFirst (of_list ts)
heavy_of [] h = tt
heavy_of (t ∷ ts) h = (h.0.0, (h.0.1, heavy_of ts h.1))

heavy_each : (ms : List Member) → AllByRecursion IsHeavy (subtrees ms)
heavy_each = each_grown IsHeavy (λ m ms r. (front_heavy (waiting m.node ms), heavy_of (heavy_to_front (waiting m.node ms)) r))

pub heavy_below : (n : ℕ) (ms : List Member) → IsHeavyFirst (of_list (heavy_to_front (waiting n ms)))
heavy_below n ms = heavy_of (heavy_to_front (waiting n ms)) (each_below IsHeavy n ms (heavy_each ms))

abbrev HasOrder : Tree → Type 0
HasOrder t = IsInOrder (to_list t.below) × IsOrdered t.below

ordered_of : (ts : List Tree) → AllByRecursion HasOrder ts → IsOrdered (of_list ts)
ordered_of [] h = tt
ordered_of (t ∷ ts) h = (h.0.0, (h.0.1, ordered_of ts h.1))

order_of : (n : ℕ) (ms : List Member) → IsInOrder (to_list (of_list (heavy_to_front (waiting n ms))))
order_of n ms = subst IsInOrder (sym (to_list-of_list (heavy_to_front (waiting n ms)))) (in_order_front (waiting n ms) (climbs_ascending (trees_on n ms (subtrees ms))))

ordered_each : (ms : List Member) → AllByRecursion HasOrder (subtrees ms)
ordered_each = each_grown HasOrder (λ m ms r. (order_of m.node ms, ordered_of (heavy_to_front (waiting m.node ms)) r))

pub both_from : (ms : List Member) → ((k : ℕ) (d : Member) → k < length ms → HasBoth (get_or ms k d)) → AllByRecursion HasBoth ms
both_from [] h = tt
both_from (m ∷ ms) h = (h 0 m (omega arith), both_from ms (λ k d l. h (suc k) d (omega arith)))

-- the members' tree has the shape of a route tree
pub shape : (ms : List Member) (d : Tree) → AreMembers ms → IsRouteTree (first_or d (subtrees ms))
shape [] d a = absurd (let l = a.some in omega arith)
shape (m ∷ ms) d a = record {
  up = (a.root m).up;
  down = (a.root m).down;
  ports = ports_below m.node ms (both_from ms (λ k e l. a.ports (suc k) e (omega arith) (omega arith)));
  order = order_of m.node ms;
  ordered = ordered_of (heavy_to_front (waiting m.node ms)) (each_below HasOrder m.node ms (ordered_each ms));
  heavy = front_heavy (waiting m.node ms);
  heavy_below = heavy_below m.node ms;
  few = (let n = as_many (m ∷ ms) d a in omega (arith, n, a.few));
}
