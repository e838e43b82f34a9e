-- The heavy child, by its properties.
use Rattle.std.proofs.Common.{◌≡◌, ℕ, suc, zero, ◌+◌, ◌<◌, ◌≤◌, cond, List, [], ◌∷◌, ◌++◌, length, take, drop, get_or, ◌-◌, length-take, sym, ap, ◌∙◌, arith, below_more}
use Rattle.std.proofs.lemmas.Bool.Decides.{nat_tests}
use Rattle.std.proofs.lemmas.List.{get_or_default}
use Rattle.std.proofs.lemmas.List.Elements.{All-from_recursion}
use Rattle.std.specs.Prelude.{nat_le}
use Rattle.route_tree.specs.Rose.{Tree, tree_size, of_list, count}
use Rattle.route_tree.specs.Order.{heaviest}
use Rattle.route_tree.specs.Front.{IsHeavy, heavy_at, heavy_to_front, fronted_at}
use Rattle.route_tree.proofs.Heaviest.{heaviest_all}

-- the same among the first n trees, the greatest size being s
pub record IsHeavySoFar (ts : List Tree) (n i s : ℕ) : Type 0 where
  pub one : 0 < n
  pub upto : n ≤ length ts
  pub there : i < n
  pub is : (d : Tree) → s ≡ tree_size (get_or ts i d)
  pub most : (k : ℕ) (d : Tree) → k < n → tree_size (get_or ts k d) ≤ s
  pub first : (k : ℕ) (d : Tree) → k < i → tree_size (get_or ts k d) < s

pub size_at : (ts : List Tree) (i : ℕ) (d : Tree) → i < length ts → tree_size (get_or ts i d) ≤ count (of_list ts)
size_at [] i d h = absurd (omega arith)
size_at (t ∷ ts) zero d h = omega arith
size_at (t ∷ ts) (suc i) d h = let r = size_at ts i d (omega arith) in omega (arith, r)

heaviest_bound : (ts : List Tree) (s : ℕ) → ((k : ℕ) (d : Tree) → k < length ts → tree_size (get_or ts k d) ≤ s) → heaviest ts ≤ s
heaviest_bound [] s h = omega arith
heaviest_bound (t ∷ ts) s h =
    let a = h 0 t (omega arith) in
    let b = heaviest_bound ts s (λ k d lt. h (suc k) d (omega arith)) in
    omega (arith, a, b)

chosen_first : (a b c : ℕ) → a ≤ b → cond (nat_le a b) 0 c ≡ 0
chosen_first a b c h = grind (arith, nat_tests)

chosen_later : (a b c : ℕ) → b < a → cond (nat_le a b) 0 c ≡ c
chosen_later a b c h = grind (arith, nat_tests)

pub heavy_unique : (ts : List Tree) (i : ℕ) → IsHeavy ts i → heavy_at ts ≡ i
heavy_unique [] i h = absurd (let l = h.there in omega arith)
heavy_unique (t ∷ ts) zero h = chosen_first (heaviest ts) (tree_size t) (suc (heavy_at ts)) (heaviest_bound ts (tree_size t) (λ k d lt. h.most (suc k) d (omega arith)))
heavy_unique (t ∷ ts) (suc i) h =
    let l : i < length ts = (let q = h.there in omega arith) in
    let big = All-from_recursion (λ u. tree_size u ≤ heaviest ts) ts (heaviest_all ts) i t l in
    let first = h.first 0 t (omega arith) in
    chosen_later (heaviest ts) (tree_size t) (suc (heavy_at ts)) (omega (arith, big, first))
    ∙ ap suc (heavy_unique ts i (record { there = l; most = λ k d lt. h.most (suc k) d (omega arith); first = λ k d lt. h.first (suc k) d (omega arith) }))

pub size_is : (ts : List Tree) (i s : ℕ) (t : Tree) → i < length ts → t ≡ get_or ts i t → s ≡ tree_size t → (d : Tree) → s ≡ tree_size (get_or ts i d)
size_is ts i s t h e f d = f ∙ ap tree_size (e ∙ get_or_default ts i t d h)

pub next_yes : (ts : List Tree) (n i s s2 : ℕ) → IsHeavySoFar ts n i s → n < length ts → ((d : Tree) → s2 ≡ tree_size (get_or ts n d)) → s < s2 → IsHeavySoFar ts (n + 1) n s2
next_yes ts n i s s2 h lt is more = record {
  one = omega arith;
  upto = omega arith;
  there = omega arith;
  is = is;
  most = λ k d. below_more (λ k. tree_size (get_or ts k d) ≤ s2) n (λ k l. (let b = h.most k d l in omega (arith, b))) (let b = is d in omega (arith, b)) k;
  first = λ k d l. (let b = h.most k d l in omega (arith, b));
}

pub next_no : (ts : List Tree) (n i s s2 : ℕ) → IsHeavySoFar ts n i s → n < length ts → ((d : Tree) → s2 ≡ tree_size (get_or ts n d)) → s2 ≤ s → IsHeavySoFar ts (n + 1) i s
next_no ts n i s s2 h lt is more = record {
  one = omega arith;
  upto = omega arith;
  there = (let b = h.there in omega arith);
  is = h.is;
  most = λ k d. below_more (λ k. tree_size (get_or ts k d) ≤ s) n (λ k l. h.most k d l) (let b = is d in omega (arith, b)) k;
  first = h.first;
}

part_length : (h : ℕ) (ts : List Tree) → h < length ts → length (take (h + 1) ts) - 1 ≡ h
part_length h ts l = omega (arith, length-take (h + 1) ts)

pub part_front : (ts : List Tree) (h : ℕ) (now part : List Tree) → h < length ts → part ≡ take (h + 1) ts → now ≡ drop (length part - 1) part ++ take (length part - 1) part → heavy_at ts ≡ h → now ++ drop (h + 1) ts ≡ heavy_to_front ts
part_front ts h now part l e f g =
    let n : length part - 1 ≡ h = ap (λ z. length z - 1) e ∙ part_length h ts l in
    ap (λ z. z ++ drop (h + 1) ts) (f ∙ ap (λ z. drop z part ++ take z part) n ∙ ap (λ z. drop h z ++ take h z) e) ∙ ap (fronted_at ts) (sym g)
