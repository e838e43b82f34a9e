-- What the lines of a member's children are: each is of a child, with the number that is ahead by the members before it.
use Rattle.std.proofs.Common.{◌≡◌, ◌≢◌, ℕ, zero, suc, ◌+◌, ◌<◌, Bool, true, false, inl, inr, List, [], ◌∷◌, ◌++◌, length, take, drop, get_or, refl, sym, subst, ap, arith, length-take-le}
use Rattle.std.proofs.lemmas.Bool.{cases_order}
use Rattle.route_tree.specs.Rose.{Tree, tree_size, of_list, count}
use Rattle.route_tree.specs.Front.{heavy_at, heavy_to_front}
use Rattle.route_tree.proofs.Heaviest.{heavy_here, heavy_size}
use Rattle.route_tree.proofs.Orders.{front_is}
use Rattle.heavy_labels.specs.Numbering.{lights_at}
use Rattle.heavy_labels.specs.Numbered.{Brief, IsListed, briefs, tree_briefs}
use Rattle.heavy_labels.specs.ByNode.{no_tree}
use Rattle.heavy_labels.specs.HeavyKids.{IsAhead}
use Rattle.heavy_labels.proofs.OneOf.{in_append}

-- where the trees us but for that at i stand one behind the other from f on, b is of the tree at `at`, which has this number
record Light (us : List Tree) (i f : ℕ) (ls : List ℕ) (b : Brief) : Type 0 where
  at : ℕ
  there : at < length us
  other : at ≢ i
  number : ℕ
  before : at < i → number ≡ f + count (of_list (take at us))
  behind : i < at → number + tree_size (get_or us i no_tree) ≡ f + count (of_list (take at us))
  listed : IsListed b (tree_briefs (get_or us at no_tree) number (lights_at false ls (get_or us at no_tree).down))

none_left_out : (us : List Tree) → take (length us) us ++ drop (suc (length us)) us ≡ us
none_left_out [] = refl
none_left_out (t ∷ ts) = ap (λ z. t ∷ z) (none_left_out ts)

light : (us : List Tree) (i f : ℕ) (ls : List ℕ) (b : Brief) → IsListed b (briefs (of_list (take i us ++ drop (suc i) us)) false f ls) → Light us i f ls b
light [] zero f ls b h = absurd h
light [] (suc i) f ls b h = absurd h
light (t ∷ ts) zero f ls b h =
    let r = light ts (length ts) f ls b (subst (λ z. IsListed b (briefs (of_list z) false f ls)) (sym (none_left_out ts)) h) in
    let n = r.before r.there in
    record { at = suc r.at; there = omega (arith, r.there); other = λ e. absurd (omega (arith, e)); number = r.number; before = λ w. absurd (omega (arith, w)); behind = λ _. omega (arith, n); listed = r.listed }
light (t ∷ ts) (suc i) f ls b h = elim (in_append b (tree_briefs t f (lights_at false ls t.down)) (briefs (of_list (take i ts ++ drop (suc i) ts)) false (f + 1 + count t.below) ls) h) [
  | inl k ↦ record { at = 0; there = omega arith; other = λ e. absurd (omega (arith, e)); number = f; before = λ _. omega arith; behind = λ w. absurd (omega (arith, w)); listed = k }
  | inr k ↦ (
      let r = light ts i (f + 1 + count t.below) ls b k in
      record {
        at = suc r.at;
        there = omega (arith, r.there);
        other = λ e. r.other (omega (arith, e));
        number = r.number;
        before = λ w. (let n = r.before (omega (arith, w)) in omega (arith, n));
        behind = λ w. (let n = r.behind (omega (arith, w)) in omega (arith, n));
        listed = r.listed;
      })
]

-- b is of the child at `at` of a member with the number f and the light ports ls, whose children are us in the order of nodes
pub record Kid (us : List Tree) (f : ℕ) (ls : List ℕ) (b : Brief) : Type 0 where
  pub at : ℕ
  pub there : at < length us
  pub number : ℕ
  pub ahead : (v : ℕ) → IsAhead us (take at us) v → number ≡ f + v
  pub flag : Bool
  pub heavy : flag ≡ true → at ≡ heavy_at us
  pub light : flag ≡ false → at ≢ heavy_at us
  pub listed : IsListed b (tree_briefs (get_or us at no_tree) number (lights_at flag ls (get_or us at no_tree).down))

pub kid_listed : (us : List Tree) (f : ℕ) (ls : List ℕ) (b : Brief) → IsListed b (briefs (of_list (heavy_to_front us)) true (f + 1) ls) → Kid us f ls b
kid_listed [] f ls b h = absurd h
kid_listed (t ∷ ts) f ls b h =
    let us = t ∷ ts in
    let i = heavy_at us in
    let there = heavy_here t ts in
    let g = get_or us i no_tree in
    let size = heavy_size t ts no_tree in
    elim (in_append b (tree_briefs g (f + 1) ls) (briefs (of_list (take i us ++ drop (suc i) us)) false (f + 1 + 1 + count g.below) ls) (subst (λ z. IsListed b (briefs (of_list z) true (f + 1) ls)) (front_is us no_tree there) h)) [
      | inl k ↦ (
          let n = length-take-le i us (omega (arith, there)) in
          record { at = i; there = there; number = f + 1; ahead = λ v a. (let m = a.heavy n in omega (arith, m)); flag = true; heavy = λ _. refl; light = λ e. absurd cc; listed = k })
      | inr k ↦ (
          let r = light us i (f + 1 + 1 + count g.below) ls b k in
          let n = length-take-le r.at us (omega (arith, r.there)) in
          record {
            at = r.at;
            there = r.there;
            number = r.number;
            ahead = λ v a. elim (cases_order r.at i) [
              | inl e ↦ absurd (r.other e)
              | inr (inl w) ↦ (let c = r.before w in let m = a.before (omega (arith, n, w)) in omega (arith, c, m, size))
              | inr (inr w) ↦ (let c = r.behind w in let m = a.behind (omega (arith, n, w)) in omega (arith, c, m, size))
            ];
            flag = false;
            heavy = λ e. cc;
            light = λ _. r.other;
            listed = r.listed;
          })
    ]
