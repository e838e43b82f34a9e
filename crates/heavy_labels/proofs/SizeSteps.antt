-- One member more is counted into its parent's size.
use Rattle.std.proofs.Common.{◌≡◌, ◌≢◌, ℕ, ◌+◌, ◌<◌, ◌≤◌, true, false, inl, inr, List, [], ◌∷◌, ◌++◌, length, drop, get_or, set, refl, sym, ap, subst, ◌∙◌, arith, below_more}
use Rattle.std.specs.Prelude.{Some, slice_index, max}
use Rattle.std.proofs.lemmas.Bool.{cases_eq, cases_lt}
use Rattle.std.proofs.lemmas.Grind.{reverse_onto}
use Rattle.std.proofs.lemmas.List.{drop_more, length_push, get_or_push, get_or_append_left, get_or-set_same, get_or-set_other}
use Rattle.route_tree.specs.Rose.{tree_size, of_list, count}
use Rattle.route_tree.specs.Growth.{is_parent, trees_on, subtrees, waiting, IsEachOnce}
use Rattle.route_tree.specs.Slots.{hanging, StandsAt}
use Rattle.route_tree.specs.declared.member.Member.{Member}
use Rattle.route_tree.proofs.Counting.{count_append, count_front, count_ascending, hanging_fits}
use Rattle.route_tree.proofs.Waiting.{closed, parent_yes, parent_no, some_same, once_drop, hanging_sorted}
use Rattle.heavy_labels.specs.Sizes.{load, AreParentsTo, AreSizes}

-- the root comes first, and each member's parent before it
pub parents_first : (ms : List Member) (v : ℕ) → AreParentsTo ms 1 (v ∷ [])
parents_first ms v = record { length_is = refl; each = λ k d l h. absurd (omega (arith, l, h)) }

pub parents_more : (ms : List Member) (i v : ℕ) (above : List ℕ) → AreParentsTo ms i above → ((d : Member) → StandsAt ms i (get_or ms i d).parent v) → AreParentsTo ms (i + 1) (above ++ v ∷ [])
parents_more ms i v above h s = record {
  length_is = (let n = length_push above v in let k = h.length_is in omega (arith, n, k));
  each = λ k d l m. below_more (λ j. 0 < j → StandsAt ms j (get_or ms j d).parent (slice_index (above ++ v ∷ []) j)) i
      (λ j w p. subst (StandsAt ms j (get_or ms j d).parent) (sym (get_or_append_left above (v ∷ []) 0 j (let n = h.length_is in omega (arith, n, w)))) (h.each j d p w))
      (λ _. subst (StandsAt ms i (get_or ms i d).parent) (sym (get_or_push above v 0 i h.length_is)) (s d)) k m l;
}

load_yes : (n : ℕ) (m : Member) (rest : List Member) → is_parent n m.parent ≡ true → load n (m ∷ rest) ≡ load n rest + tree_size (closed m rest)
load_yes n m rest e =
    let is : hanging n (m ∷ rest) ≡ hanging n rest ++ closed m rest ∷ [] = rw e (reverse_onto (trees_on n rest (subtrees rest)) (closed m rest) []) in
    let a = ap (λ z. count (of_list z)) is in
    let b = count_append (hanging n rest) (closed m rest ∷ []) in
    omega (arith, a, b)

load_no : (n : ℕ) (m : Member) (rest : List Member) → is_parent n m.parent ≡ false → load n (m ∷ rest) ≡ load n rest
load_no n m rest e = rw e refl

pub closed_load : (m : Member) (rest : List Member) → IsEachOnce rest → tree_size (closed m rest) ≡ 1 + load m.node rest
closed_load m rest o =
    let a = count_front (waiting m.node rest) in
    let b = ap (λ z. count (of_list z)) (hanging_sorted m.node rest o) in
    let c = count_ascending (hanging m.node rest) in
    omega (arith, a, b, c)

-- what the number of a member before `at` is without the member there
sum_other : (ms : List Member) (at p k : ℕ) (d : Member) → at < length ms → IsEachOnce ms → StandsAt ms at (get_or ms at d).parent p → k < at → p ≢ k
    → load (get_or ms k d).node (drop at ms) ≡ load (get_or ms k d).node (drop (at + 1) ms)
sum_other ms at p k d l o s lt ne =
    let differ : (get_or ms at d).parent ≢ Some (get_or ms k d).node = λ e. ne (o p k d d (let b = s.before in omega arith) (omega arith) (some_same (sym (s.is d) ∙ e))) in
    ap (load (get_or ms k d).node) (drop_more ms at d l) ∙ load_no (get_or ms k d).node (get_or ms at d) (drop (at + 1) ms) (parent_no _ _ differ)

-- the sum is the size of the parent and of what is counted into it
sum_is : (ms : List Member) (at p : ℕ) (old : List ℕ) (d : Member) → at < length ms → IsEachOnce ms → StandsAt ms at (get_or ms at d).parent p
    → AreSizes ms (at + 1) old → slice_index old p + slice_index old at ≡ 1 + load (get_or ms p d).node (drop at ms)
sum_is ms at p old d l o s h =
    let b = s.before in
    let top : max (at + 1) (p + 1) ≡ at + 1 = omega (arith, b) in
    let own : max (at + 1) (at + 1) ≡ at + 1 = omega arith in
    let hp = h p d (omega (arith, b)) ∙ ap (λ z. 1 + load (get_or ms p d).node (drop z ms)) top in
    let ha = h at d l ∙ ap (λ z. 1 + load (get_or ms at d).node (drop z ms)) own in
    let here = ap (load (get_or ms p d).node) (drop_more ms at d l) in
    let yes = load_yes (get_or ms p d).node (get_or ms at d) (drop (at + 1) ms) (parent_yes _ _ (s.is d)) in
    let size = closed_load (get_or ms at d) (drop (at + 1) ms) (once_drop (at + 1) ms o) in
    omega (arith, hp, ha, here, yes, size)

pub sum_fits : (ms : List Member) (at p : ℕ) (old : List ℕ) (d : Member) → at < length ms → IsEachOnce ms → StandsAt ms at (get_or ms at d).parent p
    → AreSizes ms (at + 1) old → slice_index old p + slice_index old at ≤ 1 + length ms
sum_fits ms at p old d l o s h = (let e = sum_is ms at p old d l o s h in let f = hanging_fits ms p at d o s.before in omega (arith, e, f))

pub sizes_step : (ms : List Member) (at p : ℕ) (old : List ℕ) → at < length ms → IsEachOnce ms → ((d : Member) → StandsAt ms at (get_or ms at d).parent p) → length old ≡ length ms
    → AreSizes ms (at + 1) old → AreSizes ms at (set old p (slice_index old p + slice_index old at))
sizes_step ms at p old l o s n h k d lk =
    let v = slice_index old p + slice_index old at in
    let b = (s d).before in
    elim (cases_eq p k) [
      | inl q ↦ (
          let low : max at (p + 1) ≡ at = omega (arith, b) in
          subst (λ z. slice_index (set old p v) z ≡ 1 + load (get_or ms z d).node (drop (max at (z + 1)) ms)) q
          (get_or-set_same old p v 0 (omega (arith, b, n, l)) ∙ sum_is ms at p old d l o (s d) h ∙ ap (λ z. 1 + load (get_or ms p d).node (drop z ms)) (sym low)))
      | inr ne ↦ get_or-set_other old p k v 0 (λ q. ne (sym q)) ∙ h k d lk ∙ elim (cases_lt k at) [
        | inl lt ↦ (
            let top : max (at + 1) (k + 1) ≡ at + 1 = omega (arith, lt) in
            let low : max at (k + 1) ≡ at = omega (arith, lt) in
            ap (λ z. 1 + load (get_or ms k d).node (drop z ms)) top ∙ ap (λ z. 1 + z) (sym (sum_other ms at p k d l o (s d) lt ne)) ∙ ap (λ z. 1 + load (get_or ms k d).node (drop z ms)) (sym low))
        | inr le ↦ (let same : max (at + 1) (k + 1) ≡ max at (k + 1) = omega (arith, le) in ap (λ z. 1 + load (get_or ms k d).node (drop z ms)) same)
      ]
    ]
