-- The children of a member stand behind it.
use Rattle.std.proofs.Common.{◌≡◌, ◌≢◌, ℕ, zero, suc, ◌+◌, ◌<◌, false, List, [], ◌∷◌, length, drop, get_or, refl, sym, ap, ◌∙◌, arith, add-one}
use Rattle.std.specs.Prelude.{Some, max, slice_index}
use Rattle.route_tree.specs.Rose.{tree_size}
use Rattle.route_tree.specs.Order.{ascending}
use Rattle.route_tree.specs.Growth.{is_parent, trees_on, subtrees, waiting}
use Rattle.route_tree.specs.Members.{AreMembers}
use Rattle.route_tree.specs.declared.member.Member.{Member}
use Rattle.route_tree.proofs.Waiting.{closed, parent_no, some_same, clash, once_drop}
use Rattle.heavy_labels.specs.ByNode.{nobody, tree_of}
use Rattle.heavy_labels.specs.Sizes.{load, AreSizes}
use Rattle.heavy_labels.proofs.SizeSteps.{closed_load}

-- what hangs on a node is behind the members that don't
past : (n j : ℕ) (ms : List Member) → ((i : ℕ) → i < j → i < length ms → is_parent n (get_or ms i nobody).parent ≡ false) → trees_on n ms (subtrees ms) ≡ trees_on n (drop j ms) (subtrees (drop j ms))
past n zero ms h = refl
past n (suc j) [] h = refl
past n (suc j) (m ∷ ms) h = rw (h 0 (omega arith) (omega arith)) (past n j ms (λ i l k. h (suc i) (omega (arith, l)) (omega (arith, k))))

not_before : (ms : List Member) (k i : ℕ) → AreMembers ms → k < length ms → i < k + 1 → i < length ms → (get_or ms i nobody).parent ≢ Some (get_or ms k nobody).node
not_before ms k zero a lk l li e = clash (sym (a.root nobody).parent ∙ e)
not_before ms k (suc i) a lk l li e =
    let p = a.parents (suc i) nobody (omega arith) li in
    let b = p.1.0 in
    let same = a.once p.0 k nobody nobody (omega (arith, b, li)) lk (some_same (sym (p.1.1 nobody) ∙ e)) in
    absurd (omega (arith, same, b, l))

subtree_from : (ms : List Member) (k : ℕ) → k < length ms → tree_of ms k ≡ closed (get_or ms k nobody) (drop (suc k) ms)
subtree_from [] k l = absurd (omega (arith, l))
subtree_from (m ∷ ms) zero l = refl
subtree_from (m ∷ ms) (suc k) l = subtree_from ms k (omega (arith, l))

pub subtree_at : (ms : List Member) (k : ℕ) → k < length ms → tree_of ms k ≡ closed (get_or ms k nobody) (drop (k + 1) ms)
subtree_at ms k l = subtree_from ms k l ∙ ap (λ z. closed (get_or ms k nobody) (drop z ms)) (sym (add-one k))

-- all that waits for a member stands behind it
pub waits_behind : (ms : List Member) (k : ℕ) → AreMembers ms → k < length ms → waiting (get_or ms k nobody).node ms ≡ waiting (get_or ms k nobody).node (drop (k + 1) ms)
waits_behind ms k a l = ap ascending (past (get_or ms k nobody).node (k + 1) ms (λ i j li. parent_no _ _ (not_before ms k i a l j li)))

-- a member's number is its tree's size
pub size_at : (ms : List Member) (sizes : List ℕ) (k : ℕ) → AreMembers ms → AreSizes ms 1 sizes → k < length ms → slice_index sizes k ≡ tree_size (tree_of ms k)
size_at ms sizes k a h l =
    let top : max 1 (k + 1) ≡ k + 1 = omega arith in
    h k nobody l ∙ ap (λ z. 1 + load (get_or ms k nobody).node (drop z ms)) top
    ∙ sym (ap tree_size (subtree_at ms k l) ∙ closed_load (get_or ms k nobody) (drop (k + 1) ms) (once_drop (k + 1) ms a.once))
