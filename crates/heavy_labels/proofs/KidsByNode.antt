-- Children in the order of nodes.
use Rattle.std.proofs.Common.{◌≡◌, ℕ, zero, suc, ◌<◌, true, inl, inr, List, [], ◌∷◌, length, get_or, refl, sym, subst, arith}
use Rattle.std.specs.Prelude.{◌↔◌}
use Rattle.std.proofs.lemmas.Bool.{cases_Bool}
use Rattle.route_tree.specs.Rose.{Tree}
use Rattle.route_tree.specs.Growth.{is_parent, trees_on, subtrees, waiting, IsEachOnce}
use Rattle.route_tree.specs.Slots.{hanging}
use Rattle.route_tree.specs.declared.member.Member.{Member}
use Rattle.route_tree.proofs.Ascending.{Has, Above, Rising, rising_same, rising_ascending, differ_of, has_ascending, ascending_has}
use Rattle.route_tree.proofs.Waiting.{hanging_once, hanging_sorted}
use Rattle.heavy_labels.specs.ByNode.{nobody, no_tree, kids_of, IsAmong, AreAbove, AscendByNode}

pub root_node : (ms : List Member) (i : ℕ) → (get_or (subtrees ms) i no_tree).node ≡ (get_or ms i nobody).node
root_node [] i = refl
root_node (m ∷ ms) zero = refl
root_node (m ∷ ms) (suc i) = root_node ms i

above_kids : (ms : List Member) (n x : ℕ) (is : List ℕ) → AreAbove ms x is → Above x (kids_of ms n is)
above_kids ms n x [] a = tt
above_kids ms n x (i ∷ is) a = elim (cases_Bool (is_parent n (get_or ms i nobody).parent)) [
  | inl e ↦ rw e (subst (λ z. x < z) (sym (root_node ms i)) a.0, above_kids ms n x is a.1)
  | inr e ↦ rw e (above_kids ms n x is a.1)
]

rising_kids : (ms : List Member) (n : ℕ) (is : List ℕ) → AscendByNode ms is → Rising (kids_of ms n is)
rising_kids ms n [] a = tt
rising_kids ms n (i ∷ is) a = elim (cases_Bool (is_parent n (get_or ms i nobody).parent)) [
  | inl e ↦ rw e (subst (λ z. Above z (kids_of ms n is)) (sym (root_node ms i)) (above_kids ms n (get_or ms i nobody).node is a.0), rising_kids ms n is a.1)
  | inr e ↦ rw e (rising_kids ms n is a.1)
]

-- a child at a place
abbrev IsKidAt : List Member → ℕ → Tree → ℕ → Type 0
IsKidAt ms n t i = (is_parent n (get_or ms i nobody).parent ≡ true) × (t ≡ get_or (subtrees ms) i no_tree)

kid_found : (ms : List Member) (n : ℕ) (t : Tree) (is : List ℕ) → Has t (kids_of ms n is) → (i : ℕ) × (IsAmong i is × IsKidAt ms n t i)
kid_found ms n t [] h = absurd h
kid_found ms n t (i ∷ is) h = elim (cases_Bool (is_parent n (get_or ms i nobody).parent)) [
  | inl e ↦ elim (rw e at h) [ inl q ↦ (i, (inl refl, (e, q))) | inr k ↦ (let r = kid_found ms n t is k in (r.0, (inr r.1.0, r.1.1))) ]
  | inr e ↦ (let r = kid_found ms n t is (rw e at h) in (r.0, (inr r.1.0, r.1.1)))
]

kid_there : (ms : List Member) (n : ℕ) (t : Tree) (is : List ℕ) (i : ℕ) → IsAmong i is → IsKidAt ms n t i → Has t (kids_of ms n is)
kid_there ms n t [] i a k = absurd a
kid_there ms n t (j ∷ is) i (inl q) k = (let here = subst (IsKidAt ms n t) q k in rw here.0 (inl here.1))
kid_there ms n t (j ∷ is) i (inr a) k = elim (cases_Bool (is_parent n (get_or ms j nobody).parent)) [ inl e ↦ rw e (inr (kid_there ms n t is i a k)) | inr e ↦ rw e (kid_there ms n t is i a k) ]

tree_found : (n : ℕ) (ms : List Member) (t : Tree) → Has t (trees_on n ms (subtrees ms)) → (i : ℕ) × ((i < length ms) × IsKidAt ms n t i)
tree_found n [] t h = absurd h
tree_found n (m ∷ ms) t h = elim (cases_Bool (is_parent n m.parent)) [
  | inl e ↦ elim (rw e at h) [ inl q ↦ (0, (omega arith, (e, q))) | inr k ↦ (let r = tree_found n ms t k in (suc r.0, (let l = r.1.0 in omega (arith, l), r.1.1))) ]
  | inr e ↦ (let r = tree_found n ms t (rw e at h) in (suc r.0, (let l = r.1.0 in omega (arith, l), r.1.1)))
]

tree_there : (n : ℕ) (ms : List Member) (t : Tree) (i : ℕ) → i < length ms → IsKidAt ms n t i → Has t (trees_on n ms (subtrees ms))
tree_there n [] t i l k = absurd (omega (arith, l))
tree_there n (m ∷ ms) t zero l k = rw k.0 (inl k.1)
tree_there n (m ∷ ms) t (suc i) l k = elim (cases_Bool (is_parent n m.parent)) [ inl e ↦ rw e (inr (tree_there n ms t i (omega (arith, l)) k)) | inr e ↦ rw e (tree_there n ms t i (omega (arith, l)) k) ]

-- where all members are taken in the order of their nodes, the children of each come in that order
pub kids_ascend : (ms : List Member) (is : List ℕ) (n : ℕ) → IsEachOnce ms → AscendByNode ms is → ((i : ℕ) → IsAmong i is ↔ (i < length ms)) → kids_of ms n is ≡ waiting n ms
kids_ascend ms is n o a among =
    rising_same (kids_of ms n is) (waiting n ms) (rising_kids ms n is a) (subst Rising (hanging_sorted n ms o) (rising_ascending (hanging n ms) (differ_of (hanging n ms) (hanging_once n ms o))))
    (λ t h. (let k = kid_found ms n t is h in has_ascending (trees_on n ms (subtrees ms)) t (tree_there n ms t k.0 ((among k.0).0 k.1.0) k.1.1)))
    (λ t h. (let k = tree_found n ms t (ascending_has (trees_on n ms (subtrees ms)) t h) in kid_there ms n t is k.0 ((among k.0).1 k.1.0) k.1.1))
