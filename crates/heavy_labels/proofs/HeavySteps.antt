-- One member more is met: which child of each member is the heavy one so far.
use Rattle.std.proofs.Common.{◌≡◌, ◌≢◌, ℕ, ◌+◌, ◌<◌, ◌≤◌, true, false, inl, inr, List, [], ◌∷◌, ◌++◌, length, take, get_or, set, refl, sym, ap, subst, ◌∙◌, arith, length-set}
use Rattle.std.specs.Prelude.{slice_index}
use Rattle.std.proofs.lemmas.Bool.{cases_eq, ne_eqb}
use Rattle.std.proofs.lemmas.List.{get_or_append_left, get_or_push, get_or-take, get_or-set_same, get_or-set_other, length-take, take_at, take-append-le, take_more, length_push}
use Rattle.route_tree.specs.Rose.{Tree, tree_size}
use Rattle.route_tree.specs.Order.{heaviest}
use Rattle.route_tree.specs.Front.{heavy_at}
use Rattle.route_tree.specs.Growth.{is_parent}
use Rattle.route_tree.specs.Members.{AreMembers}
use Rattle.route_tree.specs.Slots.{StandsAt}
use Rattle.route_tree.specs.declared.member.Member.{Member}
use Rattle.heavy_labels.specs.ByNode.{nobody, no_tree, node_at, tree_of, kids_of}
use Rattle.heavy_labels.specs.Sizes.{AreSizes, size_or_none}
use Rattle.heavy_labels.specs.Measured.{AreMeasured}
use Rattle.heavy_labels.specs.HeavyKids.{IsHeavyKid, IsHeavyOf, AreHeavy}
use Rattle.heavy_labels.proofs.BehindThem.{size_at}
use Rattle.heavy_labels.proofs.OneMore.{heavy_taken, heavy_kept}
use Rattle.heavy_labels.proofs.KidSteps.{place_inside, push_yes, push_no, kid_at, kid_there, kid_not_root, root_no, child_yes, child_no, heavy_is}

-- all places are inside
abbrev AreInside : List Member → List ℕ → Type 0
AreInside ms met = (j : ℕ) → j < length met → slice_index met j < length ms

pub none_size : (sizes : List ℕ) (h : ℕ) → h ≡ 0 → size_or_none sizes h ≡ 0
none_size sizes h e = rw e refl

pub some_size : (sizes : List ℕ) (h : ℕ) → h ≢ 0 → size_or_none sizes h ≡ slice_index sizes h
some_size sizes h n = rw (ne_eqb h 0 n) refl

-- the heavy one among those that were met
module _ (ms : List Member) (n : ℕ) (met : List ℕ) (h : ℕ) (r : IsHeavyKid ms n met h) where
  pub heavy_yes : is_parent n (get_or ms (slice_index met r.at) nobody).parent ≡ true
  heavy_yes = subst (λ z. is_parent n (get_or ms z nobody).parent ≡ true) (sym r.is) r.kid

  pub heavy_met : heavy_at (kids_of ms n met) < length (kids_of ms n met)
  heavy_met = subst (λ z. z < length (kids_of ms n met)) r.before (kid_there ms n met r.at r.there heavy_yes)

  pub heavy_tree : (d : Tree) → get_or (kids_of ms n met) (heavy_at (kids_of ms n met)) d ≡ tree_of ms h
  heavy_tree d = ap (λ z. get_or (kids_of ms n met) z d) (sym r.before) ∙ kid_at ms n met r.at d r.there heavy_yes ∙ ap (tree_of ms) r.is

-- its place
pub heavy_inside : (ms : List Member) (met : List ℕ) (n h : ℕ) → AreMembers ms → AreInside ms met → IsHeavyOf ms n met h → h < length ms
heavy_inside ms met n h a i (inl q) = (let e = q.1 in let s = a.some in omega (arith, e, s))
heavy_inside ms met n h a i (inr r) = (let b = i r.at r.there in let q = r.is in omega (arith, b, q))

-- its number tells the greatest size
pub met_size : (ms : List Member) (met sizes : List ℕ) (n h : ℕ) → AreMembers ms → AreSizes ms 1 sizes → AreInside ms met → IsHeavyOf ms n met h → size_or_none sizes h ≡ heaviest (kids_of ms n met)
met_size ms met sizes n h a s i (inl e) = none_size sizes h e.1 ∙ sym (ap heaviest e.0)
met_size ms met sizes n h a s i (inr r) =
    let long = heavy_met ms n met h r in
    some_size sizes h (kid_not_root ms n h a r.kid) ∙ size_at ms sizes h a s (heavy_inside ms met n h a i (inr r))
    ∙ ap tree_size (sym (heavy_tree ms n met h r no_tree)) ∙ heavy_is (kids_of ms n met) no_tree (omega (arith, long))

-- the heavy one stays where it is
stays : (ms : List Member) (n : ℕ) (met : List ℕ) (x h : ℕ) → heavy_at (kids_of ms n (met ++ x ∷ [])) ≡ heavy_at (kids_of ms n met) → IsHeavyKid ms n met h → IsHeavyKid ms n (met ++ x ∷ []) h
stays ms n met x h e r = record {
  at = r.at;
  there = (let l = length_push met x in let t = r.there in omega (arith, l, t));
  is = get_or_append_left met (x ∷ []) 0 r.at r.there ∙ r.is;
  kid = r.kid;
  before = ap (λ z. length (kids_of ms n z)) (take-append-le r.at met (x ∷ []) (let t = r.there in omega (arith, t))) ∙ r.before ∙ sym e;
}

-- what comes is nobody's child here
other_heavy : (ms : List Member) (n : ℕ) (met : List ℕ) (x h : ℕ) → is_parent n (get_or ms x nobody).parent ≡ false → IsHeavyOf ms n met h → IsHeavyOf ms n (met ++ x ∷ []) h
other_heavy ms n met x h e (inl q) = inl (push_no ms n met x e ∙ q.0, q.1)
other_heavy ms n met x h e (inr r) = inr (stays ms n met x h (ap heavy_at (push_no ms n met x e)) r)

-- it is the heavy one
new_heavy : (ms : List Member) (n : ℕ) (met : List ℕ) (x : ℕ) → is_parent n (get_or ms x nobody).parent ≡ true → heaviest (kids_of ms n met) < tree_size (tree_of ms x) → IsHeavyOf ms n (met ++ x ∷ []) x
new_heavy ms n met x e l = inr (record {
  at = length met;
  there = (let k = length_push met x in omega (arith, k));
  is = get_or_push met x 0 (length met) refl;
  kid = e;
  before = ap (λ z. length (kids_of ms n z)) (take_at met (x ∷ []) (length met) refl) ∙ sym (heavy_taken (kids_of ms n met) (tree_of ms x) l) ∙ ap heavy_at (sym (push_yes ms n met x e));
})

-- it isn't
old_heavy : (ms : List Member) (n : ℕ) (met : List ℕ) (x h : ℕ) → is_parent n (get_or ms x nobody).parent ≡ true → tree_size (tree_of ms x) ≤ heaviest (kids_of ms n met) → IsHeavyOf ms n met h → IsHeavyOf ms n (met ++ x ∷ []) h
old_heavy ms n met x h e l (inl q) = absurd (let z : heaviest (kids_of ms n met) ≡ 0 = ap heaviest q.0 in omega (arith, z, l))
old_heavy ms n met x h e l (inr r) = inr (stays ms n met x h (ap heavy_at (push_yes ms n met x e) ∙ heavy_kept (kids_of ms n met) (tree_of ms x) l) r)

-- ---- the turn of the j-th member

module _ (ms : List Member) (above sizes is heavy : List ℕ) (j : ℕ) (known : AreMeasured ms above sizes is) (hs : AreHeavy ms (take j is) heavy) (l : j < length is) where
  abbrev x : ℕ
  x = slice_index is j

  abbrev p : ℕ
  p = slice_index above x

  pub turn_inside : x < length ms
  turn_inside = place_inside ms is j known.by_node l

  front_inside : AreInside ms (take j is)
  front_inside k w =
      let n = length-take j is in
      let same : slice_index (take j is) k ≡ slice_index is k = get_or-take j is k 0 (omega (arith, n, w)) in
      let i = place_inside ms is k known.by_node (omega (arith, n, w)) in
      omega (arith, same, i)

  -- what each member's number is with one place more
  more : (new : List ℕ) → length new ≡ length ms → ((k : ℕ) → k < length ms → IsHeavyOf ms (node_at ms k) (take j is ++ x ∷ []) (slice_index new k)) → AreHeavy ms (take (j + 1) is) new
  more new n each = subst (λ met. AreHeavy ms met new) (sym (take_more is j 0 l)) (record { length_is = n; each = each })

  pub turn_root : x ≡ 0 → AreHeavy ms (take (j + 1) is) heavy
  turn_root z = more heavy hs.length_is (λ k w. other_heavy ms (node_at ms k) (take j is) x (slice_index heavy k) (root_no ms (node_at ms k) x known.members z) (hs.each k w))

  module _ (z : 0 < x) where
    s : StandsAt ms x (get_or ms x nobody).parent p
    s = known.above.each x nobody z turn_inside

    pub parent_there : p < length ms
    parent_there = (let w = s.before in let i = turn_inside in omega (arith, w, i))

    pub heavy_there : slice_index heavy p < length ms
    heavy_there = heavy_inside ms (take j is) (node_at ms p) (slice_index heavy p) known.members front_inside (hs.each p parent_there)

    -- the parent's number, and those of the others, of which it is no child
    child : (new : List ℕ) → length new ≡ length ms → IsHeavyOf ms (node_at ms p) (take j is ++ x ∷ []) (slice_index new p) → ((k : ℕ) → k ≢ p → slice_index new k ≡ slice_index heavy k) → AreHeavy ms (take (j + 1) is) new
    child new n here other = more new n (λ k w. elim (cases_eq p k) [
      | inl e ↦ subst (λ i. IsHeavyOf ms (node_at ms i) (take j is ++ x ∷ []) (slice_index new i)) e here
      | inr ne ↦ subst (IsHeavyOf ms (node_at ms k) (take j is ++ x ∷ [])) (sym (other k (λ e. ne (sym e))))
          (other_heavy ms (node_at ms k) (take j is) x (slice_index heavy k) (child_no ms x p k known.members s turn_inside w ne) (hs.each k w))
    ])

    greatest : size_or_none sizes (slice_index heavy p) ≡ heaviest (kids_of ms (node_at ms p) (take j is))
    greatest = met_size ms (take j is) sizes (node_at ms p) (slice_index heavy p) known.members known.sizes front_inside (hs.each p parent_there)

    pub turn_taken : size_or_none sizes (slice_index heavy p) < slice_index sizes x → AreHeavy ms (take (j + 1) is) (set heavy p x)
    turn_taken w =
        let g = greatest in
        let n = size_at ms sizes x known.members known.sizes turn_inside in
        let i = parent_there in
        let here : slice_index (set heavy p x) p ≡ x = get_or-set_same heavy p x 0 (omega (arith, i, hs.length_is)) in
        child (set heavy p x) (length-set heavy p x ∙ hs.length_is)
        (subst (IsHeavyOf ms (node_at ms p) (take j is ++ x ∷ [])) (sym here) (new_heavy ms (node_at ms p) (take j is) x (child_yes ms x p s) (omega (arith, g, n, w))))
        (λ k ne. get_or-set_other heavy p k x 0 ne)

    pub turn_kept : slice_index sizes x ≤ size_or_none sizes (slice_index heavy p) → AreHeavy ms (take (j + 1) is) heavy
    turn_kept w =
        let g = greatest in
        let n = size_at ms sizes x known.members known.sizes turn_inside in
        child heavy hs.length_is (old_heavy ms (node_at ms p) (take j is) x (slice_index heavy p) (child_yes ms x p s) (omega (arith, g, n, w)) (hs.each p parent_there)) (λ k ne. refl)

-- no member was met, and none has a heavy one
pub none_met : (ms : List Member) (heavy : List ℕ) → length heavy ≡ length ms → ((k : ℕ) → k < length ms → slice_index heavy k ≡ 0) → AreHeavy ms [] heavy
none_met ms heavy n h = record { length_is = n; each = λ k l. inl (refl, h k l) }
