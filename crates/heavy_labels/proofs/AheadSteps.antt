-- One member more is met: how far it is ahead of its parent, and what its number leaves room for.
use Rattle.std.proofs.Common.{◌≡◌, ◌≢◌, ℕ, zero, suc, ◌+◌, ◌*◌, ◌<◌, ◌≤◌, true, false, inl, inr, List, [], ◌∷◌, ◌++◌, length, take, drop, get_or, set, refl, sym, ap, subst, ◌∙◌, arith, below_more, length-set}
use Rattle.std.specs.Prelude.{slice_index}
use Rattle.std.proofs.lemmas.Bool.{cases_eq, cases_lt, cases_order}
use Rattle.std.proofs.lemmas.List.{take_more, length_push, get_or_append_left, get_or-set_same, get_or-set_other}
use Rattle.route_tree.specs.Rose.{Tree, tree_size, of_list, count}
use Rattle.route_tree.specs.Order.{heaviest}
use Rattle.route_tree.specs.Front.{heavy_at}
use Rattle.route_tree.specs.Growth.{is_parent}
use Rattle.route_tree.specs.Members.{AreMembers}
use Rattle.route_tree.specs.Slots.{StandsAt}
use Rattle.route_tree.specs.declared.member.Member.{Member}
use Rattle.route_tree.proofs.Counting.{count_append}
use Rattle.route_tree.proofs.Fronts.{size_at as part_size}
use Rattle.heavy_labels.specs.ByNode.{nobody, no_tree, node_at, tree_of, kids_of, AreByNode}
use Rattle.heavy_labels.specs.Sizes.{size_or_none}
use Rattle.heavy_labels.specs.Measured.{AreMeasured}
use Rattle.heavy_labels.specs.HeavyKids.{IsHeavyKid, IsHeavyOf, AreHeavy, IsAhead, AreCounted, AreBeside, AreAheadTo}
use Rattle.heavy_labels.proofs.BehindThem.{size_at}
use Rattle.heavy_labels.proofs.KidSteps.{push_yes, push_no, kids_at, kid_at, kid_there, kids_later, place_inside, ascend_once, root_no, child_yes, child_no, child_of, kids_fit, heavy_is, heavy_inside, at_most_heavy, heaviest_fits}
use Rattle.heavy_labels.proofs.HeavySteps.{heavy_yes, met_size}

-- ---- the heavy one among all children, and room below a member

module _ (ms : List Member) (n : ℕ) (is : List ℕ) (j : ℕ) (l : j < length is) (e : is_parent n (get_or ms (slice_index is j) nobody).parent ≡ true) where
  abbrev all : List Tree
  all = kids_of ms n is

  abbrev met : List Tree
  met = kids_of ms n (take j is)

  abbrev here : Tree
  here = tree_of ms (slice_index is j)

  abbrev rest : List Tree
  rest = kids_of ms n (drop (j + 1) is)

  -- a member with a child has a heavy one
  has_heavy : (h : ℕ) → IsHeavyOf ms n is h → IsHeavyKid ms n is h
  has_heavy h (inl q) = absurd (let t = kid_there ms n is j l e in let z = ap (λ (u : List Tree). length u) q.0 in omega (arith, t, z))
  has_heavy h (inr r) = r

  -- it is at the place that is named
  pub is_heavy : (h : ℕ) → AreByNode ms is → IsHeavyOf ms n is h → h ≡ slice_index is j → length met ≡ heavy_at all
  is_heavy h b o q =
      let r = has_heavy h o in
      ap (λ z. length (kids_of ms n (take z is))) (sym (ascend_once ms is r.at j b.ascend r.there l (r.is ∙ q))) ∙ r.before

  pub is_light : (h : ℕ) → IsHeavyOf ms n is h → h ≢ slice_index is j → length met ≢ heavy_at all
  is_light h o q s =
      let r = has_heavy h o in
      let f = r.before in
      elim (cases_order r.at j) [
        | inl w ↦ q (sym r.is ∙ ap (slice_index is) w)
        | inr (inl w) ↦ (let c = kids_later ms n is r.at j w (omega (arith, l)) (heavy_yes ms n is h r) in omega (arith, c, f, s))
        | inr (inr w) ↦ (let t = r.there in let c = kids_later ms n is j r.at w (omega (arith, t)) e in omega (arith, c, f, s))
      ]

  whole : all ≡ met ++ here ∷ rest
  whole = kids_at ms n is j l e

  whole_count : count (of_list all) ≡ count (of_list met) + (tree_size here + count (of_list rest))
  whole_count = (let w = ap (λ z. count (of_list z)) whole in let c = count_append met (here ∷ rest) in omega (arith, w, c))

  some : 0 < length all
  some = (let t = kid_there ms n is j l e in omega (arith, t))

  -- the heavy one comes later, or came before
  later : length met < heavy_at all → count (of_list met) + tree_size here + heaviest all ≤ count (of_list all)
  later w =
      let b = past_fits met rest here (heavy_at all) w (subst (λ z. heavy_at all < length z) whole (heavy_inside all some)) in
      let g = ap (λ z. tree_size (get_or z (heavy_at all) no_tree)) whole in
      let h = heavy_is all no_tree some in
      let c = ap (λ z. count (of_list z)) whole in
      omega (arith, b, g, h, c)
    where
      past_fits : (ts us : List Tree) (t : Tree) (i : ℕ) → length ts < i → i < length (ts ++ t ∷ us) → count (of_list ts) + tree_size t + tree_size (get_or (ts ++ t ∷ us) i no_tree) ≤ count (of_list (ts ++ t ∷ us))
      past_fits [] us t zero l m = absurd (omega (arith, l))
      past_fits [] us t (suc i) l m = (let h = part_size us i no_tree (omega (arith, m)) in omega (arith, h))
      past_fits (y ∷ ts) us t zero l m = absurd (omega (arith, l))
      past_fits (y ∷ ts) us t (suc i) l m = (let h = past_fits ts us t i (omega (arith, l)) (omega (arith, m)) in omega (arith, h))

  earlier : heavy_at all < length met → tree_size here + heaviest all ≤ count (of_list all)
  earlier w =
      let g = ap tree_size (ap (λ z. get_or z (heavy_at all) no_tree) whole ∙ get_or_append_left met (here ∷ rest) no_tree (heavy_at all) w) in
      let h = heavy_is all no_tree some in
      let m = part_size met (heavy_at all) no_tree w in
      let c = whole_count in
      omega (arith, g, h, m, c)

  pub number_fits : (v : ℕ) → IsAhead all met v → v + tree_size here ≤ 1 + count (of_list all)
  number_fits v h =
      let c = whole_count in
      elim (cases_order (length met) (heavy_at all)) [
        | inl w ↦ (let e = h.heavy w in omega (arith, e, c))
        | inr (inl w) ↦ (let e = h.before w in let m = later w in omega (arith, e, m))
        | inr (inr w) ↦ (let e = h.behind w in omega (arith, e, c))
      ]

  -- a child that isn't the heavy one has less than half
  pub light_half : length met ≢ heavy_at all → 2 * tree_size here ≤ count (of_list all)
  light_half ne =
      let most = at_most_heavy all (length met) no_tree (kid_there ms n is j l e) in
      let tree = ap tree_size (kid_at ms n is j no_tree l e) in
      elim (cases_order (length met) (heavy_at all)) [
        | inl w ↦ absurd (ne w)
        | inr (inl w) ↦ (let m = later w in omega (arith, m, most, tree))
        | inr (inr w) ↦ (let m = earlier w in omega (arith, m, most, tree))
      ]

-- ---- counted one after the other

pub more_yes : (ms : List Member) (n : ℕ) (is : List ℕ) (j : ℕ) → j < length is → is_parent n (get_or ms (slice_index is j) nobody).parent ≡ true → kids_of ms n (take (j + 1) is) ≡ kids_of ms n (take j is) ++ tree_of ms (slice_index is j) ∷ []
more_yes ms n is j l e = ap (kids_of ms n) (take_more is j 0 l) ∙ push_yes ms n (take j is) (slice_index is j) e

more_no : (ms : List Member) (n : ℕ) (is : List ℕ) (j : ℕ) → j < length is → is_parent n (get_or ms (slice_index is j) nobody).parent ≡ false → kids_of ms n (take (j + 1) is) ≡ kids_of ms n (take j is)
more_no ms n is j l e = ap (kids_of ms n) (take_more is j 0 l) ∙ push_no ms n (take j is) (slice_index is j) e

-- the heavy one is passed, or another one is counted
counted_more : (us ts : List Tree) (t : Tree) (b c : ℕ) → (length ts ≡ heavy_at us → (tree_size t ≡ heaviest us) × (c ≡ b)) → (length ts ≢ heavy_at us → c ≡ b + tree_size t) → AreCounted us ts b → AreCounted us (ts ++ t ∷ []) c
counted_more us ts t b c heavy light o =
    let m = length_push ts t in
    let k = count_append ts (t ∷ []) in
    record {
      before = λ l. (let s = light (λ e. omega (arith, m, l, e)) in let w = o.before (omega (arith, m, l)) in omega (arith, k, s, w));
      behind = λ l. elim (cases_eq (length ts) (heavy_at us)) [
        | inl e ↦ (let s = heavy e in let z = s.0 in let y = s.1 in let w = o.before (omega (arith, e)) in omega (arith, k, z, y, w))
        | inr ne ↦ (let s = light ne in let w = o.behind (omega (arith, m, l, ne)) in omega (arith, k, s, w))
      ];
    }

same_counted : (us ts vs : List Tree) (b : ℕ) → vs ≡ ts → AreCounted us ts b → AreCounted us vs b
same_counted us ts vs b e c = subst (λ z. AreCounted us z b) (sym e) c

counted_fits : (us ts : List Tree) (b : ℕ) → AreCounted us ts b → b ≤ count (of_list ts)
counted_fits us ts b c = elim (cases_lt (heavy_at us) (length ts)) [ inl w ↦ (let e = c.behind w in omega (arith, e)) | inr w ↦ (let e = c.before w in omega (arith, e)) ]

-- the root is met
pub root_beside : (ms : List Member) (is beside : List ℕ) (j : ℕ) → AreMembers ms → j < length is → slice_index is j ≡ 0 → AreBeside ms is j beside → AreBeside ms is (j + 1) beside
root_beside ms is beside j a l z b = record { length_is = b.length_is; each = λ k lk. same_counted _ _ _ _ (more_no ms (node_at ms k) is j l (root_no ms (node_at ms k) (slice_index is j) a z)) (b.each k lk) }

-- the number of the j-th is noted
ahead_more : (ms : List Member) (is ahead new : List ℕ) (j : ℕ) → length new ≡ length ahead → ((i : ℕ) → i < j → slice_index new (slice_index is i) ≡ slice_index ahead (slice_index is i))
    → ((k : ℕ) → k < length ms → is_parent (node_at ms k) (get_or ms (slice_index is j) nobody).parent ≡ true → IsAhead (kids_of ms (node_at ms k) is) (kids_of ms (node_at ms k) (take j is)) (slice_index new (slice_index is j)))
    → AreAheadTo ms is j ahead → AreAheadTo ms is (j + 1) new
ahead_more ms is ahead new j n old here b = record {
  length_is = n ∙ b.length_is;
  each = λ i k li lk e. below_more (λ i. is_parent (node_at ms k) (get_or ms (slice_index is i) nobody).parent ≡ true → IsAhead (kids_of ms (node_at ms k) is) (kids_of ms (node_at ms k) (take i is)) (slice_index new (slice_index is i))) j
      (λ i w f. subst (IsAhead (kids_of ms (node_at ms k) is) (kids_of ms (node_at ms k) (take i is))) (sym (old i w)) (b.each i k w lk f)) (here k lk) i li e;
}

pub root_ahead : (ms : List Member) (is ahead : List ℕ) (j : ℕ) → AreMembers ms → slice_index is j ≡ 0 → AreAheadTo ms is j ahead → AreAheadTo ms is (j + 1) ahead
root_ahead ms is ahead j a z b = ahead_more ms is ahead ahead j refl (λ i w. refl) (λ k lk e. (let f = root_no ms (node_at ms k) (slice_index is j) a z in cc)) b

-- ---- the turn of the j-th member

module _ (ms : List Member) (above sizes heavy is beside ahead : List ℕ) (j : ℕ) (known : AreMeasured ms above sizes is) (hs : AreHeavy ms is heavy)
    (bs : AreBeside ms is j beside) (ahd : AreAheadTo ms is j ahead) (l : j < length is) (z : 0 < slice_index is j) where
  abbrev x : ℕ
  x = slice_index is j

  abbrev p : ℕ
  p = slice_index above x

  abbrev n : ℕ
  n = node_at ms p

  pub place_there : x < length ms
  place_there = place_inside ms is j known.by_node l

  stands : StandsAt ms x (get_or ms x nobody).parent p
  stands = known.above.each x nobody z place_there

  pub parent_there : p < length ms
  parent_there = (let w = stands.before in let i = place_there in omega (arith, w, i))

  yes : is_parent n (get_or ms x nobody).parent ≡ true
  yes = child_yes ms x p stands

  heavy_of : IsHeavyOf ms n is (slice_index heavy p)
  heavy_of = hs.each p parent_there

  greatest : size_or_none sizes (slice_index heavy p) ≡ heaviest (kids_of ms n is)
  greatest = met_size ms is sizes n (slice_index heavy p) known.members known.sizes (λ i w. place_inside ms is i known.by_node w) heavy_of

  own_size : slice_index sizes x ≡ tree_size (tree_of ms x)
  own_size = size_at ms sizes x known.members known.sizes place_there

  -- the parent's number, and those of the others, of which it is no child
  beside_more : (new : List ℕ) → length new ≡ length beside → ((k : ℕ) → k ≢ p → slice_index new k ≡ slice_index beside k)
      → AreCounted (kids_of ms n is) (kids_of ms n (take j is) ++ tree_of ms x ∷ []) (slice_index new p) → AreBeside ms is (j + 1) new
  beside_more new e other c = record {
    length_is = e ∙ bs.length_is;
    each = λ k lk. elim (cases_eq p k) [
      | inl q ↦ subst (λ y. AreCounted (kids_of ms (node_at ms y) is) (kids_of ms (node_at ms y) (take (j + 1) is)) (slice_index new y)) q (same_counted _ _ _ _ (more_yes ms n is j l yes) c)
      | inr ne ↦ subst (AreCounted (kids_of ms (node_at ms k) is) (kids_of ms (node_at ms k) (take (j + 1) is))) (sym (other k (λ q. ne (sym q))))
          (same_counted _ _ _ _ (more_no ms (node_at ms k) is j l (child_no ms x p k known.members stands place_there lk ne)) (bs.each k lk))
    ];
  }

  noted : (v : ℕ) → IsAhead (kids_of ms n is) (kids_of ms n (take j is)) v → AreAheadTo ms is (j + 1) (set ahead x v)
  noted v h = ahead_more ms is ahead (set ahead x v) j (length-set ahead x v)
      (λ i w. get_or-set_other ahead x (slice_index is i) v 0 (λ q. (let same = ascend_once ms is i j known.by_node.ascend (omega (arith, w, l)) l q in omega (arith, same, w))))
      (λ k lk e. subst (IsAhead (kids_of ms (node_at ms k) is) (kids_of ms (node_at ms k) (take j is))) (sym (get_or-set_same ahead x v 0 (let m = ahd.length_is in let w = place_there in omega (arith, m, w))))
      (subst (λ y. IsAhead (kids_of ms (node_at ms y) is) (kids_of ms (node_at ms y) (take j is)) v) (child_of ms x p k known.members stands place_there lk e) h)) ahd

  -- the heavy one is met
  pub turn_heavy_beside : slice_index heavy p ≡ x → AreBeside ms is (j + 1) beside
  turn_heavy_beside q =
      let at = is_heavy ms n is j l yes (slice_index heavy p) known.by_node heavy_of q in
      let tree = kid_at ms n is j no_tree l yes in
      let some = kid_there ms n is j l yes in
      let size : tree_size (tree_of ms x) ≡ heaviest (kids_of ms n is) =
      ap tree_size (sym tree) ∙ ap (λ y. tree_size (get_or (kids_of ms n is) y no_tree)) at ∙ heavy_is (kids_of ms n is) no_tree (omega (arith, some)) in
      beside_more beside refl (λ k ne. refl) (counted_more _ _ _ (slice_index beside p) _ (λ _. (size, refl)) (λ ne. absurd (ne at)) (bs.each p parent_there))

  pub turn_heavy_ahead : slice_index heavy p ≡ x → AreAheadTo ms is (j + 1) (set ahead x 1)
  turn_heavy_ahead q =
      let at = is_heavy ms n is j l yes (slice_index heavy p) known.by_node heavy_of q in
      noted 1 (record { before = λ w. absurd (omega (arith, at, w)); heavy = λ w. refl; behind = λ w. absurd (omega (arith, at, w)) })

  -- another one is met
  pub turn_light_beside : slice_index heavy p ≢ x → AreBeside ms is (j + 1) (set beside p (slice_index beside p + slice_index sizes x))
  turn_light_beside q =
      let v = slice_index beside p + slice_index sizes x in
      let off = is_light ms n is j l yes (slice_index heavy p) heavy_of q in
      let value = get_or-set_same beside p v 0 (let m = bs.length_is in let w = parent_there in omega (arith, m, w)) in
      beside_more (set beside p v) (length-set beside p v) (λ k ne. get_or-set_other beside p k v 0 ne)
      (counted_more _ _ _ (slice_index beside p) _ (λ e. absurd (off e)) (λ _. value ∙ ap (λ y. slice_index beside p + y) own_size) (bs.each p parent_there))

  pub turn_light_ahead : (v : ℕ) → slice_index heavy p ≢ x → v ≡ 1 + size_or_none sizes (slice_index heavy p) + slice_index beside p → AreAheadTo ms is (j + 1) (set ahead x v)
  turn_light_ahead v q f =
      let off = is_light ms n is j l yes (slice_index heavy p) heavy_of q in
      let c = bs.each p parent_there in
      let g = greatest in
      noted v (record {
        before = λ w. (let e = c.before (omega (arith, w)) in omega (arith, e, g, f));
        heavy = λ w. absurd (off w);
        behind = λ w. (let e = c.behind w in omega (arith, e, g, f));
      })

  -- the numbers have room
  pub turn_fits : (slice_index beside p + slice_index sizes x ≤ length ms) × (size_or_none sizes (slice_index heavy p) ≤ length ms)
  turn_fits =
      let b = counted_fits (kids_of ms n is) (kids_of ms n (take j is)) (slice_index beside p) (bs.each p parent_there) in
      let c = whole_count ms n is j l yes in
      let s = own_size in
      let f = kids_fit ms is p known.members known.by_node parent_there in
      let g = greatest in
      let h = heaviest_fits (kids_of ms n is) in
      (omega (arith, b, c, s, f), omega (arith, f, g, h))

-- no member was met
pub none_beside : (ms : List Member) (is beside : List ℕ) → length beside ≡ length ms → ((k : ℕ) → k < length ms → slice_index beside k ≡ 0) → AreBeside ms is 0 beside
none_beside ms is beside n h = record { length_is = n; each = λ k l. record { before = λ _. h k l; behind = λ w. absurd (omega (arith, w)) } }

pub none_ahead : (ms : List Member) (is ahead : List ℕ) → length ahead ≡ length ms → AreAheadTo ms is 0 ahead
none_ahead ms is ahead n = record { length_is = n; each = λ i k l. absurd (omega (arith, l)) }
