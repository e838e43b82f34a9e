-- One member more is numbered by its parent's label; and what the whole list is.
use Rattle.std.proofs.Common.{◌≡◌, ◌≢◌, ℕ, zero, suc, ◌+◌, ◌*◌, ◌^◌, ◌<◌, ◌≤◌, Bool, true, false, inl, inr, List, [], ◌∷◌, ◌++◌, length, take, drop, get_or, map, refl, sym, ap, ap₂, subst, ◌∙◌, arith, below_more}
use Rattle.std.specs.Prelude.{Option, None, slice_index, ◌==◌, is_none}
use Rattle.std.proofs.lemmas.Bool.{eqb-true, eqb-false, eq-eqb, ne_eqb, true_from_ne_false, false_from_ne_true}
use Rattle.std.proofs.lemmas.List.{length_push, get_or_append_left, get_or_push, get_or-map, length-map, length-take-le}
use Rattle.route_tree.specs.Rose.{Forest, Tree, tree_size, of_list, count}
use Rattle.route_tree.specs.Front.{heavy_at, heavy_to_front}
use Rattle.route_tree.specs.Growth.{is_parent, subtrees, first_or}
use Rattle.route_tree.specs.Members.{AreMembers}
use Rattle.route_tree.specs.Slots.{StandsAt}
use Rattle.route_tree.specs.declared.member.Member.{Member}
use Rattle.route_tree.proofs.EachOnce.{as_many}
use Rattle.route_tree.proofs.Fronts.{size_at as part_size}
use Rattle.route_tree.proofs.Orders.{front_is}
use Rattle.route_tree.proofs.Shapes.{shape}
use Rattle.heavy_labels.specs.Label.{Label}
use Rattle.heavy_labels.specs.Numbering.{lights_at, heavy_last, heavy_port, tree_lines}
use Rattle.heavy_labels.specs.Numbered.{Brief, IsListed, briefs, head_brief, seen, tree_briefs}
use Rattle.heavy_labels.specs.declared.label.TheConstants.{MOST_LIGHTS}
use Rattle.heavy_labels.specs.declared.numbered_member.NumberedMember.{NumberedMember}
use Rattle.heavy_labels.specs.ByNode.{nobody, no_tree, node_at, tree_of, kids_of, AreByNode}
use Rattle.heavy_labels.specs.Sizes.{AreParents, AreSizes, size_or_none}
use Rattle.heavy_labels.specs.HeavyKids.{IsHeavyOf, AreHeavy, IsAhead, AreAheadTo}
use Rattle.heavy_labels.specs.FlatNumbers.{tree_brief, no_brief, port_or_none, label_below, label_over, IsLabelAt, AreFlat}
use Rattle.heavy_labels.proofs.AheadSteps.{is_heavy, is_light, number_fits, light_half}
use Rattle.heavy_labels.proofs.BehindThem.{subtree_at, size_at}
use Rattle.heavy_labels.proofs.Bound.{few_next, most_lights}
use Rattle.heavy_labels.proofs.Briefs.{tree_lines_are}
use Rattle.heavy_labels.proofs.FlatLists.{kid_listed}
use Rattle.heavy_labels.proofs.HeavySteps.{none_size, some_size, heavy_met, heavy_tree, heavy_inside, met_size}
use Rattle.heavy_labels.proofs.KidsByNode.{root_node}
use Rattle.heavy_labels.proofs.KidSteps.{place_inside, kid_not_root, child_yes, child_of, kid_at, kid_place, kids_waiting, size_kids, heaviest_fits}
use Rattle.heavy_labels.proofs.OneOf.{in_at, in_place}

-- there is room for the light ports in a label
pub few_lights : (ms : List Member) (t : Tree) (ls : List ℕ) → AreMembers ms → (tree_size t + 1) * 2 ^ length ls ≤ length ms + 1 → length ls ≤ MOST_LIGHTS
few_lights ms t ls a b = most_lights MOST_LIGHTS (tree_size t) ls (omega arith) (let f = a.few in omega (arith, b, f))

-- ---- the label of one member more

first_tree : (ms : List Member) (d : Tree) → 0 < length ms → tree_of ms 0 ≡ first_or d (subtrees ms)
first_tree [] d l = absurd (omega (arith, l))
first_tree (m ∷ ms) d l = refl

-- the root's
pub root_label : (ms : List Member) (above heavy ahead : List ℕ) (x : ℕ) (over l : Label) → AreMembers ms → x ≡ 0 → l ≡ record { first = 0; lights = [] } → IsLabelAt ms above heavy ahead x over l
root_label ms above heavy ahead x over l a z e = record {
  root = λ q. e;
  below = λ w. absurd (omega (arith, w, z));
  fits = (let f = ap (λ (k : Label). k.first) e in let s = small in omega (arith, f, s));
  few = (let f = ap (λ (k : Label). 2 ^ length k.lights) e in let s = small in rw f (omega (arith, s)));
}
  where
    small : tree_size (tree_of ms x) ≤ length ms
    small = (let t = ap tree_size (ap (tree_of ms) z ∙ first_tree ms no_tree a.some) in let n = as_many ms no_tree a in omega (arith, t, n))

module _ (ms : List Member) (above heavy ahead is : List ℕ) (x : ℕ) (all : List Brief) (a : AreMembers ms) (up : AreParents ms above) (b : AreByNode ms is) (hs : AreHeavy ms is heavy)
    (ad : AreAheadTo ms is (length is) ahead) (flat : AreFlat ms above heavy ahead x all) (z : 0 < x) (lx : x < length ms) where
  abbrev p : ℕ
  p = slice_index above x

  s : StandsAt ms x (get_or ms x nobody).parent p
  s = up.each x nobody z lx

  pub before : p < x
  before = s.before

  lp : p < length ms
  lp = (let w = before in omega (arith, w, lx))

  j : (j : ℕ) × ((j < length is) × (slice_index is j ≡ x))
  j = in_place x is 0 ((b.all x).1 lx)

  yes : is_parent (node_at ms p) (get_or ms (slice_index is j.0) nobody).parent ≡ true
  yes = subst (λ i. is_parent (node_at ms p) (get_or ms i nobody).parent ≡ true) (sym j.1.1) (child_yes ms x p s)

  abbrev over : Label
  over = label_over above all x

  is_ahead : IsAhead (kids_of ms (node_at ms p) is) (kids_of ms (node_at ms p) (take j.0 is)) (slice_index ahead x)
  is_ahead = subst (λ i. IsAhead (kids_of ms (node_at ms p) is) (kids_of ms (node_at ms p) (take j.0 is)) (slice_index ahead i)) j.1.1 (ad.each j.0 p j.1.0 lp yes)

  inside_parent : slice_index ahead x + tree_size (tree_of ms x) ≤ tree_size (tree_of ms p)
  inside_parent =
      let fit = number_fits ms (node_at ms p) is j.0 j.1.0 yes (slice_index ahead x) is_ahead in
      let same = ap (λ i. tree_size (tree_of ms i)) j.1.1 in
      let size = size_kids ms is p a b lp in
      omega (arith, fit, same, size)

  light : (slice_index heavy p == x) ≡ false → 2 * tree_size (tree_of ms x) + 1 ≤ tree_size (tree_of ms p)
  light e =
      let off = is_light ms (node_at ms p) is j.0 j.1.0 yes (slice_index heavy p) (hs.each p lp) (λ q. eqb-false (slice_index heavy p) x e (q ∙ j.1.1)) in
      let half = light_half ms (node_at ms p) is j.0 j.1.0 yes off in
      let same = ap (λ i. tree_size (tree_of ms i)) j.1.1 in
      let size = size_kids ms is p a b lp in
      omega (arith, half, same, size)

  pub label_fits : over.first + slice_index ahead x + tree_size (tree_of ms x) ≤ length ms
  label_fits = (let f = (flat.labels p before).fits in let i = inside_parent in omega (arith, f, i))

  pub label_few : (tree_size (tree_of ms x) + 1) * 2 ^ length (lights_at (slice_index heavy p == x) over.lights (get_or ms x nobody).down) ≤ length ms + 1
  label_few =
      few_next (slice_index heavy p == x) (tree_size (tree_of ms x)) (tree_size (tree_of ms p)) (length ms + 1) over.lights (get_or ms x nobody).down
      (let i = inside_parent in omega (arith, i)) light (flat.labels p before).few

  pub next_label : (l : Label) → l ≡ label_below over (slice_index ahead x) (slice_index heavy p == x) (get_or ms x nobody).down → IsLabelAt ms above heavy ahead x over l
  next_label l e = subst (IsLabelAt ms above heavy ahead x over) (sym e) (record {
    root = λ q. absurd (omega (arith, q, z));
    below = λ w. refl;
    fits = label_fits;
    few = label_few;
  })

-- the label of a listed member is the one that is read
pub read_label : (ns : List NumberedMember) (p : ℕ) (d : NumberedMember) → p < length ns → (get_or ns p d).label ≡ (get_or (map seen ns) p no_brief).1.1
read_label ns p d l = sym (ap (λ (z : Brief). z.1.1) (get_or-map seen ns p d no_brief l))

-- ---- its record

below_is : (ms : List Member) (is : List ℕ) (k : ℕ) → AreMembers ms → AreByNode ms is → k < length ms → (tree_of ms k).below ≡ of_list (heavy_to_front (kids_of ms (node_at ms k) is))
below_is ms is k a b l = ap (λ (t : Tree). t.below) (subtree_at ms k l) ∙ ap (λ us. of_list (heavy_to_front us)) (sym (kids_waiting ms is k a b l))

module _ (ms : List Member) (sizes heavy is : List ℕ) (k : ℕ) (a : AreMembers ms) (b : AreByNode ms is) (ss : AreSizes ms 1 sizes) (hs : AreHeavy ms is heavy) (l : k < length ms) where
  abbrev kids : List Tree
  kids = kids_of ms (node_at ms k) is

  abbrev h : ℕ
  h = slice_index heavy k

  pub heavy_there : h < length ms
  heavy_there = heavy_inside ms is (node_at ms k) h a (λ i w. place_inside ms is i b w) (hs.each k l)

  abbrev Parts : Forest → Type 0
  Parts below = ((f : ℕ) → heavy_last f below ≡ f + size_or_none sizes h) × (heavy_port below ≡ port_or_none ms h)

  parts : Parts (tree_of ms k).below
  parts = subst Parts (sym (below_is ms is k a b l)) (go (hs.each k l))
    where
      go : IsHeavyOf ms (node_at ms k) is h → Parts (of_list (heavy_to_front kids))
      go (inl q) =
          let port : port_or_none ms h ≡ None = rw q.1 refl in
          let n = none_size sizes h q.1 in
          subst (λ us. Parts (of_list (heavy_to_front us))) (sym q.0) ((λ f. omega (arith, n)), sym port)
      go (inr r) =
          let ne = kid_not_root ms (node_at ms k) h a r.kid in
          let size = some_size sizes h ne ∙ size_at ms sizes h a ss heavy_there in
          let port : port_or_none ms h ≡ (get_or ms h nobody).down = rw (ne_eqb h 0 ne) refl in
          let front = front_is kids no_tree (heavy_met ms (node_at ms k) is h r) ∙ ap (λ t. t ∷ (take (heavy_at kids) kids ++ drop (suc (heavy_at kids)) kids)) (heavy_tree ms (node_at ms k) is h r no_tree) in
          subst (λ us. Parts (of_list us)) (sym front) ((λ f. omega (arith, size)), ap (λ (t : Tree). t.down) (subtree_at ms h heavy_there) ∙ sym port)

  kids_size : slice_index sizes k ≡ 1 + count (of_list kids)
  kids_size = size_at ms sizes k a ss l ∙ size_kids ms is k a b l

  -- the heavy port is there where the member isn't the last of its tree
  pub port_there : (f m : ℕ) → slice_index sizes k ≡ m + 1 → is_none (port_or_none ms h) ≡ (f == f + m)
  port_there f m e = go (hs.each k l)
    where
      go : IsHeavyOf ms (node_at ms k) is h → is_none (port_or_none ms h) ≡ (f == f + m)
      go (inl q) =
          let c = ap (λ us. count (of_list us)) q.0 in
          let n = kids_size in
          let none : is_none (port_or_none ms h) ≡ true = rw q.1 refl in
          none ∙ sym (eq-eqb f (f + m) (omega (arith, c, n, e)))
      go (inr r) =
          let ne = kid_not_root ms (node_at ms k) h a r.kid in
          let t = heavy_met ms (node_at ms k) is h r in
          let c = part_size kids 0 no_tree (omega (arith, t)) in
          let n = kids_size in
          let port = (a.ports h nobody (omega (arith, ne)) heavy_there).down in
          let some : is_none (port_or_none ms h) ≡ false = rw (ne_eqb h 0 ne) (rw port.1 refl) in
          some ∙ sym (ne_eqb f (f + m) (λ q. omega (arith, q, c, n, e)))

  -- no number of the heavy child is past the last
  pub heavy_fits : size_or_none sizes h ≤ tree_size (tree_of ms k)
  heavy_fits =
      let g = met_size ms is sizes (node_at ms k) h a ss (λ i w. place_inside ms is i b w) (hs.each k l) in
      let f = heaviest_fits kids in
      let n = size_kids ms is k a b l in
      omega (arith, g, f, n)

  pub made : (label : Label) (first last last_heavy depth : ℕ) (port : Option ℕ) → first ≡ label.first → last + 1 ≡ first + slice_index sizes k → last_heavy ≡ first + size_or_none sizes h → depth ≡ length label.lights
      → port ≡ port_or_none ms h
      → (node_at ms k, (record { first = first; last = last; heavy_last = last_heavy; light_depth = depth; parent_port = (get_or ms k nobody).up; heavy_port = port }, label)) ≡ tree_brief (tree_of ms k) label
  made label first last last_heavy depth port q e f d g =
      (λ i. (node i, (record { first = q i; last = last_is i; heavy_last = heavy_is i; light_depth = d i; parent_port = up i; heavy_port = port_is i }, label)))
    where
      node : node_at ms k ≡ (tree_of ms k).node
      node = sym (root_node ms k)

      up : (get_or ms k nobody).up ≡ (tree_of ms k).up
      up = sym (ap (λ (t : Tree). t.up) (subtree_at ms k l))

      last_is : last ≡ label.first + count (tree_of ms k).below
      last_is = (let n = size_at ms sizes k a ss l in omega (arith, n, e, q))

      heavy_is : last_heavy ≡ heavy_last label.first (tree_of ms k).below
      heavy_is = f ∙ ap (λ z. z + size_or_none sizes h) q ∙ sym (parts.0 label.first)

      port_is : port ≡ heavy_port (tree_of ms k).below
      port_is = g ∙ sym parts.1

-- ---- one member more is listed

pub flat_more : (ms : List Member) (above heavy ahead : List ℕ) (x : ℕ) (all more : List Brief) (l : Label) → AreParents ms above → x < length ms → AreFlat ms above heavy ahead x all
    → IsLabelAt ms above heavy ahead x (label_over above all x) l → more ≡ all ++ tree_brief (tree_of ms x) l ∷ [] → AreFlat ms above heavy ahead (x + 1) more
flat_more ms above heavy ahead x all more l up lx f h e = subst (AreFlat ms above heavy ahead (x + 1)) (sym e) (record {
  length_is = (let n = length_push all b in let k = f.length_is in omega (arith, n, k));
  is = λ i li. below_more (λ i. get_or grown i no_brief ≡ tree_brief (tree_of ms i) (get_or grown i no_brief).1.1) x
      (λ i w. subst (λ (z : Brief). z ≡ tree_brief (tree_of ms i) z.1.1) (sym (old i w)) (f.is i w))
      (subst (λ (z : Brief). z ≡ tree_brief (tree_of ms x) z.1.1) (sym new) refl) i li;
  labels = λ i li. below_more (λ i. IsLabelAt ms above heavy ahead i (label_over above grown i) (get_or grown i no_brief).1.1) x
      (λ i w. subst (λ (z : Brief). IsLabelAt ms above heavy ahead i (label_over above grown i) z.1.1) (sym (old i w)) (kept i (get_or all i no_brief).1.1 (omega (arith, w)) (f.labels i w)))
      (subst (λ (z : Brief). IsLabelAt ms above heavy ahead x (label_over above grown x) z.1.1) (sym new) (kept x l (omega arith) h)) i li;
})
  where
    b : Brief
    b = tree_brief (tree_of ms x) l

    grown : List Brief
    grown = all ++ b ∷ []

    old : (i : ℕ) → i < x → get_or grown i no_brief ≡ get_or all i no_brief
    old i w = get_or_append_left all (b ∷ []) no_brief i (let k = f.length_is in omega (arith, k, w))

    new : get_or grown x no_brief ≡ b
    new = get_or_push all b no_brief x f.length_is

    -- the labels that it speaks of are among the first ones
    kept : (i : ℕ) (k : Label) → i < x + 1 → IsLabelAt ms above heavy ahead i (label_over above all i) k → IsLabelAt ms above heavy ahead i (label_over above grown i) k
    kept i k li r = record {
      root = r.root;
      below = λ w. (let c = (up.each i nobody w (omega (arith, lx, li))).before in
          r.below w ∙ ap (λ (z : Brief). label_below z.1.1 (slice_index ahead i) (slice_index heavy (slice_index above i) == i) (get_or ms i nobody).down) (sym (old (slice_index above i) (omega (arith, c, li)))));
      fits = r.fits;
      few = r.few;
    }

-- ---- the whole list

module _ (ms : List Member) (above heavy ahead is : List ℕ) (all : List Brief) (a : AreMembers ms) (up : AreParents ms above) (b : AreByNode ms is) (hs : AreHeavy ms is heavy)
    (ad : AreAheadTo ms is (length is) ahead) (flat : AreFlat ms above heavy ahead (length ms) all) where
  abbrev label : ℕ → Label
  label k = (get_or all k no_brief).1.1

  -- the child at the j-th place of the order, of the member at k
  module _ (k : ℕ) (lk : k < length ms) (j : ℕ) (l : j < length is) (yes : is_parent (node_at ms k) (get_or ms (slice_index is j) nobody).parent ≡ true) where
    abbrev child : ℕ
    child = slice_index is j

    child_inside : child < length ms
    child_inside = place_inside ms is j b l

    child_stands : StandsAt ms child (get_or ms child nobody).parent (slice_index above child)
    child_stands = (let ne = kid_not_root ms (node_at ms k) child a yes in up.each child nobody (omega (arith, ne)) child_inside)

    parent_is : slice_index above child ≡ k
    parent_is = child_of ms child (slice_index above child) k a child_stands child_inside lk yes

    -- how its label follows from the member's, where the flag says whether it is the heavy one
    child_label : (number : ℕ) (flag : Bool) → number ≡ (label k).first + slice_index ahead child → (flag ≡ true → length (kids_of ms (node_at ms k) (take j is)) ≡ heavy_at (kids_of ms (node_at ms k) is))
        → (flag ≡ false → length (kids_of ms (node_at ms k) (take j is)) ≢ heavy_at (kids_of ms (node_at ms k) is)) → label child ≡ record { first = number; lights = lights_at flag (label k).lights (tree_of ms child).down }
    child_label number flag n heavy_one light_one =
        let ne = kid_not_root ms (node_at ms k) child a yes in
        let is_label = (flat.labels child child_inside).below (omega (arith, ne)) ∙ ap (λ p. label_below (label p) (slice_index ahead child) (slice_index heavy p == child) (get_or ms child nobody).down) parent_is in
        let down = sym (ap (λ (t : Tree). t.down) (subtree_at ms child child_inside)) in
        subst (λ z. label child ≡ record { first = z; lights = lights_at flag (label k).lights (tree_of ms child).down }) (sym n)
        (is_label ∙ ap₂ (label_below (label k) (slice_index ahead child)) (sym (flagged flag heavy_one light_one)) down)
      where
        flagged : (f : Bool) → (f ≡ true → length (kids_of ms (node_at ms k) (take j is)) ≡ heavy_at (kids_of ms (node_at ms k) is))
            → (f ≡ false → length (kids_of ms (node_at ms k) (take j is)) ≢ heavy_at (kids_of ms (node_at ms k) is)) → f ≡ (slice_index heavy k == child)
        flagged true h g = sym (true_from_ne_false _ (λ e. is_light ms (node_at ms k) is j l yes (slice_index heavy k) (hs.each k lk) (eqb-false (slice_index heavy k) child e) (h refl)))
        flagged false h g = sym (false_from_ne_true _ (λ e. g refl (is_heavy ms (node_at ms k) is j l yes (slice_index heavy k) b (hs.each k lk) (eqb-true (slice_index heavy k) child e))))

  -- all that is below a member is listed: its children stand behind it
  listed_below : (c k : ℕ) → length ms ≤ k + c → k < length ms → (y : Brief) → IsListed y (tree_briefs (tree_of ms k) (label k).first (label k).lights) → IsListed y all
  listed_below zero k m l y h = absurd (omega (arith, m, l))
  listed_below (suc c) k m l y (inl e) = subst (λ z. IsListed z all) (flat.is k l ∙ sym e) (in_at all k no_brief (let n = flat.length_is in omega (arith, n, l)))
  listed_below (suc c) k m l y (inr h) =
      let us = kids_of ms (node_at ms k) is in
      let kid = kid_listed us (label k).first (label k).lights y (subst (λ z. IsListed y (briefs z true ((label k).first + 1) (label k).lights)) (below_is ms is k a b l) h) in
      let q = kid_place ms (node_at ms k) is kid.at kid.there in
      let there = q.1.0 in
      let yes = q.1.1.0 in
      let met = ap (λ (z : List Tree). length z) q.1.1.1 ∙ length-take-le kid.at us (let t = kid.there in omega (arith, t)) in
      let tree = ap (λ z. get_or us z no_tree) (sym met) ∙ kid_at ms (node_at ms k) is q.0 no_tree there yes in
      let number = kid.ahead (slice_index ahead (slice_index is q.0)) (subst (λ z. IsAhead us z (slice_index ahead (slice_index is q.0))) q.1.1.1 (ad.each q.0 k there l yes)) in
      let same = child_label k l q.0 there yes kid.number kid.flag number (λ e. met ∙ kid.heavy e) (λ e g. kid.light e (sym met ∙ g)) in
      let before = (child_stands k l q.0 there yes).before in
      let parent = parent_is k l q.0 there yes in
      listed_below c (slice_index is q.0) (omega (arith, m, before, parent)) (child_inside k l q.0 there yes) y
      (subst (λ (z : Label). IsListed y (tree_briefs (tree_of ms (slice_index is q.0)) z.first z.lights)) (sym same)
      (subst (λ (t : Tree). IsListed y (tree_briefs t kid.number (lights_at kid.flag (label k).lights t.down))) tree kid.listed))

  pub flat_listed : (d : Tree) (y : Brief) → IsListed y (map head_brief (tree_lines (first_or d (subtrees ms)))) → IsListed y all
  flat_listed d y i =
      let t = shape ms d a in
      let root = (flat.labels 0 a.some).root refl in
      listed_below (length ms) 0 (omega arith) a.some y
      (subst (λ (z : Label). IsListed y (tree_briefs (tree_of ms 0) z.first z.lights)) (sym root)
      (subst (λ z. IsListed y (tree_briefs z 0 [])) (sym (first_tree ms d a.some)) (subst (IsListed y) (tree_lines_are (first_or d (subtrees ms)) t.up t.down) i)))

-- ---- the nodes of the list

nodes_same : (ns : List NumberedMember) (ms : List Member) → length ns ≡ length ms → ((k : ℕ) → k < length ms → (get_or (map seen ns) k no_brief).0 ≡ (get_or ms k nobody).node) → map (λ (n : NumberedMember). n.node) ns ≡ map (λ (m : Member). m.node) ms
nodes_same [] [] l h = refl
nodes_same [] (m ∷ ms) l h = absurd (omega (arith, l))
nodes_same (n ∷ ns) [] l h = absurd (omega (arith, l))
nodes_same (n ∷ ns) (m ∷ ms) l h = ap₂ (λ x xs. x ∷ xs) (h 0 (omega arith)) (nodes_same ns ms (omega (arith, l)) (λ k w. h (suc k) (omega (arith, w))))

pub flat_nodes : (ms : List Member) (above heavy ahead : List ℕ) (ns : List NumberedMember) → AreFlat ms above heavy ahead (length ms) (map seen ns) → map (λ (n : NumberedMember). n.node) ns ≡ map (λ (m : Member). m.node) ms
flat_nodes ms above heavy ahead ns f =
    nodes_same ns ms (let n = length-map ns seen in let k = f.length_is in omega (arith, n, k)) (λ k l. ap (λ (z : Brief). z.0) (f.is k l) ∙ root_node ms k)

-- ---- the same lists

-- the same over equal lists of parents and of heavy children
pub flat_over : (ms : List Member) (above above2 heavy heavy2 ahead : List ℕ) (n : ℕ) (all : List Brief) → above ≡ above2 → heavy ≡ heavy2 → AreFlat ms above heavy ahead n all → AreFlat ms above2 heavy2 ahead n all
flat_over ms above above2 heavy heavy2 ahead n all same alike f =
    subst (λ z. AreFlat ms above2 z ahead n all) alike (subst (λ z. AreFlat ms z heavy ahead n all) same f)
