-- One pass over the ports of a node, from the last to the first, finds its children in the order of their numbers.
use Rattle.certificate.proofs.Words.{◌≡◌, ◌+◌, ◌<◌, ◌≤◌, ◌==◌, inl, inr, ℕ, zero, suc, Bool, true, false, sym, refl, ap, subst, ◌∙◌, arith, List, [], ◌∷◌, map, drop, length, get_or, max, ◌↔◌, Option, Some, None, MatchOption, not, cases_eq, cond_both, eqb-false, ne_eqb, drop_more, get_or_default, get_or_from_slice_get}
use Rattle.certificate.proofs.Words.{slice_get_within, Record, record_of, Parts, Entry, Network, neighbours_of, over_port, rising_neighbours, neighbours, port_to, Tables, tables, IsShaped, parent_is, children, up_port, down_port, record_at, record_or, span, widest_span, first_with, all_but, row_by, in_row, IsRow, IsHeavyOf, FitsBelow}
use Rattle.certificate.proofs.Words.{HasLocalRecords, not_none, same_value, index_at, key_at, keys_length, symmetric, Distances, children_near, child_of, entry_at, farthest, node_inside, place, placed_tree, tree_at, tree_to_depth, tree_to_depth-fits, tree_to_depth-node, behind, but, children_among, first_widest, with_child, AreChildrenFit, AreNumbered, FitsAt, IsLocalAt, IsPorted, IsWidest, LeadsTo, StartsAt, entries_at}
use Rattle.schemes.proofs.Basics.Lists.{port_found}
use Rattle.schemes.proofs.Serving.Moves.{get_map}
use Rattle.schemes.proofs.Serving.StepsAsMoves.{down_at, index_get}
use Rattle.schemes.proofs.LocalForms.ChildRows.{row_scan}
use Rattle.schemes.proofs.LocalForms.LocalRecords.{Every, every_filtered, local_records}
use Rattle.certificate.proofs.LookUps.{looked_up, found_at}

-- ---- ports

-- the port to the neighbour that stands behind it
pub port_behind : (m : Network) (x y port : ℕ) → over_port m x port ≡ Some y → port_to m x y ≡ Some port
port_behind m x y port over =
    let es = neighbours_of m x in
    let found = get_map (λ e. e.0) es port ∙ over in
    let l = slice_get_within (neighbours m x) port y found in
    let at = get_or_from_slice_get (neighbours m x) port y 0 found in
    let many = keys_length (λ (e : ℕ × ℕ). e.0) es in
    index_at (neighbours m x) y port l at (λ i lt same. (
    let up = rising_neighbours m x i port lt (omega (arith, l, many)) in
    let here = key_at (λ (e : ℕ × ℕ). e.0) es i (0, 0) (omega (arith, l, lt, many)) in
    let there = key_at (λ (e : ℕ × ℕ). e.0) es port (0, 0) (omega (arith, l, many)) in
    omega (arith, up, here, there, at, same)))

behind_port : (m : Network) (x y : ℕ) (o : Option ℕ) → behind m x o ≡ Some y → o ≡ port_to m x y
behind_port m x y None e = absurd (not_none e refl)
behind_port m x y (Some p) e = sym (port_behind m x y p e)

port_leads : (m : Network) (x y q : ℕ) (o : Option ℕ) → port_to m x y ≡ Some q → o ≡ port_to m x y → behind m x o ≡ Some y
port_leads m x y q o found e = ap (behind m x) (e ∙ found) ∙ sym (get_map (λ e. e.0) (neighbours_of m x) q) ∙ index_get y q (neighbours m x) found

-- the port to the parent
pub ported_up : (m : Network) (x : ℕ) (e : Entry) → IsPorted m x e → e.tree_record.parent_port ≡ up_port m x (Some e)
unfolding IsPorted
ported_up m x e h = go e.parent h
  where
    go : (o : Option ℕ) → MatchOption o (e.tree_record.parent_port ≡ None) (λ y. behind m x e.tree_record.parent_port ≡ Some y) → e.tree_record.parent_port ≡ elim o [ None ↦ None | Some y ↦ port_to m x y ]
    go None k = k
    go (Some y) k = behind_port m x y e.tree_record.parent_port k

up_ported : (m : Network) (t : Tables) → Distances m t → (x : ℕ) (e : Entry) → t.entry x e.root ≡ Some e → e.tree_record.parent_port ≡ up_port m x (Some e) → IsPorted m x e
unfolding IsPorted
up_ported m t d x e g h = go e.parent refl h
  where
    go : (o : Option ℕ) → e.parent ≡ o → e.tree_record.parent_port ≡ elim o [ None ↦ None | Some y ↦ port_to m x y ] → MatchOption o (e.tree_record.parent_port ≡ None) (λ y. behind m x e.tree_record.parent_port ≡ Some y)
    go None q k = k
    go (Some y) q k =
        let c = (d.tight x y e.root e g q).0 in
        let p = port_found m d.sound x y c.0 (symmetric m x y ∙ c.1.1.0) in
        port_leads m x y p.0 e.tree_record.parent_port p.1 k

-- ---- the widest child

none_widest : (t : Tables) (r : ℕ) (ks : List ℕ) → first_widest t r ks ≡ None → ks ≡ []
none_widest t r [] e = refl
none_widest t r (k ∷ ks) e =
    let s = span (record_at t r k) in
    let w = widest_span t r ks in
    cond_both (s == max s w) (Some k) (first_with t r (max s w) ks) (λ o. o ≡ None → k ∷ ks ≡ []) (λ _ z. absurd (not_none refl z)) (λ f z. (
    let ne = eqb-false s (max s w) f in
    let wide : max s w ≡ w = omega (arith, ne) in
    let none : w ≡ 0 = ap (widest_span t r) (none_widest t r ks (subst (λ v. first_with t r v ks ≡ None) wide z)) in
    absurd (ne (omega (arith, none))))) e

-- the first with some span is one of the list
first_of : (P : ℕ → Type 0) (t : Tables) (r s h : ℕ) (xs : List ℕ) → Every P xs → first_with t r s xs ≡ Some h → P h
first_of P t r s h [] a e = absurd (not_none e refl)
first_of P t r s h (x ∷ xs) a e = cond_both (span (record_at t r x) == s) (Some x) (first_with t r s xs) (λ o. o ≡ Some h → P h) (λ _ k. subst P (same_value refl k) a.0) (λ _ k. first_of P t r s h xs a.1 k) e

widest_child : (t : Tables) (r x h : ℕ) (ys : List ℕ) → first_widest t r (children_among t r x ys) ≡ Some h → parent_is x (t.entry h r) ≡ true
widest_child t r x h ys =
    let ks = children_among t r x ys in
    first_of (λ y. parent_is x (t.entry y r) ≡ true) t r (widest_span t r ks) h ks (every_filtered (λ y. parent_is x (t.entry y r) ≡ true) (λ y. parent_is x (t.entry y r)) (λ y e. e) ys)

-- ---- the pass, one port further to the front

pub children_more : (t : Tables) (r x i left : ℕ) (row : List (ℕ × ℕ)) → i + 1 ≡ left → i < length row
    → with_child t r x (get_or row i (0, 0)).0 (children_among t r x (map (λ e. e.0) (drop left row))) ≡ children_among t r x (map (λ e. e.0) (drop i row))
children_more t r x i left row e l =
    ap (λ j. with_child t r x (get_or row i (0, 0)).0 (children_among t r x (map (λ f. f.0) (drop j row)))) (sym e) ∙ sym (ap (λ z. children_among t r x (map (λ f. f.0) z)) (drop_more row i (0, 0) l))

pub each_more : (P : ℕ × ℕ → Type 0) (row : List (ℕ × ℕ)) (i left : ℕ) → i + 1 ≡ left → i < length row → P (get_or row i (0, 0)) → ((k : ℕ) (d : ℕ × ℕ) → left ≤ k → k < length row → P (get_or row k d))
    → (k : ℕ) (d : ℕ × ℕ) → i ≤ k → k < length row → P (get_or row k d)
each_more P row i left e l at h k d le lt = elim (cases_eq i k) [
  | inl s ↦ subst (λ j. P (get_or row j d)) s (subst P (get_or_default row i (0, 0) d l) at)
  | inr ne ↦ h k d (omega (arith, e, le, ne)) lt
]

-- where all are numbered, so are those behind
tail_numbered : (t : Tables) (r x y depth end : ℕ) (heavy : Option ℕ) (ks : List ℕ) (f : ℕ) → AreNumbered t r f depth end (but heavy (with_child t r x y ks)) → (g : ℕ) × AreNumbered t r g depth end (but heavy ks)
tail_numbered t r x y depth end heavy ks f a =
    cond_both (parent_is x (t.entry y r)) (y ∷ ks) ks (λ zs. AreNumbered t r f depth end (but heavy zs) → (g : ℕ) × AreNumbered t r g depth end (but heavy ks)) (λ _. by heavy) (λ _ c. (f, c)) a
  where
    by : (o : Option ℕ) → AreNumbered t r f depth end (but o (y ∷ ks)) → (g : ℕ) × AreNumbered t r g depth end (but o ks)
    by None c = ((record_at t r y).last + 1, c.1.1)
    by (Some h) c =
        cond_both (not (y == h)) (y ∷ all_but h ks) (all_but h ks) (λ zs. AreNumbered t r f depth end zs → (g : ℕ) × AreNumbered t r g depth end (all_but h ks)) (λ _ b. ((record_at t r y).last + 1, b.1.1)) (λ _ b. (f, b)) c

pub rest_numbered : (t : Tables) (r x depth end : ℕ) (heavy : Option ℕ) (i : ℕ) (row : List (ℕ × ℕ)) (f : ℕ) → AreNumbered t r f depth end (but heavy (children_among t r x (map (λ e. e.0) row)))
    → (g : ℕ) × AreNumbered t r g depth end (but heavy (children_among t r x (map (λ e. e.0) (drop i row))))
rest_numbered t r x depth end heavy zero row f a = (f, a)
rest_numbered t r x depth end heavy (suc i) [] f a = (f, a)
rest_numbered t r x depth end heavy (suc i) (e ∷ row) f a =
    let b = tail_numbered t r x e.0 depth end heavy (children_among t r x (map (λ e. e.0) row)) f a in
    rest_numbered t r x depth end heavy i row b.0 b.1

-- at the front the pass knows all children
pub fit_at_front : (m : Network) (t : Tables) (x : ℕ) (e : Entry) (heavy : Option ℕ) (row : List (ℕ × ℕ)) (left start : ℕ) (w : Option ℕ × ℕ) → left ≤ 0 → row ≡ neighbours_of m x
    → StartsAt t e.root (e.tree_record.light_depth + 1) (e.tree_record.last + 1) (but heavy (children_among t e.root x (map (λ f. f.0) (drop left row)))) start
    → IsWidest t e.root (children_among t e.root x (map (λ f. f.0) (drop left row))) w → ((e.tree_record.heavy_last + 1 ≡ start) × (w.0 ≡ heavy)) ↔ AreChildrenFit m t x e heavy
unfolding AreChildrenFit
fit_at_front m t x e heavy row left start w none is numbers widest =
    let ks = children_among t e.root x (neighbours m x) in
    let zero_left : left ≡ 0 = omega (arith, none) in
    let same : children_among t e.root x (map (λ f. f.0) (drop left row)) ≡ ks = ap (λ j. children_among t e.root x (map (λ f. f.0) (drop j row))) zero_left ∙ ap (λ z. children_among t e.root x (map (λ f. f.0) z)) is in
    let all = subst (λ z. StartsAt t e.root (e.tree_record.light_depth + 1) (e.tree_record.last + 1) (but heavy z) start) same numbers in
    let wide = subst (λ z. IsWidest t e.root z w) same widest in
    (λ k. (sym wide.node ∙ k.1, (all (e.tree_record.heavy_last + 1)).1 k.0), λ k. ((all (e.tree_record.heavy_last + 1)).0 k.1, wide.node ∙ k.0))

-- ---- rows

-- each record in the tree of r has the port to its node's parent
abbrev pub HavePorts : Network → Tables → ℕ → Type 0
HavePorts m t r = (y : ℕ) → (record_at t r y).parent_port ≡ up_port m y (t.entry y r)

row_ports : (m : Network) (t : Tables) (r : ℕ) → HavePorts m t r → (f depth end : ℕ) (ys : List ℕ) → AreNumbered t r f (depth + 1) end ys → IsRow m t r false f depth end ys
row_ports m t r h f depth end [] a = a
row_ports m t r h f depth end (y ∷ ys) a = (record { first = a.0; depth_is = a.1.0; port = h y }, row_ports m t r h ((record_at t r y).last + 1) depth end ys a.1.1)

row_numbers : (m : Network) (t : Tables) (r f depth end : ℕ) (ys : List ℕ) → IsRow m t r false f depth end ys → AreNumbered t r f (depth + 1) end ys
row_numbers m t r f depth end [] a = a
row_numbers m t r f depth end (y ∷ ys) a = (a.0.first, (a.0.depth_is, row_numbers m t r ((record_at t r y).last + 1) depth end ys a.1))

module _ (m : Network) (t : Tables) (d : Distances m t) (n : t.nodes ≡ m.nodes) where
  row_is : (r x : ℕ) (o : Option ℕ) → first_widest t r (children_among t r x (neighbours m x)) ≡ o → in_row t r x ≡ row_by o (children_among t r x (neighbours m x))
  row_is r x o e = row_scan t r x ∙ ap (λ z. row_by (first_widest t r z) z) (children_near m t d n r x) ∙ ap (λ z. row_by z (children_among t r x (neighbours m x))) e

  down_is : (r x h : ℕ) (b : parent_is x (t.entry h r) ≡ true) → down_port m h (t.entry h r) ≡ port_to m x h
  down_is r x h b = (let c = child_of m t r x h (t.entry h r) refl b in ap (down_port m h) c.is ∙ down_at m h x c.entry c.parent)

  down_found : (r x h : ℕ) (b : parent_is x (t.entry h r) ≡ true) → (q : ℕ) × (port_to m x h ≡ Some q)
  down_found r x h b =
      let c = child_of m t r x h (t.entry h r) refl b in
      let w = (d.tight h x r c.entry c.is c.parent).0 in
      port_found m d.sound x h w.0 w.1.1.0

  -- a record is that of a row's parent
  abbrev IsOver : ℕ → Record → List ℕ → Type 0
  IsOver r k row = IsRow m t r true (k.first + 1) k.light_depth (k.last + 1) row × IsHeavyOf m t r k row

  module _ (x : ℕ) (e : Entry) where
    abbrev ks : List ℕ
    ks = children_among t e.root x (neighbours m x)

    -- the heavy child is o, and the others are numbered behind it
    abbrev IsCounted : Option ℕ → Type 0
    IsCounted o = (behind m x e.tree_record.heavy_port ≡ o)
        × (AreNumbered t e.root (e.tree_record.heavy_last + 1) (e.tree_record.light_depth + 1) (e.tree_record.last + 1) (but o ks) × LeadsTo t e.root e.tree_record o)

    -- the row of x is that of its children among its neighbours, the first of the widest in front
    over_row : (o : Option ℕ) → t.entry x e.root ≡ Some e → first_widest t e.root ks ≡ o → FitsBelow m t e.root x ↔ IsOver e.root (record_of e.tree_record) (row_by o ks)
    over_row o g w =
        let k : record_at t e.root x ≡ record_of e.tree_record = ap record_or g in
        let row = row_is e.root x o w in (
          λ fit. subst (IsOver e.root (record_of e.tree_record)) row (subst (λ z. IsOver e.root z (in_row t e.root x)) k (fit.row, fit.heavy)),
          λ a. (let b = subst (λ z. IsOver e.root z (in_row t e.root x)) (sym k) (subst (IsOver e.root (record_of e.tree_record)) (sym row) a) in record { row = b.0; heavy = b.1 }),
        )

    counted : (o : Option ℕ) → first_widest t e.root ks ≡ o
        → (IsOver e.root (record_of e.tree_record) (row_by o ks) → IsCounted o) × (HavePorts m t e.root → IsCounted o → IsOver e.root (record_of e.tree_record) (row_by o ks))
    counted None w =
        let none = none_widest t e.root ks w in (
          λ a. (
              let b : IsOver e.root (record_of e.tree_record) [] = subst (IsOver e.root (record_of e.tree_record)) none a in
              let end = b.0 in
              let last = b.1.0 in
              (ap (behind m x) b.1.1, (rw none (omega (arith, end, last)), (omega (arith, end), b.1)))),
          λ ports h. subst (IsOver e.root (record_of e.tree_record)) (sym none) (let first = h.1.1.0 in omega (arith, first), h.1.1.1),
        )
    counted (Some o) w =
        let c = widest_child t e.root x o (neighbours m x) w in
        let p = down_found e.root x o c in (
          λ a. (
            port_leads m x o p.0 e.tree_record.heavy_port p.1 (a.1.1 ∙ down_is e.root x o c),
            (rw a.1.0 (row_numbers m t e.root ((record_at t e.root o).last + 1) e.tree_record.light_depth (e.tree_record.last + 1) (all_but o ks) a.0.1), (a.0.0.first, (a.0.0.depth_is, sym a.1.0))),
          ),
          λ ports h. (
            (
              record { first = h.1.1.0; depth_is = h.1.1.1.0; port = ports o },
              rw h.1.1.1.1 (row_ports m t e.root ports (e.tree_record.heavy_last + 1) e.tree_record.light_depth (e.tree_record.last + 1) (all_but o ks) h.1.0),
            ),
            (sym h.1.1.1.1, behind_port m x o e.tree_record.heavy_port h.0 ∙ sym (down_is e.root x o c)),
          ),
        )

    pub fits_to : HavePorts m t e.root → t.entry x e.root ≡ Some e → FitsAt m t x e → FitsBelow m t e.root x
    unfolding FitsAt AreChildrenFit
    fits_to ports g fit = (let o = behind m x e.tree_record.heavy_port in (over_row o g fit.0.0).1 ((counted o fit.0.0).1 ports (refl, (fit.0.1, fit.1))))

    pub fits_from : t.entry x e.root ≡ Some e → FitsBelow m t e.root x → FitsAt m t x e
    unfolding FitsAt AreChildrenFit
    fits_from g fit =
        let o = first_widest t e.root ks in
        let a = (counted o refl).0 ((over_row o g refl).0 fit) in
        let b = subst IsCounted (sym a.0) a in
        ((sym a.0, b.1.0), b.1.1)

  -- where all rows fit, each record is that of its place in the tree, and so has the port to its node's parent
  own_port : HasLocalRecords m t → (x r : ℕ) (e : Entry) → t.entry x r ≡ Some e → (record_at t r x).parent_port ≡ up_port m x (t.entry x r)
  own_port h x r e g =
      let i = d.inside x r e g in
      let o = d.own r i in
      let a = entry_at m t d n x r e g in
      let s = tree_to_depth m t r a.0 x in
      let p = place s.node a.1.0.up a.1.0.down s.below a.1.0.first a.1.0.lights a.1.0.above in
      let at = (placed_tree m t r (λ y f k. node_inside m t d y r f k) (tree_at m t r) (tree_to_depth-node m t r (farthest t r m.nodes) r) o.0 o.1.0 o.1.1.1
      (tree_to_depth-fits m t r (farthest t r m.nodes) r) (λ q above k. local_records m t d h r q above i k) (p ∷ a.1.0.above) a.1.0.here).0.0 in
      subst (λ z. (record_at t r z).parent_port ≡ up_port m z (t.entry z r)) (tree_to_depth-node m t r a.0 x)
      (ap (λ (k : Record). k.parent_port) (ap record_or at.is ∙ at.tree_record) ∙ at.up ∙ sym (ap (up_port m s.node) at.is))

-- ---- the whole rule

pub records : (m : Network) (p : Parts) → Distances m (tables p) → IsShaped m p → ((x : ℕ) → x < m.nodes → IsLocalAt m p x) ↔ HasLocalRecords m (tables p)
unfolding IsLocalAt
records m p d s = (
  λ h r l. record {
    root = (h r l).0;
    below = λ x e g. (
        let k = fit h x r e g in
        subst (λ z. FitsBelow m (tables p) z x) k.1 (fits_to m (tables p) d s.nodes x e (λ y. ports h e.root y ((tables p).entry y e.root) refl) (subst (λ z. (tables p).entry x z ≡ Some e) (sym k.1) g) k.0.1));
  },
  λ h x l. (
    (h x l).root,
    (λ i f k. (
        let e = get_or (entries_at p x) i f in
        let g = found_at (entries_at p x) (s.roots_ascend x l) i f k in
        let port : e.tree_record.parent_port ≡ up_port m x (Some e) = subst (λ o. (record_or o).parent_port ≡ up_port m x o) g (own_port m (tables p) d s.nodes h x e.root e g) in
        (up_ported m (tables p) d x e g port, fits_from m (tables p) d s.nodes x e g ((h e.root (d.inside x e.root e g)).below x e g)))),
  ),
)
  where
    fit : ((x : ℕ) → x < m.nodes → IsLocalAt m p x) → (x r : ℕ) (e : Entry) → (tables p).entry x r ≡ Some e → (IsPorted m x e × FitsAt m (tables p) x e) × (e.root ≡ r)
    fit h x r e g = looked_up m p s.entries (λ y f. IsPorted m y f × FitsAt m (tables p) y f) (λ y i. (h y i).1) x r e g

    ports : ((x : ℕ) → x < m.nodes → IsLocalAt m p x) → (r y : ℕ) (o : Option Entry) → (tables p).entry y r ≡ o → (record_or o).parent_port ≡ up_port m y o
    ports h r y None q = refl
    ports h r y (Some e) q = ported_up m y e (fit h y r e q).0.0
