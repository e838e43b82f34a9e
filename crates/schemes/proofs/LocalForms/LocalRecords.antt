-- Where the local equations hold, every record is that of the tree.
use Rattle.std.proofs.Common.{◌≡◌, ℕ, zero, suc, ◌+◌, ◌≤◌, ◌<◌, ◌==◌, inl, inr, Bool, true, false, cond, sym, refl, ap, subst, ◌∙◌, arith, List, [], ◌∷◌, ◌++◌, map, length, length-append, max}
use Rattle.std.specs.Prelude.{Option, Some, None}
use Rattle.std.proofs.lemmas.Bool.{cond_both}
use Rattle.std.proofs.lemmas.List.{map-append}
use Rattle.route_tree.specs.Rose.{count, of_list, Tree, tree_size}
use Rattle.route_tree.specs.Order.{heaviest, fronted}
use Rattle.heavy_labels.specs.Numbering.{Line, Place, Record, place, lights_at, or_zero, lines, tree_lines, heavy_last, heavy_port, Among}
use Rattle.heavy_labels.specs.Stepped.{record_of}
use Rattle.heavy_labels.proofs.OneOf.{in_append}
use Rattle.schemes.specs.Entry.{Entry}
use Rattle.graph_edits.specs.Edges.{Network, below as up_to}
use Rattle.schemes.specs.Ports.{filtered}
use Rattle.schemes.proofs.Basics.Walks.{edge_inside}
use Rattle.schemes.specs.Tables.{Tables}
use Rattle.schemes.specs.Checks.{parent_is, children, up_port, down_port, tree_to_depth, farthest, tree_at, HasRecords}
use Rattle.schemes.specs.Local.{record_or, record_at, span, widest_span, fronted_by, in_row, IsRow, IsHeavyOf, IsLocal}
use Rattle.schemes.proofs.Serving.Exact.{Distances}
use Rattle.schemes.proofs.Basics.Options.{same_value}
use Rattle.schemes.proofs.LocalForms.TreeOfTables.{IsChildOf, child_of, tree_to_depth-node, HasItsRecord, node_inside, far_enough}

abbrev pub Every : (ℕ → Type 0) → List ℕ → Type 0
Every P [] = Unit {0}
Every P (x ∷ xs) = P x × Every P xs

pub every_append : (P : ℕ → Type 0) (xs ys : List ℕ) → Every P xs → Every P ys → Every P (xs ++ ys)
every_append P [] ys a b = b
every_append P (x ∷ xs) ys a b = (a.0, every_append P xs ys a.1 b)

pub every_filtered : (P : ℕ → Type 0) (b : ℕ → Bool) → ((x : ℕ) → b x ≡ true → P x) → (xs : List ℕ) → Every P (filtered b xs)
every_filtered P b h [] = tt
every_filtered P b h (x ∷ xs) = (let rest = every_filtered P b h xs in cond_both (b x) (x ∷ filtered b xs) (filtered b xs) (Every P) (λ e. (h x e, rest)) (λ _. rest))

pub every_fronted : (P : ℕ → Type 0) (t : Tables) (r s : ℕ) (passed xs : List ℕ) → Every P passed → Every P xs → Every P (fronted_by t r s passed xs)
every_fronted P t r s passed [] a b = a
every_fronted P t r s passed (x ∷ xs) a b =
    cond_both (span (record_at t r x) == s) (x ∷ (passed ++ xs)) (fronted_by t r s (passed ++ x ∷ []) xs) (Every P)
    (λ _. (b.0, every_append P passed xs a b.1))
    (λ _. every_fronted P t r s (passed ++ x ∷ []) xs (every_append P passed (x ∷ []) a (b.0, tt)) b.1)

none_filtered : (b : ℕ → Bool) → ((x : ℕ) → b x ≡ true → ⊥) → (xs : List ℕ) → filtered b xs ≡ []
none_filtered b h [] = refl
none_filtered b h (x ∷ xs) = cond_both (b x) (x ∷ filtered b xs) (filtered b xs) (λ z. z ≡ []) (λ e. absurd (h x e)) (λ _. none_filtered b h xs)

pub same_record : (a b : Record) → a.first ≡ b.first → a.last ≡ b.last → a.heavy_last ≡ b.heavy_last → a.light_depth ≡ b.light_depth → a.parent_port ≡ b.parent_port → a.heavy_port ≡ b.heavy_port → a ≡ b
same_record a b e1 e2 e3 e4 e5 e6 = λ i. record { first = e1 i; last = e2 i; heavy_last = e3 i; light_depth = e4 i; parent_port = e5 i; heavy_port = e6 i }

pub tree_to_depth-up : (m : Network) (t : Tables) (r k x : ℕ) → (tree_to_depth m t r k x).up ≡ up_port m x (t.entry x r)
tree_to_depth-up m t r zero x = refl
tree_to_depth-up m t r (suc k) x = refl

pub tree_to_depth-down : (m : Network) (t : Tables) (r k x : ℕ) → (tree_to_depth m t r k x).down ≡ down_port m x (t.entry x r)
tree_to_depth-down m t r zero x = refl
tree_to_depth-down m t r (suc k) x = refl

-- the record of x says how large the tree tree_to_depth k deep is
abbrev pub Sized : Network → Tables → ℕ → ℕ → ℕ → Type 0
Sized m t r k x = tree_size (tree_to_depth m t r k x) + (record_at t r x).first ≡ (record_at t r x).last + 1

size_is_span : (m : Network) (t : Tables) (r k x : ℕ) → Sized m t r k x → tree_size (tree_to_depth m t r k x) ≡ span (record_at t r x)
size_is_span m t r k x e = omega (arith, e)

heaviest_map : (m : Network) (t : Tables) (r k : ℕ) (xs : List ℕ) → Every (Sized m t r k) xs → heaviest (map (tree_to_depth m t r k) xs) ≡ widest_span t r xs
heaviest_map m t r k [] e = refl
heaviest_map m t r k (x ∷ xs) e =
    ap (λ z. max z (heaviest (map (tree_to_depth m t r k) xs))) (size_is_span m t r k x e.0) ∙ ap (λ z. max (span (record_at t r x)) z) (heaviest_map m t r k xs e.1)

fronted_map : (m : Network) (t : Tables) (r k s : ℕ) (passed xs : List ℕ) → Every (Sized m t r k) xs
    → fronted s (map (tree_to_depth m t r k) passed) (map (tree_to_depth m t r k) xs) ≡ map (tree_to_depth m t r k) (fronted_by t r s passed xs)
fronted_map m t r k s passed [] e = refl
fronted_map m t r k s passed (x ∷ xs) e =
    let T : ℕ → Tree = tree_to_depth m t r k in
    ap (λ z. cond (z == s) (T x ∷ (map T passed ++ map T xs)) (fronted s (map T passed ++ T x ∷ []) (map T xs))) (size_is_span m t r k x e.0)
    ∙ elim (span (record_at t r x) == s) as (λ b. cond b (T x ∷ (map T passed ++ map T xs)) (fronted s (map T passed ++ T x ∷ []) (map T xs)) ≡ map T (cond b (x ∷ (passed ++ xs)) (fronted_by t r s (passed ++ x ∷ []) xs))) [
      | true ↦ ap (λ z. T x ∷ z) (sym (map-append T passed xs))
      | false ↦ ap (λ z. fronted s z (map T xs)) (sym (map-append T passed (x ∷ []))) ∙ fronted_map m t r k s (passed ++ x ∷ []) xs e.1
    ]

-- where the children's records say their sizes, the tree's order of children is that of the records
pub shape : (m : Network) (t : Tables) (r k x : ℕ) → Every (Sized m t r k) (children t r x) → (tree_to_depth m t r (suc k) x).below ≡ of_list (map (tree_to_depth m t r k) (in_row t r x))
shape m t r k x e =
    let ss = map (tree_to_depth m t r k) (children t r x) in
    ap of_list (ap (λ z. fronted z [] ss) (heaviest_map m t r k (children t r x) e) ∙ fronted_map m t r k (widest_span t r (children t r x)) [] (children t r x) e)

count_row : (m : Network) (t : Tables) (r k : ℕ) (h : Bool) (f depth end : ℕ) (ys : List ℕ) → Every (Sized m t r k) ys → IsRow m t r h f depth end ys → f + count (of_list (map (tree_to_depth m t r k) ys)) ≡ end
count_row m t r k h f depth end [] s g = omega (arith, g)
count_row m t r k h f depth end (y ∷ ys) s g =
    let ih = count_row m t r k false ((record_at t r y).last + 1) depth end ys s.1 g.1 in
    omega (arith, ih, s.0, g.0.first)

heavy_row : (m : Network) (t : Tables) (r k : ℕ) (a : Record) (f depth end : ℕ) (ys : List ℕ) → Every (Sized m t r k) ys → IsRow m t r true (f + 1) depth end ys → a.first ≡ f → IsHeavyOf m t r a ys
    → (a.heavy_last ≡ heavy_last f (of_list (map (tree_to_depth m t r k) ys))) × (a.heavy_port ≡ heavy_port (of_list (map (tree_to_depth m t r k) ys)))
heavy_row m t r k a f depth end [] s g e v = (v.0 ∙ e, v.1)
heavy_row m t r k a f depth end (y ∷ ys) s g e v = (omega (arith, v.0, s.0, g.0.first), v.1 ∙ sym (tree_to_depth-down m t r k y))

pub lights_length : (h : Bool) (ls : List ℕ) (d : Option ℕ) (depth : ℕ) → depth ≡ length ls → cond h depth (depth + 1) ≡ length (lights_at h ls d)
lights_length true ls d depth e = e
lights_length false ls d depth e = omega (arith, e, length-append ls (or_zero d ∷ []))

-- an entry for r whose tree is tree_to_depth deep enough
abbrev pub IsDeep : Network → Tables → ℕ → ℕ → ℕ → Type 0
IsDeep m t r k x = (e : Entry) × ((t.entry x r ≡ Some e) × (farthest t r m.nodes ≤ e.distance + k))

module _ (m : Network) (t : Tables) (r : ℕ) (d : Distances m t) where
  -- a child is farther
  pub child_farther : (x y : ℕ) (e : Entry) (u : Option ℕ) (v : Option ℕ) → t.entry x r ≡ Some e → (g : IsChildOf m t r x y u v) → e.distance < g.entry.distance
  child_farther x y e u v i g =
      let c = (d.tight y x r g.entry g.is g.parent).0 in
      let s = ap (λ (z : Entry). z.distance) (same_value i c.1.1.1.0) in
      let pos = edge_inside m d.sound x y c.0 c.1.1.0 in
      omega (arith, c.1.1.1.1, pos.1.1, s)

  pub child_deep : (k x y : ℕ) → IsDeep m t r (suc k) x → parent_is x (t.entry y r) ≡ true → IsDeep m t r k y
  child_deep k x y p g =
      let a = child_of m t r x y (t.entry y r) refl g in
      let far = child_farther x y p.0 (up_port m y (t.entry y r)) (down_port m y (t.entry y r)) p.1.0 a in
      (a.entry, (a.is, omega (arith, far, p.1.1)))

  pub no_child : (x : ℕ) → IsDeep m t r 0 x → (y : ℕ) → parent_is x (t.entry y r) ≡ true → ⊥
  no_child x p y g =
      let a = child_of m t r x y (t.entry y r) refl g in
      let far = child_farther x y p.0 (up_port m y (t.entry y r)) (down_port m y (t.entry y r)) p.1.0 a in
      let most = far_enough t r m.nodes y a.entry (node_inside m t d y r a.entry a.is) a.is in
      omega (arith, far, most, p.1.1)

  pub row_empty : (x : ℕ) → IsDeep m t r 0 x → in_row t r x ≡ []
  row_empty x p = ap (λ z. fronted_by t r (widest_span t r z) [] z) (none_filtered (λ y. parent_is x (t.entry y r)) (no_child x p) (up_to t.nodes))

  -- what holds of each deep enough holds of the children, in either order
  every_child : (P : ℕ → Type 0) (k x : ℕ) → ((y : ℕ) → IsDeep m t r k y → P y) → IsDeep m t r (suc k) x → Every P (children t r x)
  every_child P k x h p = every_filtered P (λ y. parent_is x (t.entry y r)) (λ y g. h y (child_deep k x y p g)) (up_to t.nodes)

  every_in_row : (P : ℕ → Type 0) (k x : ℕ) → ((y : ℕ) → IsDeep m t r k y → P y) → IsDeep m t r (suc k) x → Every P (in_row t r x)
  every_in_row P k x h p = every_fronted P t r (widest_span t r (children t r x)) [] (children t r x) tt (every_child P k x h p)

module _ (m : Network) (t : Tables) (r : ℕ) (d : Distances m t) (loc : IsLocal m t r) where
  sized : (k x : ℕ) → IsDeep m t r k x → Sized m t r k x
  sized zero x p =
      let row = subst (IsRow m t r true ((record_at t r x).first + 1) (record_at t r x).light_depth ((record_at t r x).last + 1)) (row_empty m t r d x p) (loc.below x p.0 p.1.0).row in
      omega (arith, row)
  sized (suc k) x p =
      let kids = every_child m t r d (Sized m t r k) k x (λ y q. sized k y q) p in
      let row = every_in_row m t r d (Sized m t r k) k x (λ y q. sized k y q) p in
      let c = count_row m t r k true ((record_at t r x).first + 1) (record_at t r x).light_depth ((record_at t r x).last + 1) (in_row t r x) row (loc.below x p.0 p.1.0).row in
      let s = ap count (shape m t r k x kids) in
      omega (arith, c, s)

  sized_kids : (k x : ℕ) → IsDeep m t r (suc k) x → Every (Sized m t r k) (children t r x)
  sized_kids k x p = every_child m t r d (Sized m t r k) k x (sized k) p

  heavy_fits : (k x f : ℕ) → IsDeep m t r k x → (record_at t r x).first ≡ f
      → ((record_at t r x).heavy_last ≡ heavy_last f (tree_to_depth m t r k x).below) × ((record_at t r x).heavy_port ≡ heavy_port (tree_to_depth m t r k x).below)
  heavy_fits zero x f p e =
      let v = subst (IsHeavyOf m t r (record_at t r x)) (row_empty m t r d x p) (loc.below x p.0 p.1.0).heavy in
      (v.0 ∙ e, v.1)
  heavy_fits (suc k) x f p e =
      let b = loc.below x p.0 p.1.0 in
      let row = subst (λ z. IsRow m t r true (z + 1) (record_at t r x).light_depth ((record_at t r x).last + 1) (in_row t r x)) e b.row in
      let v = heavy_row m t r k (record_at t r x) f (record_at t r x).light_depth ((record_at t r x).last + 1) (in_row t r x) (every_in_row m t r d (Sized m t r k) k x (sized k) p) row e b.heavy in
      let s = sym (shape m t r k x (sized_kids k x p)) in
      (v.0 ∙ ap (heavy_last f) s, v.1 ∙ ap heavy_port s)

  -- one place
  record_here : (k x n f : ℕ) (u w : Option ℕ) (ls : List ℕ) (above : Line) → IsDeep m t r k x → n ≡ x → (record_at t r x).first ≡ f → (record_at t r x).light_depth ≡ length ls → (record_at t r x).parent_port ≡ u
      → HasItsRecord t r (place n u w (tree_to_depth m t r k x).below f ls above)
  record_here k x n f u w ls above p is e1 e2 e3 =
      let s = sized k x p in
      let v = heavy_fits k x f p e1 in
      let a : record_at t r x ≡ record_of p.0.tree_record = ap record_or p.1.0 in (
        p.0,
        (
          ap (λ z. t.entry z r) is ∙ p.1.0,
          sym a ∙ same_record (record_at t r x) (place n u w (tree_to_depth m t r k x).below f ls above).tree_record e1 (omega (arith, s, e1)) v.0 e2 e3 v.1,
        ),
      )

  abbrev pub RecordsBelow : ℕ → Type 0
  RecordsBelow k = (x f : ℕ) (ls : List ℕ) (above : Line) → IsDeep m t r k x → (record_at t r x).first ≡ f → (record_at t r x).light_depth ≡ length ls
      → (p : Place) (top : Line) → Among (p ∷ top) (lines (tree_to_depth m t r k x).below true (f + 1) ls above) → HasItsRecord t r p

  records_of_row : (k : ℕ) → RecordsBelow k → (ys : List ℕ) (h : Bool) (f depth end : ℕ) (ls : List ℕ) (above : Line) → Every (IsDeep m t r k) ys → depth ≡ length ls → IsRow m t r h f depth end ys
      → (p : Place) (top : Line) → Among (p ∷ top) (lines (of_list (map (tree_to_depth m t r k) ys)) h f ls above) → HasItsRecord t r p
  records_of_row k deep [] h f depth end ls above e l g p top a = absurd a
  records_of_row k deep (y ∷ ys) h f depth end ls above e l g p top a =
      let s = tree_to_depth m t r k y in
      let ls1 = lights_at h ls s.down in
      let here = place s.node s.up s.down s.below f ls1 above in
      let rest = of_list (map (tree_to_depth m t r k) ys) in
      let A = lines s.below true (f + 1) ls1 (here ∷ above) in
      let B = lines rest false (f + 1 + count s.below) ls above in
      let depth1 : (record_at t r y).light_depth ≡ length ls1 = g.0.depth_is ∙ lights_length h ls s.down depth l in
      let next : (record_at t r y).last + 1 ≡ f + 1 + count s.below = (let z = sized k y e.0 in omega (arith, z, g.0.first)) in
      elim a [
        | inl i ↦ subst (HasItsRecord t r) (let g : here ≡ p = cc in g)
            (record_here k y s.node f s.up s.down ls1 above e.0 (tree_to_depth-node m t r k y) g.0.first depth1 (g.0.port ∙ sym (tree_to_depth-up m t r k y)))
        | inr b ↦ elim (in_append (p ∷ top) A B b) [
          | inl c ↦ deep y f ls1 (here ∷ above) e.0 g.0.first depth1 p top c
          | inr c ↦ records_of_row k deep ys false (f + 1 + count s.below) depth end ls above e.1 l (subst (λ z. IsRow m t r false z depth end ys) next g.1) p top c
        ]
      ]

  records_below : (k : ℕ) → RecordsBelow k
  records_below zero x f ls above q e1 e2 p top a = absurd a
  records_below (suc k) x f ls above q e1 e2 p top a =
      let b = loc.below x q.0 q.1.0 in
      let row = subst (λ z. IsRow m t r true (z + 1) (record_at t r x).light_depth ((record_at t r x).last + 1) (in_row t r x)) e1 b.row in
      records_of_row k (records_below k) (in_row t r x) true (f + 1) (record_at t r x).light_depth ((record_at t r x).last + 1) ls above (every_in_row m t r d (IsDeep m t r k) k x (λ y z. z) q) e2 row p top
      (subst (λ z. Among (p ∷ top) (lines z true (f + 1) ls above)) (shape m t r k x (sized_kids k x q)) a)

  -- every record of the tree of r is right
  pub local_has_record : r < m.nodes → (p : Place) (top : Line) → Among (p ∷ top) (tree_lines (tree_at m t r)) → HasItsRecord t r p
  local_has_record i p top a =
      let o = d.own r i in
      let k = farthest t r m.nodes in
      let q : IsDeep m t r k r = (o.0, (o.1.0, omega arith)) in
      let s = tree_at m t r in
      let here = place s.node None None s.below 0 [] [] in
      elim a [
        | inl e ↦ subst (HasItsRecord t r) (let g : here ≡ p = cc in g)
            (record_here k r s.node 0 None None [] [] q (tree_to_depth-node m t r k r) loc.root.first loc.root.depth loc.root.port)
        | inr b ↦ records_below k r 0 [] (here ∷ []) q loc.root.first loc.root.depth p top b
      ]

pub local_records : (m : Network) (t : Tables) → Distances m t → ((r : ℕ) → r < m.nodes → IsLocal m t r) → HasRecords m t
local_records m t d loc r p above i a = local_has_record m t r d (loc r i) i p above a
