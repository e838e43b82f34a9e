-- Where every record is that of the tree, the local equations hold.
use Rattle.std.proofs.Common.{◌≡◌, ℕ, zero, suc, ◌+◌, ◌<◌, inl, inr, Bool, true, false, sym, refl, ap, subst, ◌∙◌, arith, List, [], ◌∷◌, map, length}
use Rattle.route_tree.specs.Rose.{count, of_list}
use Rattle.heavy_labels.specs.Numbering.{Line, Place, Record, place, lights_at, lines, tree_lines, heavy_last, heavy_port, Among}
use Rattle.heavy_labels.proofs.OneOf.{in_right}
use Rattle.graph_edits.specs.Edges.{Network, below as up_to}
use Rattle.schemes.specs.Tables.{Tables}
use Rattle.schemes.specs.Checks.{parent_is, tree_to_depth, farthest, tree_at, HasRecords}
use Rattle.schemes.specs.Local.{record_or, record_at, in_row, IsRow, IsHeavyOf, FitsBelow, IsLocal}
use Rattle.schemes.proofs.Serving.Exact.{Distances}
use Rattle.schemes.proofs.LocalForms.TreeOfTables.{child_of, tree_to_depth-node, HasItsRecord, node_inside, AtTree, at_root, at_child, entry_at}
use Rattle.schemes.proofs.LocalForms.LocalRecords.{every_filtered, lights_length, tree_to_depth-up, tree_to_depth-down, Sized, shape, IsDeep, row_empty}

pub record_of_place : (t : Tables) (r x : ℕ) (p : Place) → HasItsRecord t r p → p.node ≡ x → record_at t r x ≡ p.tree_record
record_of_place t r x p k is = ap (λ z. record_at t r z) (sym is) ∙ ap record_or k.1.0 ∙ k.1.1

abbrev pub HaveTheirRecords : Tables → ℕ → List Line → Type 0
HaveTheirRecords t r all = (p : Place) (above : Line) → Among (p ∷ above) all → HasItsRecord t r p

row_of : (m : Network) (t : Tables) (r k : ℕ) (ys : List ℕ) (h : Bool) (f : ℕ) (ls : List ℕ) (above : Line) → HaveTheirRecords t r (lines (of_list (map (tree_to_depth m t r k) ys)) h f ls above)
    → IsRow m t r h f (length ls) (f + count (of_list (map (tree_to_depth m t r k) ys))) ys
row_of m t r k [] h f ls above g = omega arith
row_of m t r k (y ∷ ys) h f ls above g =
    let s = tree_to_depth m t r k y in
    let ls1 = lights_at h ls s.down in
    let p = place s.node s.up s.down s.below f ls1 above in
    let rest = of_list (map (tree_to_depth m t r k) ys) in
    let A = lines s.below true (f + 1) ls1 (p ∷ above) in
    let B = lines rest false (f + 1 + count s.below) ls above in
    let is = record_of_place t r y p (g p above (inl refl)) (tree_to_depth-node m t r k y) in
    let last : (record_at t r y).last ≡ f + count s.below = ap (λ (z : Record). z.last) is in
    let next : f + 1 + count s.below ≡ (record_at t r y).last + 1 = omega (arith, last) in
    let end : (f + 1 + count s.below) + count rest ≡ f + (1 + count s.below + count rest) = omega arith in
    let ih = row_of m t r k ys false (f + 1 + count s.below) ls above (λ q top a. g q top (inr (in_right (q ∷ top) A B a))) in (
      record {
        first = ap (λ (z : Record). z.first) is;
        depth_is = ap (λ (z : Record). z.light_depth) is ∙ sym (lights_length h ls s.down (length ls) refl);
        port = ap (λ (z : Record). z.parent_port) is ∙ tree_to_depth-up m t r k y;
      },
      subst (λ z. IsRow m t r false z (length ls) (f + (1 + count s.below + count rest)) ys) next
          (subst (λ z. IsRow m t r false (f + 1 + count s.below) (length ls) z ys) end ih),
    )

heavy_of : (m : Network) (t : Tables) (r k : ℕ) (a : Record) (ys : List ℕ) (f : ℕ) (ls : List ℕ) (above : Line) → HaveTheirRecords t r (lines (of_list (map (tree_to_depth m t r k) ys)) true (f + 1) ls above)
    → a.first ≡ f → a.heavy_last ≡ heavy_last f (of_list (map (tree_to_depth m t r k) ys)) → a.heavy_port ≡ heavy_port (of_list (map (tree_to_depth m t r k) ys)) → IsHeavyOf m t r a ys
heavy_of m t r k a [] f ls above g e1 e2 e3 = (e2 ∙ sym e1, e3)
heavy_of m t r k a (y ∷ ys) f ls above g e1 e2 e3 =
    let s = tree_to_depth m t r k y in
    let p = place s.node s.up s.down s.below (f + 1) ls above in
    let last : (record_at t r y).last ≡ f + 1 + count s.below = ap (λ (z : Record). z.last) (record_of_place t r y p (g p above (inl refl)) (tree_to_depth-node m t r k y)) in
    (omega (arith, e2, last), e3 ∙ tree_to_depth-down m t r k y)

module _ (m : Network) (t : Tables) (r : ℕ) (d : Distances m t) (nodes : t.nodes ≡ m.nodes) (all : List Line) (have : HaveTheirRecords t r all) where
  record_is : (k x : ℕ) → (a : AtTree (tree_to_depth m t r k x) all) → record_at t r x ≡ (place (tree_to_depth m t r k x).node a.up a.down (tree_to_depth m t r k x).below a.first a.lights a.above).tree_record
  record_is k x a =
      let p = place (tree_to_depth m t r k x).node a.up a.down (tree_to_depth m t r k x).below a.first a.lights a.above in
      record_of_place t r x p (have p a.above a.here) (tree_to_depth-node m t r k x)

  at_sized : (k x : ℕ) → AtTree (tree_to_depth m t r k x) all → Sized m t r k x
  at_sized k x a =
      let is = record_is k x a in
      let e1 : (record_at t r x).first ≡ a.first = ap (λ (z : Record). z.first) is in
      let e2 : (record_at t r x).last ≡ a.first + count (tree_to_depth m t r k x).below = ap (λ (z : Record). z.last) is in
      omega (arith, e1, e2)

  -- the entry of x keeps the local equations, where the trees below it stand in the order of its row
  fits_row : (j k x : ℕ) → AtTree (tree_to_depth m t r j x) all → (tree_to_depth m t r j x).below ≡ of_list (map (tree_to_depth m t r k) (in_row t r x)) → FitsBelow m t r x
  fits_row j k x a form =
      let s = tree_to_depth m t r j x in
      let rest = of_list (map (tree_to_depth m t r k) (in_row t r x)) in
      let is = record_is j x a in
      let here = place s.node a.up a.down s.below a.first a.lights a.above in
      let keeps : HaveTheirRecords t r (lines rest true (a.first + 1) a.lights (here ∷ a.above)) = λ q top b.
      have q top (a.below (q ∷ top) (subst (λ z. Among (q ∷ top) (lines z true (a.first + 1) a.lights (here ∷ a.above))) (sym form) b)) in
      let row = row_of m t r k (in_row t r x) true (a.first + 1) a.lights (here ∷ a.above) keeps in
      let e1 : (record_at t r x).first ≡ a.first = ap (λ (z : Record). z.first) is in
      let e2 : (record_at t r x).last ≡ a.first + count s.below = ap (λ (z : Record). z.last) is in
      let e3 : (record_at t r x).light_depth ≡ length a.lights = ap (λ (z : Record). z.light_depth) is in
      let e4 : (record_at t r x).heavy_last ≡ heavy_last a.first rest = ap (λ (z : Record). z.heavy_last) is ∙ ap (heavy_last a.first) form in
      let e5 : (record_at t r x).heavy_port ≡ heavy_port rest = ap (λ (z : Record). z.heavy_port) is ∙ ap heavy_port form in
      let c : count s.below ≡ count rest = ap count form in
      let end : (a.first + 1) + count rest ≡ (record_at t r x).last + 1 = omega (arith, e2, c) in
      record {
        row = subst (λ z. IsRow m t r true (z + 1) (record_at t r x).light_depth ((record_at t r x).last + 1) (in_row t r x)) (sym e1)
            (subst (λ z. IsRow m t r true (a.first + 1) z ((record_at t r x).last + 1) (in_row t r x)) (sym e3)
            (subst (λ z. IsRow m t r true (a.first + 1) (length a.lights) z (in_row t r x)) end row));
        heavy = heavy_of m t r k (record_at t r x) (in_row t r x) a.first a.lights (here ∷ a.above) keeps e1 e4 e5;
      }

  fits : (k x : ℕ) → IsDeep m t r k x → AtTree (tree_to_depth m t r k x) all → FitsBelow m t r x
  fits zero x p a = fits_row zero zero x a (ap (λ ys. of_list (map (tree_to_depth m t r zero) ys)) (sym (row_empty m t r d x p)))
  fits (suc k) x p a =
      let child : (y : ℕ) → parent_is x (t.entry y r) ≡ true → Sized m t r k y = λ y g.
      (let q = child_of m t r x y (t.entry y r) refl g in at_sized k y (at_child m t r k x y all a g (subst (λ z. y < z) (sym nodes) (node_inside m t d y r q.entry q.is)))) in
      fits_row (suc k) k x a (shape m t r k x (every_filtered (Sized m t r k) (λ y. parent_is x (t.entry y r)) child (up_to t.nodes)))

pub records_local : (m : Network) (t : Tables) → Distances m t → t.nodes ≡ m.nodes → HasRecords m t → (r : ℕ) → r < m.nodes → IsLocal m t r
records_local m t d nodes records r i =
    let s = tree_at m t r in
    let k = farthest t r m.nodes in
    let all = tree_lines s in
    let have : HaveTheirRecords t r all = λ p above a. records r p above i a in
    let is = record_is m t r d nodes all have k r (at_root s) in
    record {
      root = record { first = ap (λ (z : Record). z.first) is; depth = ap (λ (z : Record). z.light_depth) is; port = ap (λ (z : Record). z.parent_port) is };
      below = λ x e g. (
          let a = entry_at m t d nodes x r e g in
          fits m t r d nodes all have a.0 x (e, (g, a.1.1)) a.1.0);
    }
