-- A label is that of the tree where its number is the record's and its light ports are those met on the climb.
use Rattle.std.proofs.Common.{◌≡◌, ℕ, zero, suc, ◌+◌, ◌≤◌, ◌<◌, ◌==◌, inl, inr, Bool, true, false, sym, refl, ap, subst, ◌∙◌, arith, List, [], ◌∷◌, length, length-append}
use Rattle.std.specs.Prelude.{Option, Some, None}
use Rattle.std.proofs.lemmas.Bool.{eq-eqb, ne_eqb}
use Rattle.route_tree.specs.Rose.{Forest, no_trees, twig, count}
use Rattle.heavy_labels.specs.Label.{Label}
use Rattle.heavy_labels.specs.Numbering.{Line, Place, Record, place, lights_at, or_zero, lines, tree_lines, Among}
use Rattle.heavy_labels.proofs.OneOf.{in_append, in_left, in_right}
use Rattle.schemes.specs.Entry.{Entry}
use Rattle.graph_edits.specs.Edges.{Network}
use Rattle.schemes.specs.Ports.{port_to}
use Rattle.schemes.specs.Tables.{Tables}
use Rattle.schemes.specs.Checks.{farthest, tree_at, distance_of, HasRecords, IsLabelIn}
use Rattle.schemes.specs.Local.{record_at, parent_of, lights_from, lights_to, IsLocalLabel}
use Rattle.schemes.proofs.Serving.Exact.{Distances}
use Rattle.schemes.proofs.Serving.StepsAsMoves.{down_at}
use Rattle.schemes.proofs.LocalForms.TreeOfTables.{AreChildrenOf, tree_to_depth-node, tree_to_depth-fits, HasItsRecord, node_inside, far_enough, entry_has_place}
use Rattle.schemes.proofs.LocalForms.LocalRecords.{child_farther}
use Rattle.schemes.proofs.LocalForms.TreeRecords.{HaveTheirRecords, record_of_place}

-- a place's light ports are those of the climb, from however many parents
abbrev pub IsClimbed : Network → Tables → ℕ → Place → Type 0
IsClimbed m t r p = (k : ℕ) → distance_of (t.entry p.node r) ≤ k → p.label.lights ≡ lights_to m t r k p.node

-- the test for a light edge
light_test : (h : Bool) (a c : ℕ) (ls : List ℕ) (w : Option ℕ) → a ≡ length (lights_at h ls w) → c ≡ length ls → (a == c) ≡ h
light_test true a c ls w e f = eq-eqb a c (e ∙ sym f)
light_test false a c ls w e f = ne_eqb a c (λ q. (let l = length-append ls (or_zero w ∷ []) in omega (arith, e, f, l, q)))

-- one step of the climb
climb_one : (m : Network) (t : Tables) (r k n y : ℕ) (e : Entry) → t.entry n r ≡ Some e → e.parent ≡ Some y → (h : Bool) (ls : List ℕ) (w : Option ℕ)
    → (record_at t r n).light_depth ≡ length (lights_at h ls w) → (record_at t r y).light_depth ≡ length ls → w ≡ port_to m y n → ls ≡ lights_to m t r k y
    → lights_at h ls w ≡ lights_to m t r (suc k) n
climb_one m t r k n y e g p h ls w e1 e2 e3 e4 =
    let test = light_test h (record_at t r n).light_depth (record_at t r y).light_depth ls w e1 e2 in
    let b : parent_of (t.entry n r) ≡ Some y = ap parent_of g ∙ p in
    ap (λ z. lights_at z ls w) (sym test)
    ∙ ap (λ z. lights_at ((record_at t r n).light_depth == (record_at t r y).light_depth) z w) e4
    ∙ ap (λ z. lights_at ((record_at t r n).light_depth == (record_at t r y).light_depth) (lights_to m t r k y) z) e3
    ∙ ap (lights_from (lights_to m t r k) m t r n) (sym b)

climbed_in : (m : Network) (t : Tables) (r : ℕ) → Distances m t → (fo : Forest) (h : Bool) (f : ℕ) (ls : List ℕ) (q : Place) (top : Line) → AreChildrenOf m t r q.node fo
    → HasItsRecord t r q → q.tree_record.light_depth ≡ length ls → q.label.lights ≡ ls → IsClimbed m t r q → HaveTheirRecords t r (lines fo h f ls (q ∷ top))
    → (p : Place) (above : Line) → Among (p ∷ above) (lines fo h f ls (q ∷ top)) → IsClimbed m t r p × (p.label.first ≡ p.tree_record.first)
climbed_in m t r d no_trees h f ls q top g kq dq lq c have p above a = absurd a
climbed_in m t r d (twig n u w below beside) h f ls q top g kq dq lq c have p above a =
    let ls1 = lights_at h ls w in
    let z = place n u w below f ls1 (q ∷ top) in
    let A = lines below true (f + 1) ls1 (z ∷ q ∷ top) in
    let B = lines beside false (f + 1 + count below) ls (q ∷ top) in
    let kz : HasItsRecord t r z = have z (q ∷ top) (inl refl) in
    let depth_z : (record_at t r n).light_depth ≡ length ls1 = ap (λ (v : Record). v.light_depth) (record_of_place t r n z kz refl) in
    let depth_q : (record_at t r q.node).light_depth ≡ length ls = ap (λ (v : Record). v.light_depth) (record_of_place t r q.node q kq refl) ∙ dq in
    let far : kq.0.distance < g.0.entry.distance = child_farther m t r d q.node n kq.0 u w kq.1.0 g.0 in
    let cz : IsClimbed m t r z = λ k le. up_one k (subst (λ v. v ≤ k) (ap distance_of g.0.is) le) far depth_z depth_q in
    elim a [
      | inl e ↦ subst (λ v. IsClimbed m t r v × (v.label.first ≡ v.tree_record.first)) (let g : z ≡ p = cc in g) (cz, refl)
      | inr b ↦ elim (in_append (p ∷ above) A B b) [
        | inl i ↦ climbed_in m t r d below true (f + 1) ls1 z (q ∷ top) g.1.0 kz refl refl cz (λ v ab j. have v ab (inr (in_left (v ∷ ab) A B j))) p above i
        | inr i ↦ climbed_in m t r d beside false (f + 1 + count below) ls q top g.1.1 kq dq lq c (λ v ab j. have v ab (inr (in_right (v ∷ ab) A B j))) p above i
      ]
    ]
  where
    up_one : (k : ℕ) → g.0.entry.distance ≤ k → kq.0.distance < g.0.entry.distance → (record_at t r n).light_depth ≡ length (lights_at h ls w) → (record_at t r q.node).light_depth ≡ length ls
        → lights_at h ls w ≡ lights_to m t r k n
    up_one zero le far e1 e2 = absurd (omega arith)
    up_one (suc k) le far e1 e2 =
        let dist : distance_of (t.entry q.node r) ≡ kq.0.distance = ap distance_of kq.1.0 in
        climb_one m t r k n q.node g.0.entry g.0.is g.0.parent h ls w e1 e2 (g.0.down ∙ down_at m n q.node g.0.entry g.0.parent) (sym lq ∙ c k (omega (arith, dist, far, le)))

-- the label of every place of the tree of r
pub place_label : (m : Network) (t : Tables) → Distances m t → HasRecords m t → (r : ℕ) → r < m.nodes → (p : Place) (above : Line) → Among (p ∷ above) (tree_lines (tree_at m t r)) → IsLocalLabel m t r p.node p.label
place_label m t d records r i p above a =
    let s = tree_at m t r in
    let k = farthest t r m.nodes in
    let root = place s.node None None s.below 0 [] [] in
    let have : HaveTheirRecords t r (tree_lines s) = λ q top b. records r q top i b in
    let kroot = have root [] (inl refl) in
    let o = d.own r i in
    let is : t.entry s.node r ≡ Some o.0 = ap (λ z. t.entry z r) (tree_to_depth-node m t r k r) ∙ o.1.0 in
    let croot : IsClimbed m t r root = λ j le. no_lights j s.node o.0 is o.1.1.1 in
    let got : IsClimbed m t r p × (p.label.first ≡ p.tree_record.first) = elim a [
      | inl e ↦ subst (λ v. IsClimbed m t r v × (v.label.first ≡ v.tree_record.first)) (let g : root ≡ p = cc in g) (croot, refl)
      | inr b ↦ climbed_in m t r d s.below true 1 [] root [] (tree_to_depth-fits m t r k r) kroot refl refl croot (λ v ab j. have v ab (inr j)) p above b
    ] in
    let kp = have p above a in
    let far = far_enough t r m.nodes p.node kp.0 (node_inside m t d p.node r kp.0 kp.1.0) kp.1.0 in
    let dist : distance_of (t.entry p.node r) ≡ kp.0.distance = ap distance_of kp.1.0 in
    (got.1 ∙ sym (ap (λ (v : Record). v.first) (record_of_place t r p.node p kp refl)), got.0 k (omega (arith, dist, far)))
  where
    no_lights : (j x : ℕ) (e : Entry) → t.entry x r ≡ Some e → e.parent ≡ None → [] ≡ lights_to m t r j x
    no_lights zero x e g n = refl
    no_lights (suc j) x e g n = (let b : parent_of (t.entry x r) ≡ None = ap parent_of g ∙ n in ap (lights_from (lights_to m t r j) m t r x) (sym b))

-- the two ways to say what a label is
pub local_label : (m : Network) (t : Tables) → Distances m t → HasRecords m t → (r v : ℕ) (l : Label) → r < m.nodes → IsLocalLabel m t r v l → IsLabelIn m t r v l
local_label m t d records r v l i h p above a is =
    let k = place_label m t d records r i p above a in
    let g : IsLocalLabel m t r p.node l = subst (λ z. IsLocalLabel m t r z l) (sym is) h in
    (λ j. record { first = (k.0 ∙ sym g.0) j; lights = (k.1 ∙ sym g.1) j })

pub label_local : (m : Network) (t : Tables) → Distances m t → HasRecords m t → t.nodes ≡ m.nodes → (r v : ℕ) (e : Entry) (l : Label) → t.entry v r ≡ Some e → IsLabelIn m t r v l → IsLocalLabel m t r v l
label_local m t d records nodes r v e l g h =
    let s = entry_has_place m t d nodes v r e g in
    let k = place_label m t d records r (d.inside v r e g) s.place s.above s.among in
    subst (λ z. IsLocalLabel m t r v z) (h s.place s.above s.among s.is) (subst (λ z. IsLocalLabel m t r z s.place.label) s.is k)
