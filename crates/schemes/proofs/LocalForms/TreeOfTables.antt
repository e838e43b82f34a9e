-- The tree that the parents give: each of its places is an entry of the tables, and each entry has a place in it.
use Rattle.std.proofs.Common.{◌≡◌, ℕ, zero, suc, ◌+◌, ◌≤◌, ◌<◌, ◌==◌, inl, inr, Bool, true, false, sym, refl, ap, subst, ◌∙◌, arith, List, [], ◌∷◌, map}
use Rattle.std.specs.Prelude.{Option, Some, None}
use Rattle.std.proofs.Math.Nat.{le-max_left, le-max_right}
use Rattle.std.proofs.lemmas.Bool.{cases_lt, eqb-true, eq-eqb, false≢true}
use Rattle.route_tree.specs.Rose.{Forest, no_trees, twig, count, of_list, Tree, tree_size}
use Rattle.route_tree.specs.Order.{heaviest, fronted}
use Rattle.route_tree.specs.Shape.{HasPorts}
use Rattle.heavy_labels.specs.Numbering.{Line, Place, Record, place, lights_at, lines, tree_lines, Among}
use Rattle.heavy_labels.specs.Stepped.{record_of}
use Rattle.heavy_labels.proofs.OneOf.{in_append, in_left, in_right}
use Rattle.schemes.specs.Entry.{Entry}
use Rattle.graph_edits.specs.Edges.{Network, below as up_to}
use Rattle.schemes.proofs.Basics.Walks.{symmetric, edge_inside}
use Rattle.schemes.specs.Tables.{Tables}
use Rattle.schemes.specs.Checks.{parent_is, children, up_port, down_port, tree_to_depth, distance_of, farthest, tree_at}
use Rattle.schemes.proofs.Serving.StepsAsMoves.{IsAtPlace, AreAtPlaces, up_at, down_at}
use Rattle.schemes.proofs.Basics.Options.{same_value}
use Rattle.schemes.proofs.Serving.TripLengths.{Chained}
use Rattle.schemes.proofs.Serving.Exact.{Distances}
use Rattle.schemes.proofs.Basics.Lists.{Each, Any, Covers, each_fronted, any_fronted, each_filtered, any_filtered, within_up_to, port_found, at_most}

-- the node n child_of on y in the tree of r, by these ports
pub record IsChildOf (m : Network) (t : Tables) (r y n : ℕ) (u d : Option ℕ) : Type 0 where
  pub entry : Entry
  pub is : t.entry n r ≡ Some entry
  pub parent : entry.parent ≡ Some y
  pub up : u ≡ up_port m n (Some entry)
  pub down : d ≡ down_port m n (Some entry)

-- every tree of a forest child_of on y, and so on below
abbrev pub AreChildrenOf : Network → Tables → ℕ → ℕ → Forest → Type 0
AreChildrenOf m t r y no_trees = Unit {0}
AreChildrenOf m t r y (twig n u d below beside) = IsChildOf m t r y n u d × (AreChildrenOf m t r n below × AreChildrenOf m t r y beside)

abbrev pub IsSubtreeOf : Network → Tables → ℕ → ℕ → Tree → Type 0
IsSubtreeOf m t r y s = IsChildOf m t r y s.node s.up s.down × AreChildrenOf m t r s.node s.below

-- x is reached from z by c steps from a parent to a child
abbrev pub Reaches : Tables → ℕ → ℕ → ℕ → ℕ → Type 0
Reaches t r zero z x = z ≡ x
Reaches t r (suc c) z x = (y : ℕ) × ((e : Entry) × ((t.entry y r ≡ Some e) × ((e.parent ≡ Some z) × Reaches t r c y x)))

children_of_list : (m : Network) (t : Tables) (r y : ℕ) (ss : List Tree) → Each (IsSubtreeOf m t r y) ss → AreChildrenOf m t r y (of_list ss)
children_of_list m t r y [] e = tt
children_of_list m t r y (s ∷ ss) e = (e.0.0, (e.0.1, children_of_list m t r y ss e.1))

is_parent : (y : ℕ) (o : Option ℕ) → elim o [ None ↦ false | Some z ↦ z == y ] ≡ true → o ≡ Some y
is_parent y None e = absurd (false≢true e)
is_parent y (Some z) e = ap (λ w. Some w) (eqb-true z y e)

parent_test : (y : ℕ) (o : Option ℕ) → o ≡ Some y → elim o [ None ↦ false | Some z ↦ z == y ] ≡ true
parent_test y o e = rw e (eq-eqb y y refl)

pub parent_is_from : (t : Tables) (r z y : ℕ) (e : Entry) → t.entry y r ≡ Some e → e.parent ≡ Some z → parent_is z (t.entry y r) ≡ true
parent_is_from t r z y e g p = ap (parent_is z) g ∙ parent_test z e.parent p

pub child_of : (m : Network) (t : Tables) (r y x : ℕ) (o : Option Entry) → t.entry x r ≡ o → parent_is y o ≡ true → IsChildOf m t r y x (up_port m x o) (down_port m x o)
child_of m t r y x None q g = absurd (false≢true g)
child_of m t r y x (Some e) q g = record { entry = e; is = q; parent = is_parent y e.parent g; up = refl; down = refl }

pub tree_to_depth-node : (m : Network) (t : Tables) (r k x : ℕ) → (tree_to_depth m t r k x).node ≡ x
tree_to_depth-node m t r zero x = refl
tree_to_depth-node m t r (suc k) x = refl

tree_to_depth-child : (m : Network) (t : Tables) (r k y x : ℕ) → parent_is y (t.entry x r) ≡ true → IsChildOf m t r y (tree_to_depth m t r k x).node (tree_to_depth m t r k x).up (tree_to_depth m t r k x).down
tree_to_depth-child m t r zero y x g = child_of m t r y x (t.entry x r) refl g
tree_to_depth-child m t r (suc k) y x g = child_of m t r y x (t.entry x r) refl g

-- every place below the root of a tree_to_depth tree child_of where its entry says
pub tree_to_depth-fits : (m : Network) (t : Tables) (r k x : ℕ) → AreChildrenOf m t r (tree_to_depth m t r k x).node (tree_to_depth m t r k x).below
tree_to_depth-fits m t r zero x = tt
tree_to_depth-fits m t r (suc k) x =
    let ss = map (tree_to_depth m t r k) (children t r x) in
    let each : Each (IsSubtreeOf m t r x) ss =
    each_filtered (IsSubtreeOf m t r x) (tree_to_depth m t r k) (λ z. parent_is x (t.entry z r)) (λ z g. (tree_to_depth-child m t r k x z g, tree_to_depth-fits m t r k z)) (up_to t.nodes) in
    children_of_list m t r x (fronted (heaviest ss) [] ss) (each_fronted (IsSubtreeOf m t r x) (heaviest ss) [] ss tt each)

reaches_more : (t : Tables) (r c z y x : ℕ) (e : Entry) → Reaches t r c z y → t.entry x r ≡ Some e → e.parent ≡ Some y → Reaches t r (suc c) z x
reaches_more t r zero z y x e b g p = (x, (e, (g, (p ∙ ap (λ w. Some w) (sym b), refl))))
reaches_more t r (suc c) z y x e b g p = (b.0, (b.1.0, (b.1.1.0, (b.1.1.1.0, reaches_more t r c b.0 y x e b.1.1.1.1 g p))))

-- ---- places among the lines

-- the place of a line is such a one
pub record SomePlace (Q : Place → Type 0) (all : List Line) : Type 0 where
  pub place : Place
  pub above : Line
  pub among : Among (place ∷ above) all
  pub is : Q place

some_of : {Q : Place → Type 0} {few all : List Line} → SomePlace Q few → ((l : Line) → Among l few → Among l all) → SomePlace Q all
some_of s more = record { place = s.place; above = s.above; among = more (s.place ∷ s.above) s.among; is = s.is }

-- a place of a node
abbrev pub HasPlace : ℕ → List Line → Type 0
HasPlace x all = SomePlace (λ p. p.node ≡ x) all

-- a tree stands somewhere among the lines: its root's place, and all below it
pub record AtTree (s : Tree) (all : List Line) : Type 0 where
  pub up : Option ℕ
  pub down : Option ℕ
  pub first : ℕ
  pub lights : List ℕ
  pub above : Line
  pub here : Among (place s.node up down s.below first lights above ∷ above) all
  pub below : (l : Line) → Among l (lines s.below true (first + 1) lights (place s.node up down s.below first lights above ∷ above)) → Among l all

at_list : (w : Tree) (ss : List Tree) → Any (λ s. s ≡ w) ss → (h : Bool) (f : ℕ) (ls : List ℕ) (above : Line) (all : List Line)
    → ((l : Line) → Among l (lines (of_list ss) h f ls above) → Among l all) → AtTree w all
at_list w [] a h f ls above all g = absurd a
at_list w (s ∷ ss) a h f ls above all g =
    let ls1 = lights_at h ls s.down in
    let p = place s.node s.up s.down s.below f ls1 above in
    let A = lines s.below true (f + 1) ls1 (p ∷ above) in
    let B = lines (of_list ss) false (f + 1 + count s.below) ls above in
    elim a [
      | inl e ↦ subst (λ z. AtTree z all) e (record { up = s.up; down = s.down; first = f; lights = ls1; above = above; here = g (p ∷ above) (inl refl); below = λ l c. g l (inr (in_left l A B c)) })
      | inr b ↦ at_list w ss b false (f + 1 + count s.below) ls above all (λ l c. g l (inr (in_right l A B c)))
    ]

abbrev pub at_root : (s : Tree) → AtTree s (tree_lines s)
at_root s = record { up = None; down = None; first = 0; lights = []; above = []; here = inl refl; below = λ l a. inr a }

pub at_child : (m : Network) (t : Tables) (r k x y : ℕ) (all : List Line) → AtTree (tree_to_depth m t r (suc k) x) all → parent_is x (t.entry y r) ≡ true → y < t.nodes → AtTree (tree_to_depth m t r k y) all
at_child m t r k x y all a g i =
    let T = tree_to_depth m t r k in
    let ss = map T (children t r x) in
    let some : Any (λ s. s ≡ tree_to_depth m t r k y) ss = any_filtered (λ s. s ≡ tree_to_depth m t r k y) T (λ z. parent_is x (t.entry z r)) y g refl (up_to t.nodes) (within_up_to t.nodes y i) in
    at_list (tree_to_depth m t r k y) (fronted (heaviest ss) [] ss) (any_fronted (λ s. s ≡ tree_to_depth m t r k y) (heaviest ss) [] ss (inr some))
    true (a.first + 1) a.lights (place (tree_to_depth m t r (suc k) x).node a.up a.down (tree_to_depth m t r (suc k) x).below a.first a.lights a.above ∷ a.above) all a.below

at_reached : (m : Network) (t : Tables) (r : ℕ) → ((x : ℕ) (e : Entry) → t.entry x r ≡ Some e → x < t.nodes) → (c k z x : ℕ) (all : List Line) → c ≤ k → Reaches t r c z x → AtTree (tree_to_depth m t r k z) all
    → (j : ℕ) × (AtTree (tree_to_depth m t r j x) all × (j + c ≡ k))
at_reached m t r inside zero k z x all le b a = (k, (subst (λ w. AtTree (tree_to_depth m t r k w) all) b a, omega arith))
at_reached m t r inside (suc c) zero z x all le b a = absurd (omega arith)
at_reached m t r inside (suc c) (suc k) z x all le b a =
    let y = b.0 in
    let down = at_child m t r k z y all a (parent_is_from t r z y b.1.0 b.1.1.0 b.1.1.1.0) (inside y b.1.0 b.1.1.0) in
    let got = at_reached m t r inside c k y x all (omega arith) b.1.1.1.1 down in
    (got.0, (got.1.0, omega (arith, got.1.1)))

-- a number is some member's
abbrev Numbers : ℕ → List Line → Type 0
Numbers i all = SomePlace (λ p. p.tree_record.first ≡ i) all

numbers_in : (fo : Forest) (h : Bool) (f : ℕ) (ls : List ℕ) (above : Line) (i : ℕ) → f ≤ i → i < f + count fo → Numbers i (lines fo h f ls above)
numbers_in no_trees h f ls above i lo hi = absurd (omega arith)
numbers_in (twig n u d below beside) h f ls above i lo hi =
    let p = place n u d below f (lights_at h ls d) above in
    let A = lines below true (f + 1) (lights_at h ls d) (p ∷ above) in
    let B = lines beside false (f + 1 + count below) ls above in
    elim (cases_lt f i) [
      | inl b ↦ elim (cases_lt i (f + 1 + count below)) [
        | inl c ↦ some_of (numbers_in below true (f + 1) (lights_at h ls d) (p ∷ above) i (omega arith) (omega arith)) (λ l k. inr (in_left l A B k))
        | inr c ↦ some_of (numbers_in beside false (f + 1 + count below) ls above i c (omega arith)) (λ l k. inr (in_right l A B k))
      ]
      | inr a ↦ record { place = p; above = above; among = inl refl; is = (let e : f ≡ i = omega arith in e) }
    ]

numbers_tree : (s : Tree) (i : ℕ) → i < tree_size s → Numbers i (tree_lines s)
numbers_tree s zero l = record { place = place s.node None None s.below 0 [] []; above = []; among = inl refl; is = refl }
numbers_tree s (suc i) l = some_of (numbers_in s.below true 1 [] (place s.node None None s.below 0 [] [] ∷ []) (suc i) (omega arith) (omega arith)) (λ l k. inr k)

-- the entry of a place has its record
abbrev pub HasItsRecord : Tables → ℕ → Place → Type 0
HasItsRecord t r p = (e : Entry) × ((t.entry p.node r ≡ Some e) × (record_of e.tree_record ≡ p.tree_record))

abbrev pub first_at : Option Entry → ℕ
first_at None = 0
first_at (Some e) = (record_of e.tree_record).first

-- a tree whose records are those of the tables has at most as many members as there are nodes, since no two members have one number
pub few_members : (m : Network) (t : Tables) (r : ℕ) (s : Tree) → ((x : ℕ) (e : Entry) → t.entry x r ≡ Some e → x < m.nodes)
    → ((p : Place) (above : Line) → Among (p ∷ above) (tree_lines s) → HasItsRecord t r p) → tree_size s ≤ m.nodes
few_members m t r s inside have = at_most m.nodes (λ x. first_at (t.entry x r)) (tree_size s) covers
  where
    covers : Covers (λ x. first_at (t.entry x r)) m.nodes (tree_size s)
    covers i l =
        let k = numbers_tree s i l in
        let e = have k.place k.above k.among in
        (k.place.node, (inside k.place.node e.0 e.1.0, ap first_at e.1.0 ∙ ap (λ (z : Record). z.first) e.1.1 ∙ k.is))

at_place : (m : Network) (t : Tables) (r y n : ℕ) (u d : Option ℕ) (p : Place) → IsChildOf m t r y n u d → p.node ≡ n → p.parent ≡ Some y → p.up ≡ u → p.down ≡ d → HasItsRecord t r p → n < m.nodes → IsAtPlace m t r p
at_place m t r y n u d p g e1 e2 e3 e4 k i = record {
  entry = g.entry;
  is = ap (λ z. t.entry z r) e1 ∙ g.is;
  tree_record = ap (λ (z : Entry). record_of z.tree_record) (same_value (ap (λ z. t.entry z r) e1 ∙ g.is) k.1.0) ∙ k.1.1;
  parent = g.parent ∙ sym e2;
  up = e3 ∙ g.up ∙ ap (λ z. up_port m z (Some g.entry)) (sym e1);
  down = e4 ∙ g.down ∙ ap (λ z. down_port m z (Some g.entry)) (sym e1);
  inside = subst (λ z. z < m.nodes) (sym e1) i;
}

-- all of a line placed, and each child_of on the next
abbrev pub IsPlacedLine : Network → Tables → ℕ → Line → Type 0
IsPlacedLine m t r l = AreAtPlaces m t r l × Chained l

-- where all placed above, all members of a forest do
placed_lines : (m : Network) (t : Tables) (r : ℕ) → ((x : ℕ) (e : Entry) → t.entry x r ≡ Some e → x < m.nodes)
    → (fo : Forest) (h : Bool) (f : ℕ) (ls : List ℕ) (q : Place) (top : Line) → AreChildrenOf m t r q.node fo → IsPlacedLine m t r (q ∷ top)
    → ((p : Place) (above : Line) → Among (p ∷ above) (lines fo h f ls (q ∷ top)) → HasItsRecord t r p)
    → (l : Line) → Among l (lines fo h f ls (q ∷ top)) → IsPlacedLine m t r l
placed_lines m t r inside no_trees h f ls q top g s have l a = absurd a
placed_lines m t r inside (twig n u d below beside) h f ls q top g s have l a =
    let ls1 = lights_at h ls d in
    let p = place n u d below f ls1 (q ∷ top) in
    let A = lines below true (f + 1) ls1 (p ∷ q ∷ top) in
    let B = lines beside false (f + 1 + count below) ls (q ∷ top) in
    let at : IsAtPlace m t r p = at_place m t r q.node n u d p g.0 refl refl refl refl (have p (q ∷ top) (inl refl)) (inside n g.0.entry g.0.is) in
    let here : IsPlacedLine m t r (p ∷ q ∷ top) = ((at, s.0), (refl, s.1)) in
    elim a [
      | inl e ↦ subst (IsPlacedLine m t r) (sym e) here
      | inr b ↦ elim (in_append l A B b) [
        | inl c ↦ placed_lines m t r inside below true (f + 1) ls1 p (q ∷ top) g.1.0 here (λ z above k. have z above (inr (in_left (z ∷ above) A B k))) l c
        | inr c ↦ placed_lines m t r inside beside false (f + 1 + count below) ls q top g.1.1 s (λ z above k. have z above (inr (in_right (z ∷ above) A B k))) l c
      ]
    ]

-- every line of a tree that has the tables' records at_place
pub placed_tree : (m : Network) (t : Tables) (r : ℕ) → ((x : ℕ) (e : Entry) → t.entry x r ≡ Some e → x < m.nodes)
    → (s : Tree) → s.node ≡ r → (o : Entry) → t.entry r r ≡ Some o → o.parent ≡ None → AreChildrenOf m t r s.node s.below
    → ((p : Place) (above : Line) → Among (p ∷ above) (tree_lines s) → HasItsRecord t r p)
    → (l : Line) → Among l (tree_lines s) → IsPlacedLine m t r l
placed_tree m t r inside s root o own none fits have l a =
    let p = place s.node None None s.below 0 [] [] in
    let is : t.entry s.node r ≡ Some o = ap (λ z. t.entry z r) root ∙ own in
    let k = have p [] (inl refl) in
    let at : IsAtPlace m t r p = record {
      entry = o;
      is = is;
      tree_record = ap (λ (z : Entry). record_of z.tree_record) (same_value is k.1.0) ∙ k.1.1;
      parent = none;
      up = (let u : None ≡ up_port m s.node (Some o) = rw none refl in u);
      down = (let d : None ≡ down_port m s.node (Some o) = rw none refl in d);
      inside = inside s.node o is;
    } in
    let here : IsPlacedLine m t r (p ∷ []) = ((at, tt), tt) in
    elim a [
      | inl e ↦ subst (IsPlacedLine m t r) (sym e) here
      | inr b ↦ placed_lines m t r inside s.below true 1 [] p [] fits here (λ z above i. have z above (inr i)) l b
    ]

module _ (m : Network) (t : Tables) (h : Distances m t) where
  pub node_inside : (x r : ℕ) (e : Entry) → t.entry x r ≡ Some e → x < m.nodes
  node_inside x r e g = elim (h.parents x r e g) [
    | inl s ↦ subst (λ z. z < m.nodes) (sym s) (h.inside x r e g)
    | inr p ↦ (let c = (h.tight x p.0 r e g p.1).0 in (edge_inside m h.sound p.0 x c.0 c.1.1.0).1.0)
  ]

  -- an entry is reached from the root, in no more steps than it is far
  reached : (k : ℕ) (x r : ℕ) (e : Entry) → e.distance < k → t.entry x r ≡ Some e → (c : ℕ) × (Reaches t r c r x × (c ≤ e.distance))
  reached zero x r e lt g = absurd (omega arith)
  reached (suc k) x r e lt g = elim (h.parents x r e g) [
    | inl s ↦ (0, (sym s, omega arith))
    | inr p ↦ (
        let c = (h.tight x p.0 r e g p.1).0 in
        let pos = edge_inside m h.sound p.0 x c.0 c.1.1.0 in
        let b = reached k p.0 r c.1.0 (omega (arith, c.1.1.1.1, pos.1.1)) c.1.1.1.0 in
        (suc b.0, (reaches_more t r b.0 r p.0 x e b.1.0 g p.1, omega (arith, b.1.1, c.1.1.1.1, pos.1.1))))
  ]

  -- both ports of a place below the root are there
  pub children_ports : (r y : ℕ) (fo : Forest) → AreChildrenOf m t r y fo → HasPorts fo
  children_ports r y no_trees g = tt
  children_ports r y (twig n u d below beside) g =
      let c = (h.tight n y r g.0.entry g.0.is g.0.parent).0 in
      let a = port_found m h.sound n y c.0 (symmetric m n y ∙ c.1.1.0) in
      let b = port_found m h.sound y n c.0 c.1.1.0 in (
        (a.0, g.0.up ∙ up_at m n y g.0.entry g.0.parent ∙ a.1),
        (
          (b.0, g.0.down ∙ down_at m n y g.0.entry g.0.parent ∙ b.1),
          (children_ports r n below g.1.0, children_ports r y beside g.1.1),
        ),
      )

pub far_enough : (t : Tables) (r n x : ℕ) (e : Entry) → x < n → t.entry x r ≡ Some e → e.distance ≤ farthest t r n
far_enough t r zero x e l g = absurd (omega arith)
far_enough t r (suc n) x e l g = elim (cases_lt x n) [
  | inl b ↦ (let ih = far_enough t r n x e b g in let k = le-max_right (distance_of (t.entry n r)) (farthest t r n) in omega (arith, ih, k))
  | inr a ↦ (
      let s : n ≡ x = omega arith in
      let d : distance_of (t.entry n r) ≡ e.distance = ap (λ z. distance_of (t.entry z r)) s ∙ ap distance_of g in
      let k = le-max_left (distance_of (t.entry n r)) (farthest t r n) in
      omega (arith, d, k))
]

-- where a node has an entry, its tree stands in that of the root, as deep as it is far
pub entry_at : (m : Network) (t : Tables) → Distances m t → t.nodes ≡ m.nodes → (x r : ℕ) (e : Entry) → t.entry x r ≡ Some e
    → (j : ℕ) × (AtTree (tree_to_depth m t r j x) (tree_lines (tree_at m t r)) × (farthest t r m.nodes ≤ e.distance + j))
entry_at m t h nodes x r e g =
    let c = reached m t h (suc e.distance) x r e (omega arith) g in
    let far = far_enough t r m.nodes x e (node_inside m t h x r e g) g in
    let a = at_reached m t r (λ y f k. subst (λ z. y < z) (sym nodes) (node_inside m t h y r f k)) c.0 (farthest t r m.nodes) r x (tree_lines (tree_at m t r)) (omega (arith, c.1.1, far)) c.1.0 (at_root (tree_at m t r)) in
    (a.0, (a.1.0, omega (arith, a.1.1, c.1.1)))

-- each entry has a place in its tree
pub entry_has_place : (m : Network) (t : Tables) → Distances m t → t.nodes ≡ m.nodes → (x r : ℕ) (e : Entry) → t.entry x r ≡ Some e → HasPlace x (tree_lines (tree_at m t r))
entry_has_place m t h nodes x r e g =
    let a = entry_at m t h nodes x r e g in
    let s = tree_to_depth m t r a.0 x in
    let at = a.1.0 in
    record { place = place s.node at.up at.down s.below at.first at.lights at.above; above = at.above; among = at.here; is = tree_to_depth-node m t r a.0 x }
