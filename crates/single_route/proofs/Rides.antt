-- The way of a packet in a scheme's tree is the path in the tree of the network.
use Rattle.std.proofs.Common.{◌≡◌, inl, inr, ℕ, zero, suc, append_assoc, ◌+◌, ◌-◌, ◌≤◌, ◌<◌, sym, refl, ap, subst, ◌∙◌, arith, Bool, true, false, List, [], ◌∷◌, ◌++◌, map, length, length-append, reverse}
use Rattle.std.specs.Prelude.{Some, slice_get, slice_index_or}
use Rattle.std.proofs.lemmas.List.{reverse-append, length-reverse, reverse-reverse, map-append, get_or_past}
use Rattle.std.proofs.lemmas.Bool.{cases_lt, false≢true}
use Rattle.route_tree.specs.Rose.{count, tree_size}
use Rattle.heavy_labels.specs.Label.{Label}
use Rattle.heavy_labels.specs.Numbering.{Record, Line, Place, Follows, Way, arrived, port, step}
use Rattle.heavy_labels.specs.Stepped.{record_of}
use Rattle.heavy_labels.proofs.Walks.{tree_way}
use Rattle.graph_edits.specs.Edges.{Network, IsSound}
use Rattle.graph_edits.specs.Walks.{IsWalk, walk_length}
use Rattle.graph_edits.specs.Laws.{IsLeast-unique}
use Rattle.landmarks.specs.Chosen.{IsLandmark}
use Rattle.schemes.specs.declared.parts.Parts.{Parts}
use Rattle.schemes.specs.Entry.{Entry}
use Rattle.schemes.specs.Ports.{neighbours, port_to}
use Rattle.schemes.specs.Tables.{Tables, tables, or_false}
use Rattle.schemes.specs.Checks.{IsChecked, IsShaped, HasParents, HasRecords, IsLabelIn, farthest, tree_at, k1, k3}
use Rattle.schemes.specs.Laws.{IsInTree}
use Rattle.schemes.specs.Service.{packet_by}
use Rattle.schemes.proofs.Basics.Options.{is_there, some_is, same_value}
use Rattle.schemes.proofs.Serving.StepsAsMoves.{IsAtPlace, AreAtPlaces, Ports, EndsAt, carry, Passes, index_get, next_port}
use Rattle.schemes.proofs.Serving.TripLengths.{Chained, head_or}
use Rattle.schemes.proofs.Serving.TripsInTrees.{placed_left, placed_right, placed_append, placed_reverse, ends_after, ends_turned, head_is}
use Rattle.schemes.proofs.Serving.Exact.{Distances}
use Rattle.schemes.proofs.Serving.CheckedLaw.{distances_of}
use Rattle.schemes.proofs.Serving.SchemeLaws.{exact_law, trees_law}
use Rattle.schemes.proofs.LocalForms.TreeOfTables.{IsPlacedLine, node_inside, entry_has_place, few_members, placed_tree, tree_to_depth-node, tree_to_depth-fits, children_ports}
use Rattle.single_route.specs.LandmarkTrees.{IsMemberAt, IsParentIn}
use Rattle.single_route.specs.LandmarkTrails.{IsClimb, IsTreePath}
use Rattle.single_route.specs.ListedLines.{LastsDiffer}
use Rattle.single_route.proofs.Climbs.{apart_by_lasts, cut, end_at}
use Rattle.single_route.proofs.TrailWalks.{one_distance, one_parent, nearer_parent}

-- ---- flags

pub flag_same : (flags : List Bool) (x : ℕ) → or_false (slice_get flags x) ≡ slice_index_or flags x false
flag_same [] x = refl
flag_same (b ∷ bs) zero = refl
flag_same (b ∷ bs) (suc x) = flag_same bs x

pub flag_inside : (flags : List Bool) (x : ℕ) → slice_index_or flags x false ≡ true → x < length flags
flag_inside flags x e = elim (cases_lt x (length flags)) [ inl l ↦ l | inr le ↦ absurd (false≢true (sym (get_or_past flags x false le) ∙ e)) ]

-- ---- entries and members

module _ (m : Network) (p : Parts) (sound : IsSound m) (checked : IsChecked m p) where
  abbrev flags : List Bool
  flags = p.landmarks.items

  pub landmark_is : (x : ℕ) → IsLandmark p.landmarks.items x → (tables p).landmark x ≡ true
  landmark_is x l = flag_same p.landmarks.items x ∙ l

  pub is_landmark : (x : ℕ) → (tables p).landmark x ≡ true → IsLandmark p.landmarks.items x
  is_landmark x l = sym (flag_same p.landmarks.items x) ∙ l

  pub landmark_inside : (x : ℕ) → IsLandmark p.landmarks.items x → x < m.nodes
  landmark_inside x l =
      let shaped : IsShaped m p = checked k1 in
      let lt = flag_inside p.landmarks.items x l in
      let n = shaped.landmarks in
      omega (arith, lt, n)

  -- a node with an entry is a member of the tree
  pub entry_member : (x r : ℕ) (e : Entry) → (tables p).entry x r ≡ Some e → IsMemberAt m.edges p.landmarks.items r x e.distance
  entry_member x r e g =
      let least = exact_law m p sound checked x r e g in
      let t = (trees_law m p sound checked x r).0 (some_is g) in
      record {
        least = least;
        belongs = elim t.1.1.1 [
          | inl l ↦ inl (is_landmark r l)
          | inr near ↦ inr (λ a ys l w.
              let k = near a ys (landmark_inside a l) (landmark_is a l) w in
              let le = least.least r t.1.0 refl t.1.1.0 in
              omega (arith, k, le))
        ];
      }

  -- and a member has an entry
  pub member_entry : (x r d : ℕ) → r < m.nodes → IsMemberAt m.edges p.landmarks.items r x d → (e : Entry) × (((tables p).entry x r ≡ Some e) × (e.distance ≡ d))
  member_entry x r d i h =
      let a = h.least.attained in
      let walk = subst (λ z. IsWalk m.edges z a.1.1.0 x) a.1.0 a.1.1.1.0 in
      let long : walk_length m.edges r a.1.1.0 ≡ d = ap (λ z. walk_length m.edges z a.1.1.0) (sym a.1.0) ∙ a.1.1.1.1 in
      let in_tree : IsInTree m (tables p).landmark r x = (
        i,
        (
          a.1.1.0,
          (
            walk,
            elim h.belongs [
              | inl l ↦ inl (landmark_is r l)
              | inr near ↦ inr (λ b ys j l w. let k = near b ys (is_landmark b l) w in omega (arith, k, long))
            ],
          ),
        ),
      ) in
      let e = is_there ((tables p).entry x r) ((trees_law m p sound checked x r).1 in_tree) in
      (e.0, (e.1, IsLeast-unique m.edges (λ s. s ≡ r) x e.0.distance d (exact_law m p sound checked x r e.0 e.1) h.least))

  -- the parent of an entry is that in the tree
  pub parent_entry : (x y r : ℕ) (e : Entry) → r < m.nodes → (tables p).entry x r ≡ Some e → e.parent ≡ Some y → IsParentIn m.edges p.landmarks.items r x y
  parent_entry x y r e i g is =
      let rule : HasParents m (tables p) = checked k3 in
      let c = rule x y r e g is in
      let f = c.0.1.0 in
      record {
        tight = record {
          distance = e.distance;
          before = f.distance;
          weight = c.0.0;
          member = entry_member x r e g;
          above = entry_member y r f c.0.1.1.1.0;
          edge = c.0.1.1.0;
          sum = sym c.0.1.1.1.1;
        };
        smallest = λ z tz. elim (cases_lt z y) [
          | inl lt ↦ (
              let k = member_entry z r tz.before i tz.above in
              let d = one_distance m sound p.landmarks.items r x tz.distance e.distance tz.member (entry_member x r e g) in
              let sum = tz.sum in
              let same = k.1.1 in
              absurd (c.1 z tz.weight k.0 lt tz.edge k.1.0 (omega (arith, d, sum, same))))
          | inr le ↦ le
        ];
      }

-- ---- places

abbrev after_head : List Place → Place → List Place → List Place
after_head [] at down = reverse down
after_head (a ∷ up) at down = up ++ at ∷ reverse down

head_and_after : (up : List Place) (at : Place) (down : List Place) → up ++ at ∷ reverse down ≡ head_or up at ∷ after_head up at down
head_and_after [] at down = refl
head_and_after (a ∷ up) at down = refl

abbrev names : List Place → List ℕ
names ps = map (λ (a : Place). a.node) ps

names_reverse : (ps : List Place) → names (reverse ps) ≡ reverse (names ps)
names_reverse [] = refl
names_reverse (a ∷ ps) =
    let turned : reverse (a ∷ ps) ≡ reverse ps ++ a ∷ [] = reverse-append (a ∷ []) ps in
    let named : reverse (a.node ∷ names ps) ≡ reverse (names ps) ++ a.node ∷ [] = reverse-append (a.node ∷ []) (names ps) in
    ap names turned ∙ map-append (λ (b : Place). b.node) (reverse ps) (a ∷ []) ∙ ap (λ z. z ++ a.node ∷ []) (names_reverse ps) ∙ sym named

follows_from : (l : Label) (xs : List Place) (a : Place) (ys : List Place) → Follows l (xs ++ a ∷ ys) → Follows l (a ∷ ys)
follows_from l [] a ys f = f
follows_from l (x ∷ []) a ys f = f.1
follows_from l (x ∷ y ∷ xs) a ys f = follows_from l (y ∷ xs) a ys f.1

nothing_pushed : (xs : List ℕ) (z : ℕ) → [] ≡ xs ++ z ∷ [] → ⊥
nothing_pushed [] z e = cc
nothing_pushed (x ∷ xs) z e = cc

-- the last name is that of the last place
last_named : (ps : List Place) (xs : List ℕ) (z : ℕ) → names ps ≡ xs ++ z ∷ [] → (front : List Place) × ((a : Place) × ((ps ≡ front ++ a ∷ []) × (a.node ≡ z)))
last_named [] xs z e = absurd (nothing_pushed xs z e)
last_named (a ∷ ps) [] z e = ([], (a, (ap (λ w. a ∷ w) (none ps (tail_is e)), head_named e)))
  where
    tail_is : {x y : ℕ} {us vs : List ℕ} → x ∷ us ≡ y ∷ vs → us ≡ vs
    tail_is e = cc

    head_named : {x y : ℕ} {us vs : List ℕ} → x ∷ us ≡ y ∷ vs → x ≡ y
    head_named e = cc

    none : (qs : List Place) → names qs ≡ [] → qs ≡ []
    none [] e = refl
    none (q ∷ qs) e = absurd (let k : q.node ∷ names qs ≡ [] = e in cc)
last_named (a ∷ ps) (x ∷ xs) z e =
    let r = last_named ps xs z (let k : a.node ∷ names ps ≡ x ∷ (xs ++ z ∷ []) = e in cc) in
    (a ∷ r.0, (r.1.0, (ap (λ w. a ∷ w) r.1.1.0, r.1.1.1)))

-- ---- the path of a way

one_behind : (m : Network) (x y z q : ℕ) → port_to m x y ≡ Some q → port_to m x z ≡ Some q → y ≡ z
one_behind m x y z q a b = same_value (index_get y q (neighbours m x) a) (index_get z q (neighbours m x) b)

same_record : (m : Network) (t : Tables) (r : ℕ) (a b : Place) → IsAtPlace m t r a → IsAtPlace m t r b → a.node ≡ b.node → a.tree_record ≡ b.tree_record
same_record m t r a b sa sb e =
    let same : sa.entry ≡ sb.entry = same_value sa.is (ap (λ z. t.entry z r) e ∙ sb.is) in
    sym sa.tree_record ∙ ap (λ (k : Entry). record_of k.tree_record) same ∙ sb.tree_record

arrived_not_port : (k : Record) (l : Label) (q : ℕ) → step k l ≡ arrived → step k l ≡ port q → ⊥
arrived_not_port k l q a b = let bad : arrived ≡ port q = sym a ∙ b in cc

same_port : (k : Record) (l : Label) (q s : ℕ) → step k l ≡ port q → step k l ≡ port s → q ≡ s
same_port k l q s a b = let e : port q ≡ port s = sym a ∙ b in cc

module _ (m : Network) (p : Parts) (sound : IsSound m) (checked : IsChecked m p) (r : ℕ) (inside : r < m.nodes) where
  abbrev Parent : ℕ → ℕ → Type 0
  Parent x y = IsParentIn m.edges p.landmarks.items r x y

  -- a line of places is a climb
  climbs : (ps : List Place) (at : Place) (above : Line) → AreAtPlaces m (tables p) r (ps ++ at ∷ above) → Chained (ps ++ at ∷ above) → IsClimb (IsParentIn m.edges p.landmarks.items r) (head_or ps at).node (names ps) at.node
  climbs [] at above s c = refl
  climbs (a ∷ []) at above s c = (refl, (at.node, (parent_entry m p sound checked a.node at.node r s.0.entry inside s.0.is (s.0.parent ∙ c.0), refl)))
  climbs (a ∷ b ∷ ps) at above s c = (refl, (b.node, (parent_entry m p sound checked a.node b.node r s.0.entry inside s.0.is (s.0.parent ∙ c.0), climbs (b ∷ ps) at above s.1 c.1)))

  no_circle : (x y : ℕ) → IsParentIn m.edges p.landmarks.items r x y → IsParentIn m.edges p.landmarks.items r y x → ⊥
  no_circle x y a b =
      let f = nearer_parent m sound p.landmarks.items r x y a in
      let g = nearer_parent m sound p.landmarks.items r y x b in
      let d = one_distance m sound p.landmarks.items r x f.0 g.1.0 f.1.1.0 g.1.1.1 in
      let e = one_distance m sound p.landmarks.items r y f.1.0 g.0 f.1.1.1 g.1.1.0 in
      let lt = f.1.1.2 in
      let le = g.1.1.2 in
      omega (arith, d, e, lt, le)

  last_parent : (u : ℕ) (xs : List ℕ) (z at : ℕ) → IsClimb (IsParentIn m.edges p.landmarks.items r) u (xs ++ z ∷ []) at → IsParentIn m.edges p.landmarks.items r z at
  last_parent u xs z at c =
      let k = (cut (IsParentIn m.edges p.landmarks.items r) (IsMemberAt m.edges p.landmarks.items r) (one_parent m sound p.landmarks.items r) (one_distance m sound p.landmarks.items r) (nearer_parent m sound p.landmarks.items r) u xs z [] at c).1 in
      subst (IsParentIn m.edges p.landmarks.items r z) k.1.1.1 k.1.1.0

  before_last : (v : ℕ) (xs : List ℕ) (y z at : ℕ) → IsClimb (IsParentIn m.edges p.landmarks.items r) v (xs ++ y ∷ (z ∷ [])) at → IsParentIn m.edges p.landmarks.items r y z
  before_last v xs y z at c =
      let k = (cut (IsParentIn m.edges p.landmarks.items r) (IsMemberAt m.edges p.landmarks.items r) (one_parent m sound p.landmarks.items r) (one_distance m sound p.landmarks.items r) (nearer_parent m sound p.landmarks.items r) v xs y (z ∷ []) at c).1 in
      subst (IsParentIn m.edges p.landmarks.items r y) k.1.1.1.0 k.1.1.0

  -- what the packet does behind the turn: it doesn't go back to where it came from
  goes_on : (v : ℕ) (l : Label) (a at b : Place) (back : List Place) (down_names : List ℕ) → AreAtPlaces m (tables p) r (a ∷ at ∷ b ∷ back) → Follows l (a ∷ at ∷ b ∷ back) → a.node ≡ b.node
      → IsParentIn m.edges p.landmarks.items r a.node at.node → IsClimb (IsParentIn m.edges p.landmarks.items r) v down_names at.node → down_names ≡ names (reverse back) ++ b.node ∷ [] → ⊥
  goes_on v l a at b [] down_names s f e up down is =
      arrived_not_port a.tree_record l f.0.0 (ap (λ k. step k l) (same_record m (tables p) r a b s.0 s.1.1.0 e) ∙ f.1.1) f.0.1.0
  goes_on v l a at b (c ∷ more) down_names s f e up down is =
      let record_same = same_record m (tables p) r a b s.0 s.1.1.0 e in
      let q = f.0.0 in
      let k = f.1.1.0.0 in
      let port_same : q ≡ k = same_port a.tree_record l q k f.0.1.0 (ap (λ z. step z l) record_same ∙ f.1.1.0.1.0) in
      let first = next_port m (tables p) r a at q s.0 s.1.0 f.0.1.1 in
      let second = next_port m (tables p) r b c k s.1.1.0 s.1.1.1.0 f.1.1.0.1.1 in
      let there : port_to m a.node c.node ≡ Some q = ap (λ z. port_to m z c.node) e ∙ second ∙ ap (λ z. Some z) (sym port_same) in
      let same : at.node ≡ c.node = one_behind m a.node at.node c.node q first there in
      let turned : reverse (c ∷ more) ≡ reverse more ++ c ∷ [] = reverse-append (c ∷ []) more in
      let listed : down_names ≡ names (reverse more) ++ c.node ∷ (b.node ∷ []) = is ∙ ap (λ z. names z ++ b.node ∷ []) turned ∙ ap (λ z. z ++ b.node ∷ []) (map-append (λ (z : Place). z.node) (reverse more) (c ∷ [])) ∙ append_assoc (names (reverse more)) (c.node ∷ []) (b.node ∷ []) in
      let below = before_last v (names (reverse more)) c.node b.node at.node (subst (λ z. IsClimb (IsParentIn m.edges p.landmarks.items r) v z at.node) listed down) in
      let back_up = subst (λ z. IsParentIn m.edges p.landmarks.items r z a.node) (sym same) (subst (IsParentIn m.edges p.landmarks.items r c.node) (sym e) below) in
      no_circle a.node at.node up back_up

  lasts : (u v : ℕ) (l : Label) (up : List Place) (at : Place) (down : List Place) → AreAtPlaces m (tables p) r (up ++ at ∷ reverse down) → Follows l (up ++ at ∷ reverse down)
      → IsClimb (IsParentIn m.edges p.landmarks.items r) u (names up) at.node → IsClimb (IsParentIn m.edges p.landmarks.items r) v (names down) at.node → LastsDiffer (names up) (names down)
  lasts u v l up at down s f c d z xs ys e g =
      let a = last_named up xs z e in
      let b = last_named down ys z g in
      let front = a.0 in
      let x = a.1.0 in
      let y = b.1.0 in
      let back = reverse b.0 in
      let turned : reverse down ≡ y ∷ back = ap reverse b.1.1.0 ∙ reverse-append b.0 (y ∷ []) in
      let whole : up ++ at ∷ reverse down ≡ front ++ x ∷ (at ∷ (y ∷ back)) = (λ i. a.1.1.0 i ++ at ∷ turned i) ∙ append_assoc front (x ∷ []) (at ∷ (y ∷ back)) in
      let placed = placed_right m (tables p) r front (x ∷ (at ∷ (y ∷ back))) (subst (AreAtPlaces m (tables p) r) whole s) in
      let follows = follows_from l front x (at ∷ (y ∷ back)) (subst (Follows l) whole f) in
      let above = subst (λ w. IsParentIn m.edges p.landmarks.items r w at.node) (sym a.1.1.1) (last_parent u xs z at.node (subst (λ w. IsClimb (IsParentIn m.edges p.landmarks.items r) u w at.node) e c)) in
      let listed : names down ≡ names (reverse back) ++ y.node ∷ [] = ap names b.1.1.0 ∙ map-append (λ (w : Place). w.node) b.0 (y ∷ []) ∙ ap (λ w. names w ++ y.node ∷ []) (sym (reverse-reverse b.0)) in
      goes_on v l x at y back (names down) placed follows (a.1.1.1 ∙ sym b.1.1.1) above d listed

  -- what a packet does in the tree of r: it's carried over the path
  pub record Ride (u v : ℕ) (l : Label) : Type 0 where
    pub trip : List ℕ
    pub passes : Passes (tables p) u trip (packet_by (tables p) v r l)
    pub path : IsTreePath (IsParentIn m.edges p.landmarks.items r) u v (u ∷ trip)

  ride_along : (d : ℕ) → Ports m (tables p) → (pu pv : Place) (au av : Line) (k : ℕ) → IsMemberAt m.edges p.landmarks.items r pu.node d → IsPlacedLine m (tables p) r (pu ∷ au) → IsPlacedLine m (tables p) r (pv ∷ av)
      → Way (pu ∷ au) (pv ∷ av) pv.label k → k + 1 ≤ m.nodes → Ride pu.node pv.node pv.label
  ride_along d ports pu pv au av k member su sv w few =
      let t = tables p in
      let up = w.up in
      let at = w.at in
      let down = w.down in
      let s1 = subst (AreAtPlaces m t r) w.from su.0 in
      let s2 = subst (AreAtPlaces m t r) w.to sv.0 in
      let sat : IsAtPlace m t r at = (placed_right m t r up (at ∷ w.above) s1).0 in
      let sdown = placed_left m t r down (at ∷ w.above) s2 in
      let spath = placed_append m t r up (at ∷ reverse down) (placed_left m t r up (at ∷ w.above) s1) (sat, placed_reverse m t r down sdown) in
      let hu = head_is pu au up at w.above w.from in
      let hv = head_is pv av down at w.above w.to in
      let whole = up ++ at ∷ reverse down in
      let head = head_or up at in
      let rest = after_head up at down in
      let split = head_and_after up at down in
      let size : length whole ≤ k + 1 = omega (arith, length-append up (at ∷ reverse down), length-reverse down, w.short) in
      let same : length whole ≡ suc (length rest) = ap length split in
      let hops : length rest ≤ t.nodes - 1 = omega (arith, size, few, same, ports.nodes) in
      let below : t.nodes - 1 < m.nodes = omega (arith, few, ports.nodes) in
      let ends : EndsAt whole pv.node = ends_after up at (reverse down) pv.node (ends_turned down at pv.node (ap (λ (z : Place). z.node) hv)) in
      let un : head.node ≡ pu.node = ap (λ (z : Place). z.node) hu in
      let vn : (head_or down at).node ≡ pv.node = ap (λ (z : Place). z.node) hv in
      let placed = subst (AreAtPlaces m t r) split spath in
      let follows = subst (Follows pv.label) split w.follows in
      let rises = subst (λ z. IsClimb (IsParentIn m.edges p.landmarks.items r) z (names up) at.node) un (climbs up at w.above s1 (subst Chained w.from su.1)) in
      let falls = subst (λ z. IsClimb (IsParentIn m.edges p.landmarks.items r) z (names down) at.node) vn (climbs down at w.above s2 (subst Chained w.to sv.1)) in
      let top = end_at (IsParentIn m.edges p.landmarks.items r) (IsMemberAt m.edges p.landmarks.items r) (one_parent m sound p.landmarks.items r) (one_distance m sound p.landmarks.items r) (nearer_parent m sound p.landmarks.items r) pu.node (names up) at.node d rises member in
      let listed : pu.node ∷ names rest ≡ names up ++ at.node ∷ reverse (names down) = (λ i. sym un i ∷ names rest) ∙ ap names (sym split) ∙ map-append (λ (z : Place). z.node) up (at ∷ reverse down) ∙ ap (λ z. names up ++ at.node ∷ z) (names_reverse down) in
      record {
        trip = names rest;
        passes = subst (λ z. Passes t z (names rest) (packet_by t pv.node r pv.label)) un
            (carry m t r ports head rest (packet_by t pv.node r pv.label) placed follows refl (subst (λ z. EndsAt z pv.node) split ends) hops below);
        path = record {
          up = names up;
          at = at.node;
          down = names down;
          rises = rises;
          falls = falls;
          apart = apart_by_lasts (IsParentIn m.edges p.landmarks.items r) (IsMemberAt m.edges p.landmarks.items r) (one_parent m sound p.landmarks.items r) (one_distance m sound p.landmarks.items r) (nearer_parent m sound p.landmarks.items r)
              pu.node pv.node (names up) (names down) at.node top.0 top.1 rises falls (lasts pu.node pv.node pv.label up at down spath w.follows rises falls);
          listed = listed;
        };
      }

  -- by the tables, between any two nodes with an entry for r
  pub ride_in_tree : Ports m (tables p) → HasRecords m (tables p) → (u v : ℕ) (a b : Entry) (l : Label) → (tables p).entry u r ≡ Some a → (tables p).entry v r ≡ Some b → IsLabelIn m (tables p) r v l → Ride u v l
  ride_in_tree ports records u v a b l gu gv label =
      let t = tables p in
      let h : Distances m t = distances_of m sound p checked in
      let o = h.own r inside in
      let s = tree_at m t r in
      let su = entry_has_place m t h ports.nodes u r a gu in
      let sv = entry_has_place m t h ports.nodes v r b gv in
      let fits = tree_to_depth-fits m t r (farthest t r m.nodes) r in
      let placed = placed_tree m t r (λ x e g. node_inside m t h x r e g) s (tree_to_depth-node m t r (farthest t r m.nodes) r) o.0 o.1.0 o.1.1.1 fits (λ z above k. records r z above inside k) in
      let small : tree_size s ≤ m.nodes = few_members m t r s (λ x e g. node_inside m t h x r e g) (λ z above k. records r z above inside k) in
      let way = tree_way s (children_ports m t h r s.node s.below fits) (su.place ∷ su.above) (sv.place ∷ sv.above) su.among sv.among in
      let member = subst (λ z. IsMemberAt m.edges p.landmarks.items r z a.distance) (sym su.is) (entry_member m p sound checked u r a gu) in
      let got = ride_along a.distance ports su.place sv.place su.above sv.above (count s.below) member
      (placed (su.place ∷ su.above) su.among) (placed (sv.place ∷ sv.above) sv.among) way (omega (arith, small)) in
      let is : sv.place.label ≡ l = label sv.place sv.above sv.among sv.is in
      record {
        trip = got.trip;
        passes = subst (λ z. Passes t z got.trip (packet_by t v r l)) su.is
            (subst (λ z. Passes t su.place.node got.trip (packet_by t z r l)) sv.is (subst (λ z. Passes t su.place.node got.trip (packet_by t sv.place.node r z)) is got.passes));
        path = subst (λ z. IsTreePath (IsParentIn m.edges p.landmarks.items r) z v (z ∷ got.trip)) su.is (subst (λ z. IsTreePath (IsParentIn m.edges p.landmarks.items r) su.place.node z (su.place.node ∷ got.trip)) sv.is got.path);
      }
