-- A packet in the tree of one root: from any member to any other by the other's label.
use Rattle.std.proofs.Common.{◌≡◌, ℕ, ◌+◌, ◌-◌, ◌≤◌, ◌<◌, sym, refl, ap, ap₂, subst, ◌∙◌, arith, List, [], ◌∷◌, ◌++◌, length, length-append, reverse}
use Rattle.std.specs.Prelude.{Some}
use Rattle.std.proofs.lemmas.List.{length-map, reverse-append, length-reverse}
use Rattle.route_tree.specs.Rose.{count, tree_size}
use Rattle.heavy_labels.specs.Label.{Label}
use Rattle.heavy_labels.specs.Numbering.{Line, Place, Follows, Way}
use Rattle.heavy_labels.proofs.Walks.{tree_way}
use Rattle.schemes.specs.Entry.{Entry}
use Rattle.graph_edits.specs.Edges.{Network}
use Rattle.graph_edits.specs.Walks.{IsWalk, walk_length}
use Rattle.schemes.proofs.Basics.Walks.{IsTrail, trail_walk}
use Rattle.schemes.specs.Tables.{Tables}
use Rattle.schemes.specs.Checks.{HasParents, HasRecords, IsLabelIn, distance_of, farthest, tree_at}
use Rattle.schemes.specs.Service.{packet_by}
use Rattle.schemes.proofs.Serving.StepsAsMoves.{IsAtPlace, AreAtPlaces, Ports, EndsAt, carry, Passes}
use Rattle.schemes.specs.Trails.{AreMeasured}
use Rattle.schemes.proofs.Serving.TripLengths.{Chained, head_or, nodes_of, dist, along, measured}
use Rattle.schemes.proofs.Serving.Exact.{Distances}
use Rattle.schemes.proofs.LocalForms.TreeOfTables.{IsPlacedLine, node_inside, entry_has_place, few_members, placed_tree, tree_to_depth-node, tree_to_depth-fits, children_ports}

pub placed_left : (m : Network) (t : Tables) (r : ℕ) (xs ys : List Place) → AreAtPlaces m t r (xs ++ ys) → AreAtPlaces m t r xs
placed_left m t r [] ys s = tt
placed_left m t r (a ∷ xs) ys s = (s.0, placed_left m t r xs ys s.1)

pub placed_right : (m : Network) (t : Tables) (r : ℕ) (xs ys : List Place) → AreAtPlaces m t r (xs ++ ys) → AreAtPlaces m t r ys
placed_right m t r [] ys s = s
placed_right m t r (a ∷ xs) ys s = placed_right m t r xs ys s.1

pub placed_append : (m : Network) (t : Tables) (r : ℕ) (xs ys : List Place) → AreAtPlaces m t r xs → AreAtPlaces m t r ys → AreAtPlaces m t r (xs ++ ys)
placed_append m t r [] ys a b = b
placed_append m t r (x ∷ xs) ys a b = (a.0, placed_append m t r xs ys a.1 b)

pub placed_reverse : (m : Network) (t : Tables) (r : ℕ) (xs : List Place) → AreAtPlaces m t r xs → AreAtPlaces m t r (reverse xs)
placed_reverse m t r [] s = tt
placed_reverse m t r (x ∷ xs) s =
    let turned : reverse (x ∷ xs) ≡ reverse xs ++ x ∷ [] = reverse-append (x ∷ []) xs in
    subst (AreAtPlaces m t r) (sym turned) (placed_append m t r (reverse xs) (x ∷ []) (placed_reverse m t r xs s.1) (s.0, tt))

chained_cut : (xs : List Place) (a : Place) (ys : List Place) → Chained (xs ++ a ∷ ys) → Chained (xs ++ a ∷ [])
chained_cut [] a ys c = tt
chained_cut (x ∷ []) a ys c = (c.0, tt)
chained_cut (x ∷ y ∷ xs) a ys c = (c.0, chained_cut (y ∷ xs) a ys c.1)

pub ends_last : (xs : List Place) (a : Place) (v : ℕ) → a.node ≡ v → EndsAt (xs ++ a ∷ []) v
ends_last [] a v e = e
ends_last (x ∷ []) a v e = e
ends_last (x ∷ y ∷ xs) a v e = ends_last (y ∷ xs) a v e

pub ends_after : (xs : List Place) (a : Place) (ys : List Place) (v : ℕ) → EndsAt (a ∷ ys) v → EndsAt (xs ++ a ∷ ys) v
ends_after [] a ys v e = e
ends_after (x ∷ []) a ys v e = e
ends_after (x ∷ y ∷ xs) a ys v e = ends_after (y ∷ xs) a ys v e

pub ends_turned : (down : List Place) (at : Place) (v : ℕ) → (head_or down at).node ≡ v → EndsAt (at ∷ reverse down) v
ends_turned [] at v e = e
ends_turned (a ∷ down) at v e =
    let turned : reverse (a ∷ down) ≡ reverse down ++ a ∷ [] = reverse-append (a ∷ []) down in
    subst (λ z. EndsAt (at ∷ z) v) (sym turned) (ends_last (at ∷ reverse down) a v e)

pub head_is : (p : Place) (q : Line) (up : List Place) (at : Place) (above : Line) → p ∷ q ≡ up ++ at ∷ above → head_or up at ≡ p
head_is p q [] at above e = cc
head_is p q (a ∷ up) at above e = cc

-- the places after the first of a way up to `at` and down again
abbrev after_head : List Place → Place → List Place → List Place
after_head [] at down = reverse down
after_head (a ∷ up) at down = up ++ at ∷ reverse down

head_and_after : (up : List Place) (at : Place) (down : List Place) → up ++ at ∷ reverse down ≡ head_or up at ∷ after_head up at down
head_and_after [] at down = refl
head_and_after (a ∷ up) at down = refl

-- what a packet does in the tree of r, from u to v by the label l: the nodes after u, over which it's carried
pub record TreeTrip (m : Network) (t : Tables) (r u v : ℕ) (l : Label) (most : ℕ) : Type 0 where
  pub trip : List ℕ
  pub carried : Passes t u trip (packet_by t v r l)
  pub walk : IsWalk m.edges u trip v
  pub short : walk_length m.edges u trip ≤ most
  pub few : length trip < m.nodes
  pub measured : AreMeasured m t r u trip

-- from a way between two lines of a tree, all of whose places are those of the tables
trip_along : (m : Network) (t : Tables) (r : ℕ) → HasParents m t → Ports m t → (pu pv : Place) (au av : Line) (k : ℕ)
    → IsPlacedLine m t r (pu ∷ au) → IsPlacedLine m t r (pv ∷ av) → Way (pu ∷ au) (pv ∷ av) pv.label k → k + 1 ≤ m.nodes
    → TreeTrip m t r pu.node pv.node pv.label (distance_of (t.entry pu.node r) + distance_of (t.entry pv.node r))
trip_along m t r tight ports pu pv au av k su sv w few =
    let up = w.up in
    let at = w.at in
    let down = w.down in
    let s1 = subst (AreAtPlaces m t r) w.from su.0 in
    let s2 = subst (AreAtPlaces m t r) w.to sv.0 in
    let c1 = chained_cut up at w.above (subst Chained w.from su.1) in
    let c2 = chained_cut down at w.above (subst Chained w.to sv.1) in
    let sat : IsAtPlace m t r at = (placed_right m t r up (at ∷ w.above) s1).0 in
    let sdown = placed_left m t r down (at ∷ w.above) s2 in
    let spath = placed_append m t r up (at ∷ reverse down) (placed_left m t r up (at ∷ w.above) s1) (sat, placed_reverse m t r down sdown) in
    let sback = placed_append m t r down (at ∷ []) sdown (sat, tt) in
    let way = along m t r tight up at down spath sback c1 c2 in
    let path = up ++ at ∷ reverse down in
    let head = head_or up at in
    let rest = after_head up at down in
    let split = head_and_after up at down in
    let size : length path ≤ k + 1 = omega (arith, length-append up (at ∷ reverse down), length-reverse down, w.short) in
    let same : length path ≡ length rest + 1 = (let l = ap (λ (z : List Place). length z) split in omega (arith, l)) in
    let hops : length rest ≤ t.nodes - 1 = omega (arith, size, few, same, ports.nodes) in
    let below : t.nodes - 1 < m.nodes = omega (arith, few, ports.nodes) in
    let tail = head_or down at in
    let ends : EndsAt path tail.node = ends_after up at (reverse down) tail.node (ends_turned down at tail.node refl) in
    let placed = subst (AreAtPlaces m t r) split spath in
    let follows = subst (Follows pv.label) split w.follows in
    let walk = trail_walk m head.node head.node (nodes_of rest) tail.node way.0 (subst (λ z. IsTrail m head.node z tail.node way.0) (ap nodes_of split) way.1.0) in
    let both : way.0 + (dist m t r tight at + dist m t r tight at) ≡ distance_of (t.entry head.node r) + distance_of (t.entry tail.node r) = way.1.1 in
    let trip : TreeTrip m t r head.node tail.node pv.label (distance_of (t.entry head.node r) + distance_of (t.entry tail.node r)) = record {
      trip = nodes_of rest;
      carried = carry m t r ports head rest (packet_by t tail.node r pv.label) placed follows refl (subst (λ z. EndsAt z tail.node) split ends) hops below;
      walk = walk.1.0;
      short = (let e = walk.1.1 in omega (arith, both, e));
      few = omega (arith, length-map rest (λ (a : Place). a.node), same, size, few);
      measured = measured m t r tight head rest pv.label placed follows;
    } in
    subst (λ (z : Place). TreeTrip m t r z.node pv.node pv.label (distance_of (t.entry z.node r) + distance_of (t.entry pv.node r))) (head_is pu au up at w.above w.from)
    (subst (λ (z : Place). TreeTrip m t r head.node z.node pv.label (distance_of (t.entry head.node r) + distance_of (t.entry z.node r))) (head_is pv av down at w.above w.to) trip)

-- by the tables, between any two nodes with an entry for r
pub trip_in_tree : (m : Network) (t : Tables) → Distances m t → Ports m t → HasRecords m t → (r u v : ℕ) (a b : Entry) (l : Label)
    → t.entry u r ≡ Some a → t.entry v r ≡ Some b → IsLabelIn m t r v l → TreeTrip m t r u v l (a.distance + b.distance)
trip_in_tree m t h ports records r u v a b l gu gv label =
    let i = h.inside u r a gu in
    let o = h.own r i in
    let s = tree_at m t r in
    let su = entry_has_place m t h ports.nodes u r a gu in
    let sv = entry_has_place m t h ports.nodes v r b gv in
    let fits = tree_to_depth-fits m t r (farthest t r m.nodes) r in
    let placed = placed_tree m t r (λ x e g. node_inside m t h x r e g) s (tree_to_depth-node m t r (farthest t r m.nodes) r) o.0 o.1.0 o.1.1.1 fits (λ p above k. records r p above i k) in
    let small : tree_size s ≤ m.nodes = few_members m t r s (λ x e g. node_inside m t h x r e g) (λ p above k. records r p above i k) in
    let way = tree_way s (children_ports m t h r s.node s.below fits) (su.place ∷ su.above) (sv.place ∷ sv.above) su.among sv.among in
    let got = trip_along m t r h.tight ports su.place sv.place su.above sv.above (count s.below)
    (placed (su.place ∷ su.above) su.among) (placed (sv.place ∷ sv.above) sv.among) way (omega (arith, small)) in
    let most : distance_of (t.entry su.place.node r) + distance_of (t.entry sv.place.node r) ≡ a.distance + b.distance =
    ap₂ (λ y z. y + z) (ap (λ z. distance_of (t.entry z r)) su.is ∙ ap distance_of gu) (ap (λ z. distance_of (t.entry z r)) sv.is ∙ ap distance_of gv) in
    subst (λ z. TreeTrip m t r z v l (a.distance + b.distance)) su.is (subst (λ z. TreeTrip m t r su.place.node z l (a.distance + b.distance)) sv.is
    (subst (λ z. TreeTrip m t r su.place.node sv.place.node z (a.distance + b.distance)) (label sv.place sv.above sv.among sv.is)
    (subst (TreeTrip m t r su.place.node sv.place.node sv.place.label) most got)))
