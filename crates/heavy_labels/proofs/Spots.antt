-- Sorted by node, the spots of all members have their places in the order of nodes.
use Rattle.std.proofs.Common.{◌≡◌, ℕ, suc, ◌+◌, ◌<◌, ◌≤◌, false, inl, inr, List, [], ◌∷◌, ◌++◌, length, get_or, map, refl, sym, ap, subst, ◌∙◌, arith, below_more, IsPermutation}
use Rattle.std.specs.Prelude.{nat_eq, slice_index}
use Rattle.std.specs.List.{All, AllByRecursion, IsDistinct}
use Rattle.std.specs.List.Sorted.{IsNonDecreasingBy}
use Rattle.std.proofs.lemmas.Bool.{eqb-false, ne_eqb}
use Rattle.std.proofs.lemmas.Bool.Decides.{nat_tests}
use Rattle.std.proofs.lemmas.List.{get_or-map, length-map}
use Rattle.std.proofs.lemmas.List.Sorted.{All-permutation, Contains-permutation, IsPermutation-map}
use Rattle.std.proofs.lemmas.Map.Keys.{IsDistinct-IsPermutation, IsDistinct-from_apart, IsDistinct-head, IsDistinct-tail}
use Rattle.route_tree.specs.Members.{AreMembers}
use Rattle.route_tree.specs.Places.{HasPlaces}
use Rattle.route_tree.specs.declared.member.Member.{Member}
use Rattle.heavy_labels.specs.declared.by_node.Spot.{Spot}
use Rattle.heavy_labels.specs.ByNode.{nobody, node_at, IsAmong, AreAbove, AscendByNode, AreByNode, AreByNodeTo, AreSpots, IsPlaceOf}
use Rattle.heavy_labels.proofs.OneOf.{in_append, in_at, in_left, in_right}

abbrev node_of : Spot → ℕ
node_of s = s.node

abbrev place_of : Spot → ℕ
place_of s = s.place

abbrev no_spot : Spot
no_spot = record { node = 0; place = 0 }

-- a spot is a member's
abbrev IsSpot : List Member → Spot → Type 0
IsSpot ms s = (s.place < length ms) × (s.node ≡ node_at ms s.place)

spots_are : (ms : List Member) (ss : List Spot) → AreSpots ms (length ms) ss → All (IsSpot ms) ss
spots_are ms ss h k d l =
    let n = h.length_is in
    let e = h.each k d (omega (arith, n, l)) in
    let place = e.0 in
    (omega (arith, place, n, l), e.1 ∙ ap (node_at ms) (sym e.0))

-- ---- each place is there

among_inside : (ms : List Member) (ts : List Spot) (i : ℕ) → All (IsSpot ms) ts → IsAmong i (map place_of ts) → i < length ms
among_inside ms [] i h a = absurd a
among_inside ms (t ∷ ts) i h (inl e) = (let w = (h 0 t (omega arith)).0 in omega (arith, w, e))
among_inside ms (t ∷ ts) i h (inr a) = among_inside ms ts i (λ k d l. h (suc k) d (omega (arith, l))) a

among_all : (ms : List Member) (ss ts : List Spot) (i : ℕ) → AreSpots ms (length ms) ss → IsPermutation ss ts → i < length ms → IsAmong i (map place_of ts)
among_all ms ss ts i h p l =
    let n = h.length_is in
    let there : i < length ss = omega (arith, n, l) in
    let many = length-map ss place_of in
    let d = Contains-permutation (map place_of ss) (map place_of ts) i (IsPermutation-map place_of ss ts p)
    (i, omega (arith, many, there), get_or-map place_of ss i no_spot i there ∙ (h.each i no_spot l).0) in
    subst (λ z. IsAmong z (map place_of ts)) d.2 (in_at (map place_of ts) d.0 i d.1)

-- ---- their nodes ascend

spots_apart : (ms : List Member) (ss : List Spot) → AreMembers ms → AreSpots ms (length ms) ss → IsDistinct nat_eq (map node_of ss)
spots_apart ms ss a h = IsDistinct-from_apart nat_eq (map node_of ss) (λ i j d l m.
    (let n = h.length_is in
    let many = length-map ss node_of in
    let u : i < length ms = omega (arith, n, many, l, m) in
    let v : j < length ms = omega (arith, n, many, m) in
    let is : (k : ℕ) → k < length ms → get_or (map node_of ss) k d ≡ node_at ms k = λ k w. get_or-map node_of ss k no_spot d (omega (arith, n, w)) ∙ (h.each k no_spot w).1 in
    ne_eqb _ _ (λ e. (let same = a.once i j nobody nobody u v (sym (is i u) ∙ e ∙ is j v) in omega (arith, same, l)))))

flips : (x y : ℕ) → nat_eq x y ≡ nat_eq y x
flips x y = grind (arith, nat_tests)

above_all : (ms : List Member) (t : Spot) (us : List Spot) → IsSpot ms t → All (IsSpot ms) us → ((k : ℕ) (d : Spot) → k < length us → t.node ≤ (get_or us k d).node) → AllByRecursion (λ y. nat_eq t.node y ≡ false) (map node_of us)
    → AreAbove ms (node_at ms t.place) (map place_of us)
above_all ms t [] s h le ne = tt
above_all ms t (u ∷ us) s h le ne = (
  (let here = s.1 in
      let there = (h 0 u (omega arith)).1 in
      let l = le 0 u (omega arith) in
      let other = eqb-false t.node u.node ne.0 in
      omega (arith, here, there, l, other)),
  above_all ms t us s (λ k d l. h (suc k) d (omega (arith, l))) (λ k d l. le (suc k) d (omega (arith, l))) ne.1,
)

ascends : (ms : List Member) (ts : List Spot) → All (IsSpot ms) ts → IsNonDecreasingBy node_of ts → IsDistinct nat_eq (map node_of ts) → AscendByNode ms (map place_of ts)
ascends ms [] h n d = tt
ascends ms (t ∷ ts) h n d = (
  above_all ms t ts (h 0 t (omega arith)) (λ k e l. h (suc k) e (omega (arith, l))) (λ k e l. n 0 (suc k) e (omega arith) (omega (arith, l)))
      (IsDistinct-head nat_eq t.node (map node_of ts) d),
  ascends ms ts (λ k e l. h (suc k) e (omega (arith, l))) (λ i j e l m. n (suc i) (suc j) e (omega (arith, l)) (omega (arith, m)))
      (IsDistinct-tail nat_eq t.node (map node_of ts) d),
)

pub by_node_from : (ms : List Member) (ss ts : List Spot) (is : List ℕ) → AreMembers ms → AreSpots ms (length ms) ss → IsPermutation ss ts → IsNonDecreasingBy (λ (s : Spot). s.node) ts
    → is ≡ map (λ (s : Spot). s.place) ts → AreByNode ms is
by_node_from ms ss ts is a h p n e =
    let all = All-permutation (IsSpot ms) ss ts p (spots_are ms ss h) in
    subst (AreByNode ms) (sym e) (record {
      ascend = ascends ms ts all n (IsDistinct-IsPermutation nat_eq flips (map node_of ss) (map node_of ts) (IsPermutation-map node_of ss ts p) (spots_apart ms ss a h));
      all = λ i. (among_inside ms ts i all, among_all ms ss ts i h p);
    })

-- ---- one node more of a table

above_push : (ms : List Member) (x : ℕ) (is : List ℕ) (p : ℕ) → AreAbove ms x is → x < node_at ms p → AreAbove ms x (is ++ p ∷ [])
above_push ms x [] p a l = (l, tt)
above_push ms x (i ∷ is) p a l = (a.0, above_push ms x is p a.1 l)

ascend_push : (ms : List Member) (is : List ℕ) (p : ℕ) → AscendByNode ms is → ((i : ℕ) → IsAmong i is → node_at ms i < node_at ms p) → AscendByNode ms (is ++ p ∷ [])
ascend_push ms [] p a h = (tt, tt)
ascend_push ms (i ∷ is) p a h = (above_push ms (node_at ms i) is p a.0 (h i (inl refl)), ascend_push ms is p a.1 (λ k b. h k (inr b)))

-- it is a member's
pub node_more : (ms : List Member) (x p : ℕ) (is more : List ℕ) → AreMembers ms → IsPlaceOf ms p x → more ≡ is ++ p ∷ [] → AreByNodeTo ms x is → AreByNodeTo ms (x + 1) more
node_more ms x p is more a h e b = subst (AreByNodeTo ms (x + 1)) (sym e) (record {
  ascend = ascend_push ms is p b.ascend (λ i k. (let w = (b.inside i k).1 in let n = h.1 in omega (arith, w, n)));
  inside = λ i k. elim (in_append i is (p ∷ []) k) [
    | inl u ↦ (let w = b.inside i u in let n = w.1 in (w.0, omega (arith, n)))
    | inr (inl q) ↦ (let l = h.0 in let n = h.1 in let m = ap (node_at ms) q in (omega (arith, l, q), omega (arith, n, m)))
    | inr (inr c) ↦ absurd c
  ];
  all = λ i l w. below_more (λ y. node_at ms i ≡ y → IsAmong i (is ++ p ∷ [])) x
      (λ y lt q. in_left i is (p ∷ []) (b.all i l (omega (arith, lt, q))))
      (λ q. in_right i is (p ∷ []) (inl (a.once i p nobody nobody l h.0 (q ∙ sym h.1)))) (node_at ms i) w refl;
})

-- it is nobody's
pub node_none : (ms : List Member) (x : ℕ) (table is : List ℕ) → HasPlaces ms table → (IsPlaceOf ms (slice_index table x) x → ⊥) → AreByNodeTo ms x is → AreByNodeTo ms (x + 1) is
node_none ms x table is h ne b = record {
  ascend = b.ascend;
  inside = λ i k. (let w = b.inside i k in let n = w.1 in (w.0, omega (arith, n)));
  all = λ i l w. below_more (λ y. node_at ms i ≡ y → IsAmong i is) x (λ y lt q. b.all i l (omega (arith, lt, q)))
      (λ q. (let place : slice_index table x ≡ i = ap (slice_index table) (sym q) ∙ h.there i nobody l in absurd (ne (omega (arith, place, l), ap (node_at ms) place ∙ q)))) (node_at ms i) w refl;
}

-- all nodes were asked for
pub all_nodes : (ms : List Member) (x : ℕ) (table is : List ℕ) → HasPlaces ms table → length table ≤ x → AreByNodeTo ms x is → AreByNode ms is
all_nodes ms x table is h l b = record { ascend = b.ascend; all = λ i. ((λ k. (b.inside i k).0), (λ k. b.all i k (let f = h.fits i nobody k in omega (arith, f, l)))) }
