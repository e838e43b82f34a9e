-- Rows, as they are made: ports, places of nodes in lists, and the rows of what was numbered.
use Rattle.std.proofs.Common.{◌≡◌, ℕ, zero, suc, ◌+◌, ◌≤◌, ◌<◌, sym, refl, ap, subst, ◌∙◌, arith, List, [], ◌∷◌, ◌++◌, length, map, get_or}
use Rattle.std.specs.Prelude.{Option, Some, None, slice_index}
use Rattle.std.specs.List.{All, Contains}
use Rattle.std.specs.List.Sorted.{IsStrictlyIncreasing}
use Rattle.std.proofs.lemmas.List.{get_or-map, get_or_default, length-map}
use Rattle.std.proofs.Math.ListN.{set}
use Rattle.std.proofs.lemmas.List.Elements.{All-map}
use Rattle.std.proofs.lemmas.Simd.{map-map}
use Rattle.graph_edits.specs.Edges.{Network}
use Rattle.distances.specs.declared.reach.Reached.{Reached}
use Rattle.distances.specs.declared.linked.Linked.{Linked}
use Rattle.distances.specs.Workspace.{reached_of, HasLinks, AreLinked}
use Rattle.route_tree.specs.declared.member.Member.{Member}
use Rattle.route_tree.specs.Growth.{IsEachOnce}
use Rattle.route_tree.specs.Places.{HasPlaces}
use Rattle.heavy_labels.specs.declared.numbered_member.NumberedMember.{NumberedMember}
use Rattle.node_table.specs.Columns.{AreBelow, linked_member, member_of, up_by, down_by, AreFrom}
use Rattle.node_table.specs.RowLists.{Row, nobody, nodes_in, nodes_linked, nodes_numbered, row_by, rows_by}
use Rattle.schemes.specs.Places.{ArePlaces, ArePlacesTo}
use Rattle.node_table.proofs.Builds.MadeRows.{IsRowFrom, IsRowList}
use Rattle.schemes.proofs.Basics.Places.{places_more}
use Rattle.schemes.proofs.Basics.PortLemmas.{port_is}

-- ---- ports

-- what is reached with its ports is a member of the tree
up_is : (m : Network) (x : ℕ) (parent up down : Option ℕ) → HasLinks m x parent up down → up ≡ up_by m x parent
up_is m x None up down h = h.0
up_is m x (Some y) up down h = port_is m x y up h.0

down_is : (m : Network) (x : ℕ) (parent up down : Option ℕ) → HasLinks m x parent up down → down ≡ down_by m x parent
down_is m x None up down h = h.1
down_is m x (Some y) up down h = port_is m y x down h.1

member_is : (m : Network) (k : Linked) → HasLinks m k.reached.node k.reached.parent k.up k.down → linked_member k ≡ member_of m k.reached
member_is m k h =
    ap (λ u. record { node = k.reached.node; parent = k.reached.parent; up = u; down = k.down }) (up_is m k.reached.node k.reached.parent k.up k.down h)
    ∙ ap (λ d. record { node = k.reached.node; parent = k.reached.parent; up = up_by m k.reached.node k.reached.parent; down = d }) (down_is m k.reached.node k.reached.parent k.up k.down h)

pub members_are : (m : Network) (ks : List Linked) → AreLinked m ks → map linked_member ks ≡ map (λ k. member_of m k) (reached_of ks)
members_are m [] h = refl
members_are m (k ∷ ks) h = ap (λ a. a ∷ map linked_member ks) (member_is m k (h 0 k (omega arith))) ∙ ap (λ rest. member_of m k.reached ∷ rest) (members_are m ks (λ i d l. h (suc i) d (omega (arith, l))))

pub nodes_are : (ks : List Linked) → nodes_linked ks ≡ map (λ (k : Reached). k.node) (reached_of ks)
nodes_are ks = sym (map-map (λ (k : Reached). k.node) (λ (k : Linked). k.reached) ks)

pub reached_length : (ks : List Linked) → length (reached_of ks) ≡ length ks
reached_length ks = length-map ks (λ (k : Linked). k.reached)

pub linked_length : (ks : List Linked) → length (nodes_linked ks) ≡ length ks
linked_length ks = length-map ks (λ (k : Linked). k.reached.node)

-- ---- places

pub node_at : (ks : List Linked) (i : ℕ) (z : Linked) → i < length ks → slice_index (nodes_linked ks) i ≡ (get_or ks i z).reached.node
node_at ks i z l = get_or-map (λ (k : Linked). k.reached.node) ks i z 0 l

-- the same where the node is said by the list that was reached
pub place_noted : (ks : List Linked) (n : ℕ) (z : Linked) (table : List ℕ) → ArePlacesTo (nodes_linked ks) n table → n < length ks → (get_or ks n z).reached.node < length table
    → ArePlacesTo (nodes_linked ks) (n + 1) (set table (get_or ks n z).reached.node n)
place_noted ks n z table h l inside =
    let e = node_at ks n z l in
    let many = linked_length ks in
    subst (λ x. ArePlacesTo (nodes_linked ks) (n + 1) (set table x n)) e
    (places_more (nodes_linked ks) n table h (omega (arith, many, l)) (subst (λ x. x < length table) (sym e) inside))

-- where a node was reached
pub place_found : (ks : List Linked) (table : List ℕ) (x : ℕ) → ArePlaces (nodes_linked ks) table → Contains (nodes_linked ks) x → (slice_index table x < length ks) × ((z : Linked) → (get_or ks (slice_index table x) z).reached.node ≡ x)
place_found ks table x h c =
    let at : slice_index (nodes_linked ks) c.0 ≡ x = get_or_default (nodes_linked ks) c.0 0 x c.1 ∙ c.2 in
    let there = h c.0 c.1 in
    let inside : slice_index table x < length (nodes_linked ks) = subst (λ z. slice_index table z < length (nodes_linked ks)) at there.0 in
    let is : slice_index (nodes_linked ks) (slice_index table x) ≡ x = subst (λ z. slice_index (nodes_linked ks) (slice_index table z) ≡ z) at there.1 in
    let here : slice_index table x < length ks = (let n = linked_length ks in omega (arith, n, inside)) in
    (here, λ z. sym (get_or-map (λ (k : Linked). k.reached.node) ks (slice_index table x) z 0 here) ∙ is)

-- the same, where each node is there once
pub has_places : (ks : List Linked) (table : List ℕ) → ArePlaces (nodes_linked ks) table → All (λ x. x < length table) (nodes_linked ks) → IsEachOnce (map linked_member ks) → HasPlaces (map linked_member ks) table
has_places ks table h inside once = record {
  fits = λ k d l. (let many = linked_length ks in
      let as_many = length-map ks linked_member in
      let e = member_node k d (omega (arith, as_many, l)) in
      let i = inside k 0 (omega (arith, many, as_many, l)) in
      omega (arith, e, i));
  there = λ k d l. (let many = linked_length ks in
      let as_many = length-map ks linked_member in
      let at = h k (omega (arith, many, as_many, l)) in
      let e = member_node k d (omega (arith, as_many, l)) in
      let p = slice_index table (slice_index (nodes_linked ks) k) in
      let f = member_node p d (omega (arith, many, at.0)) in
      ap (slice_index table) e ∙ once p k d d (omega (arith, many, as_many, at.0)) l (f ∙ at.1 ∙ sym e));
}
  where
    member_node : (k : ℕ) (d : Member) → k < length ks → (get_or (map linked_member ks) k d).node ≡ slice_index (nodes_linked ks) k
    member_node k d l = ap (λ (a : Member). a.node) (get_or-map linked_member ks k nobody d l) ∙ sym (node_at ks k nobody l)

-- ---- rows

-- what holds of the nodes of all numbered members holds of each member's
pub members_have : (P : ℕ → Type 0) (ns : List NumberedMember) → All P (nodes_numbered ns) → All (λ (n : NumberedMember). P n.node) ns
members_have P ns h i d l =
    let many = length-map ns (λ (a : NumberedMember). a.node) in
    subst P (get_or-map (λ (a : NumberedMember). a.node) ns i d 0 l) (h i 0 (omega (arith, many, l)))

-- something was reached at the place of each numbered member
pub members_reached : (ks : List Linked) (table : List ℕ) (ns : List NumberedMember) → ArePlaces (nodes_linked ks) table → All (Contains (nodes_linked ks)) (nodes_numbered ns)
    → All (λ (n : NumberedMember). slice_index table n.node < length ks) ns
members_reached ks table ns h c i d l = (place_found ks table (get_or ns i d).node h (members_have (Contains (nodes_linked ks)) ns c i d l)).0

-- each row has its numbered member's node
pub rows_nodes : (r : ℕ) (ks : List Linked) (table : List ℕ) (ns : List NumberedMember) → nodes_in (rows_by r ks table ns) ≡ nodes_numbered ns
rows_nodes r ks table ns = map-map (λ (w : Row). w.node) (row_by r ks table) ns

-- where each numbered member has a place at which it was reached, the rows are those of what was numbered
pub rows_list : (r : ℕ) (ks : List Linked) (table : List ℕ) (ns : List NumberedMember) → ArePlaces (nodes_linked ks) table → All (Contains (nodes_linked ks)) (nodes_numbered ns)
    → IsRowList r (reached_of ks) ns (rows_by r ks table ns)
rows_list r ks table ns h c = record {
  each = All-map (IsRowFrom r (reached_of ks) ns) (row_by r ks table) ns (λ i d l. from (get_or ns i d) i l (get_or_default ns i (get_or ns i d) d l));
  nodes = rows_nodes r ks table ns;
}
  where
    from : (n : NumberedMember) (i : ℕ) → i < length ns → get_or ns i n ≡ n → IsRowFrom r (reached_of ks) ns (row_by r ks table n)
    from n i l e =
        let f = place_found ks table n.node h (subst (λ (a : NumberedMember). Contains (nodes_linked ks) a.node) e (members_have (Contains (nodes_linked ks)) ns c i n l)) in
        let place = slice_index table n.node in
        let k = get_or ks place nobody in (
          k.reached,
          n,
          (
            (place, (let a = reached_length ks in let b = f.0 in omega (arith, a, b)), get_or-map (λ (z : Linked). z.reached) ks place nobody k.reached f.0),
            (i, l, e),
            record { reached = sym (f.1 nobody); numbered = refl; root = refl; distance = refl; parent = refl; tree_record = refl; label = refl },
          ),
        )

-- ---- lists that grow

shift : (k : ℕ) → suc k + 1 ≡ suc (k + 1)
shift k = omega arith

-- ascending numbers below b, and behind them ascending ones from b on
pub increasing_both : (b : ℕ) (xs ys : List ℕ) → IsStrictlyIncreasing xs → IsStrictlyIncreasing ys → AreBelow b xs → AreFrom b ys → IsStrictlyIncreasing (xs ++ ys)
increasing_both b [] ys h g u f k l = g k l
increasing_both b (x ∷ []) [] h g u f k l = absurd (omega (arith, l))
increasing_both b (x ∷ []) (y ∷ ys) h g u f zero l = (let p = u.0 in let q = f.0 in omega (arith, p, q))
increasing_both b (x ∷ []) (y ∷ ys) h g u f (suc k) l = rw (shift k) (g k (omega (arith, l)))
increasing_both b (x ∷ z ∷ xs) ys h g u f zero l = h 0 (omega arith)
increasing_both b (x ∷ z ∷ xs) ys h g u f (suc k) l = rw (shift k) (increasing_both b (z ∷ xs) ys (λ j i. rw shift at (h (suc j) (omega (arith, i)))) g u.1 f k (omega (arith, l)))

-- one number behind them
pub increasing_push : (xs : List ℕ) (x : ℕ) → IsStrictlyIncreasing xs → AreBelow x xs → IsStrictlyIncreasing (xs ++ x ∷ [])
increasing_push xs x h b = increasing_both x xs (x ∷ []) h (λ k l. absurd (omega (arith, l))) b (omega arith, tt)

pub below_more : (xs : List ℕ) (j k : ℕ) → j ≤ k → AreBelow j xs → AreBelow k xs
below_more [] j k l b = tt
below_more (x ∷ xs) j k l b = (omega (arith, l, b.0), below_more xs j k l b.1)

pub below_both : (k : ℕ) (xs ys : List ℕ) → AreBelow k xs → AreBelow k ys → AreBelow k (xs ++ ys)
below_both k [] ys a b = b
below_both k (x ∷ xs) ys a b = (a.0, below_both k xs ys a.1 b)
