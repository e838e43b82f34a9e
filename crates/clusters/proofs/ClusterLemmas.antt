-- From a tree that is cut off at the distances of the nearest landmarks to the definition of a cluster.
use Rattle.std.proofs.Common.{◌≡◌, ◌≢◌, ℕ, ◌+◌, ◌<◌, Bool, true, List, map, get_or, Option, Some, None, ltb, refl, sym, ap, ◌∙◌, arith}
use Rattle.std.specs.List.{Contains}
use Rattle.std.specs.Option.{option_map, IfSome}
use Rattle.std.proofs.lemmas.Bool.Decides.{nat_tests}
use Rattle.std.proofs.lemmas.List.Elements.{All-weaker}
use Rattle.graph_edits.specs.Edges.{EdgeMap, Network, IsSound}
use Rattle.graph_edits.specs.Walks.{IsLeast}
use Rattle.distances.specs.Search.{is_below, number_at, AreGentle}
use Rattle.distances.specs.Reach.{IsTree, IsParent}
use Rattle.distances.specs.Nearest.{AreNearest, IsNearestOf, near_limit}
use Rattle.distances.specs.Laws.{limit_at, gentle_limits, open_limits, tree_limits}
use Rattle.landmarks.specs.declared.near.Near.{Near}
use Rattle.distances.specs.declared.reach.Reached.{Reached}
use Rattle.clusters.specs.Cluster.{IsNearer, IsCluster, HasParents}

below_less : (a b : ℕ) → a < b → ltb a b ≡ true
below_less a b lt = grind (arith, nat_tests)

less_from : (a b : ℕ) → ltb a b ≡ true → a < b
less_from a b t = grind (arith, nat_tests)

module _ (m : EdgeMap) (flags : List Bool) where
  nearer_if : (v d : ℕ) (o : Option Near) → IsNearestOf m flags v o → is_below d (option_map (λ n. n.distance) o) ≡ true → IsNearer m flags v d
  nearer_if v d None none below a xs landmark walk = absurd (none (a, (landmark, (xs, walk))))
  nearer_if v d (Some n) near below a xs landmark walk =
      let le = near.0.least a xs landmark walk in
      let lt = less_from d n.distance below in
      omega (arith, le, lt)

  below_if : (v d : ℕ) (o : Option Near) → IsNearestOf m flags v o → IsNearer m flags v d → is_below d (option_map (λ n. n.distance) o) ≡ true
  below_if v d None none nearer = refl
  below_if v d (Some n) near nearer =
      let a = near.0.attained in
      let lt = nearer a.0 a.1.1.0 a.1.0 a.1.1.1.0 in
      below_less d n.distance (omega (arith, lt, a.1.1.1.1))

  pub cluster_from : (w : ℕ) (nearest : List (Option Near)) (members : List Reached) → ((v : ℕ) → IsNearestOf m flags v (get_or nearest v None)) → IsTree m w (near_limit nearest) members → IsCluster m flags w members
  cluster_from w nearest members near tree = record {
    exact = All-weaker (λ r. IsLeast m (λ s. s ≡ w) r.node r.distance × (is_below r.distance (near_limit nearest r.node) ≡ true)) (λ r. IsLeast m (λ s. s ≡ w) r.node r.distance × IsNearer m flags r.node r.distance)
        (λ r h. (h.0, nearer_if r.node r.distance (get_or nearest r.node None) (near r.node) h.1)) members tree.exact;
    complete = λ v d least nearer. tree.complete v d least (below_if v d (get_or nearest v None) (near v) nearer);
  }

parent_nearer : (g : Network) → IsSound g → (w : ℕ) (members : List Reached) (x d : ℕ) (o : Option ℕ) → IsParent g.edges w members x d o → IfSome o (λ y. (k : Reached) × (Contains members k × (k.node ≡ y) × (k.distance < d)))
parent_nearer g sound w members x d None h = tt
parent_nearer g sound w members x d (Some y) h =
    let t = h.1 in
    let one = (sound.weighted y x t.1 t.2.2).0 in
    (t.0, (t.2.0, t.2.1, omega (arith, one, t.2.3)))

pub has_parents : (g : Network) → IsSound g → (w : ℕ) (limit : ℕ → Option ℕ) (members : List Reached) → IsTree g.edges w limit members → HasParents members
has_parents g sound w limit members tree = All-weaker (λ r. IsParent g.edges w members r.node r.distance r.parent) (λ r. IfSome r.parent (λ y. (k : Reached) × (Contains members k × (k.node ≡ y) × (k.distance < r.distance))))
    (λ r h. parent_nearer g sound w members r.node r.distance r.parent h) members tree.parents

-- ---- the distances of the nearest landmarks, as the limits of a search

module _ (g : Network) (sound : IsSound g) (nearest : List (Option Near)) (limits : List (Option ℕ)) (same : limits ≡ map (λ o. option_map (λ n. n.distance) o) nearest) where
  limit_is : (x : ℕ) → number_at limits x ≡ near_limit nearest x
  limit_is x = ap (λ l. number_at l x) same ∙ limit_at nearest x

  pub center_within : (x : ℕ) → AreNearest g.edges nearest → get_or nearest x None ≢ Some (record { landmark = x; distance = 0 }) → is_below 0 (number_at limits x) ≡ true
  center_within x near other = ap (is_below 0) (limit_is x) ∙ open_limits g sound near.0 nearest x near.1 other

  pub are_gentle : AreNearest g.edges nearest → AreGentle g.edges (number_at limits)
  are_gentle near x y w e edge below = ap (is_below e) (limit_is x) ∙ gentle_limits g sound near.0 nearest near.1 x y w e edge (sym (ap (is_below (e + w)) (limit_is y)) ∙ below)

  pub cut_tree : (root : ℕ) (tree : List Reached) → IsTree g.edges root (number_at limits) tree → IsTree g.edges root (near_limit nearest) tree
  cut_tree root tree h = tree_limits g.edges root (number_at limits) (near_limit nearest) tree limit_is h
