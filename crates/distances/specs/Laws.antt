-- Laws of walks, trees and nearest landmarks, for the crates above.
use Rattle.std.proofs.Common.{◌≡◌, ℕ, zero, suc, ◌+◌, ◌<◌, Bool, true, false, ◌≢◌, ◌⊎◌, inl, inr, List, [], ◌∷◌, ◌++◌, map, get_or, Option, Some, None, ltb, refl, sym, ap, ◌∙◌, arith}
use Rattle.std.specs.Option.{option_map, unwrap_or, IsSome, is_some}
use Rattle.std.proofs.lemmas.Bool.{cases_eq}
use Rattle.std.proofs.lemmas.Bool.Decides.{nat_tests}
use Rattle.std.proofs.lemmas.List.Elements.{All-weaker}
use Rattle.graph_edits.specs.Edges.{EdgeMap, Network, weight_between, IsSound}
use Rattle.graph_edits.specs.Walks.{IsWalk, walk_length, IsLeast}
use Rattle.graph_edits.specs.Laws.{IsWalk-push}
use Rattle.distances.specs.Search.{is_below, number_at, AreGentle}
use Rattle.distances.specs.Reach.{IsTree}
use Rattle.distances.specs.Nearest.{IsNearestOf, near_limit}
use Rattle.distances.specs.declared.reach.Reached.{Reached}
use Rattle.landmarks.specs.declared.near.Near.{Near}

-- ---- walks

no_edge : (o : Option ℕ) → o ≡ None → IsSome o → ⊥
no_edge o e t = let f : false ≡ true = sym (ap is_some e) ∙ t in cc

-- a walk stays where it is, or has a last edge
pub last_edge : (m : EdgeMap) (u : ℕ) (xs : List ℕ) (v : ℕ) → IsWalk m u xs v
    → (u ≡ v) ⊎ ((y : ℕ) × ((w : ℕ) × ((ys : List ℕ) × (IsWalk m u ys y × (weight_between m y v ≡ Some w) × (walk_length m u ys + w ≡ walk_length m u xs)))))
last_edge m u [] v e = inl e
last_edge m u (x ∷ xs) v h = elim (weight_between m u x) as (λ o. weight_between m u x ≡ o
    → (u ≡ v) ⊎ ((y : ℕ) × ((w : ℕ) × ((ys : List ℕ) × (IsWalk m u ys y × (weight_between m y v ≡ Some w) × (walk_length m u ys + w ≡ walk_length m u (x ∷ xs))))))) [
      | None ↦ λ is. absurd (no_edge (weight_between m u x) is h.0)
      | Some a ↦ λ is. inr (after_first m u x xs v a is h.0 h.1)
    ] refl
  where
    after_first : (m : EdgeMap) (u x : ℕ) (xs : List ℕ) (v a : ℕ) → weight_between m u x ≡ Some a → IsSome (weight_between m u x) → IsWalk m x xs v
        → (y : ℕ) × ((w : ℕ) × ((ys : List ℕ) × (IsWalk m u ys y × (weight_between m y v ≡ Some w) × (walk_length m u ys + w ≡ walk_length m u (x ∷ xs)))))
    after_first m u x [] v a is some e = (u, (a, ([], (refl, ap (weight_between m u) (sym e) ∙ is, (let n : a ≡ unwrap_or (weight_between m u x) 0 = sym (ap (λ o. unwrap_or o 0) is) in omega (arith, n))))))
    after_first m u x (z ∷ zs) v a is some h = elim (weight_between m x z) as (λ o. weight_between m x z ≡ o → (y : ℕ) × ((w : ℕ) × ((ys : List ℕ) × (IsWalk m u ys y × (weight_between m y v ≡ Some w) × (walk_length m u ys + w ≡ walk_length m u (x ∷ z ∷ zs)))))) [
      | None ↦ λ at. absurd (no_edge (weight_between m x z) at h.0)
      | Some b ↦ λ at. let r = after_first m x z zs v b at h.0 h.1 in (r.0, (r.1.0, (x ∷ r.1.1.0, ((some, r.1.1.1.0), r.1.1.1.1, (let n = r.1.1.1.2 in omega (arith, n))))))
    ] refl

-- ---- trees

-- a tree by other words for the limits
pub tree_limits : (m : EdgeMap) (root : ℕ) (limit other : ℕ → Option ℕ) (tree : List Reached) → ((x : ℕ) → limit x ≡ other x) → IsTree m root limit tree → IsTree m root other tree
tree_limits m root limit other tree same h = record {
  ascending = h.ascending;
  exact = All-weaker (λ r. IsLeast m (λ s. s ≡ root) r.node r.distance × (is_below r.distance (limit r.node) ≡ true)) (λ r. IsLeast m (λ s. s ≡ root) r.node r.distance × (is_below r.distance (other r.node) ≡ true))
      (λ r e. (e.0, ap (is_below r.distance) (sym (same r.node)) ∙ e.1)) tree h.exact;
  complete = λ x d l below. h.complete x d l (ap (is_below d) (same x) ∙ below);
  parents = h.parents;
}

-- ---- the distances of the nearest landmarks as limits

-- the limits of all nodes, in a list
pub limit_at : (nearest : List (Option Near)) (x : ℕ) → number_at (map (λ o. option_map (λ n. n.distance) o) nearest) x ≡ near_limit nearest x
limit_at [] x = refl
limit_at (o ∷ os) zero = refl
limit_at (o ∷ os) (suc x) = limit_at os x

below_less : (a b : ℕ) → a < b → ltb a b ≡ true
below_less a b lt = grind (arith, nat_tests)

less_from : (a b : ℕ) → ltb a b ≡ true → a < b
less_from a b t = grind (arith, nat_tests)

module _ (g : Network) (sound : IsSound g) (flags : List Bool) where
  gentle_by : (x y w e : ℕ) (o p : Option Near) → IsNearestOf g.edges flags x o → IsNearestOf g.edges flags y p → weight_between g.edges x y ≡ Some w
      → is_below (e + w) (option_map (λ n. n.distance) p) ≡ true → is_below e (option_map (λ n. n.distance) o) ≡ true
  gentle_by x y w e None p hx hy edge below = refl
  gentle_by x y w e (Some n) None hx hy edge below =
      let a = hx.0.attained in
      absurd (hy (a.0, (a.1.0, (a.1.1.0 ++ y ∷ [], (IsWalk-push g.edges a.0 a.1.1.0 x y w a.1.1.1.0 edge).0))))
  gentle_by x y w e (Some n) (Some k) hx hy edge below =
      let a = hx.0.attained in
      let q = IsWalk-push g.edges a.0 a.1.1.0 x y w a.1.1.1.0 edge in
      let le = hy.0.least a.0 (a.1.1.0 ++ y ∷ []) a.1.0 q.0 in
      let lt = less_from (e + w) k.distance below in
      below_less e n.distance (omega (arith, le, q.1, a.1.1.1.1, lt))

  -- over an edge they rise by at most its weight
  pub gentle_limits : (nearest : List (Option Near)) → ((v : ℕ) → IsNearestOf g.edges flags v (get_or nearest v None)) → AreGentle g.edges (near_limit nearest)
  gentle_limits nearest h x y w e edge below = gentle_by x y w e (get_or nearest x None) (get_or nearest y None) (h x) (h y) edge below

  open_by : (x : ℕ) (o : Option Near) → IsNearestOf g.edges flags x o → o ≢ Some (record { landmark = x; distance = 0 }) → is_below 0 (option_map (λ n. n.distance) o) ≡ true
  open_by x None h other = refl
  open_by x (Some n) h other =
      let a = h.2.attained in
      elim (last_edge g.edges a.0 a.1.1.0 x a.1.1.1.0) [
        | inl e ↦ elim (cases_eq n.distance 0) [
          | inl z ↦ let same : n.landmark ≡ x = sym a.1.0 ∙ e in absurd (other (λ i. Some (record { landmark = same i; distance = z i })))
          | inr ne ↦ below_less 0 n.distance (omega (arith, ne))
        ]
        | inr r ↦ let one = (sound.weighted r.0 x r.1.0 r.1.1.1.1).0 in below_less 0 n.distance (omega (arith, one, r.1.1.1.2, a.1.1.1.1))
      ]

  -- that of a node which is no landmark is above 0
  pub open_limits : (nearest : List (Option Near)) (x : ℕ) → ((v : ℕ) → IsNearestOf g.edges flags v (get_or nearest v None)) → get_or nearest x None ≢ Some (record { landmark = x; distance = 0 }) → is_below 0 (near_limit nearest x) ≡ true
  open_limits nearest x h other = open_by x (get_or nearest x None) (h x) other
