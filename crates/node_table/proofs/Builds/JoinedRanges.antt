-- Two adjacent ranges of roots, joined: tables of the roots from a to below b, with those from b to below c behind them.
use Rattle.std.proofs.Common.{◌≡◌, ℕ, ◌+◌, ◌≤◌, ◌<◌, inl, inr, Bool, true, false, sym, refl, ap, subst, ◌∙◌, arith, List, [], ◌∷◌, ◌++◌, length}
use Rattle.std.specs.Prelude.{Option, Some, None, IsSome, slice_get}
use Rattle.std.specs.List.Sorted.{IsStrictlyIncreasing}
use Rattle.std.proofs.lemmas.Bool.{cases_lt, ne_eqb}
use Rattle.std.proofs.lemmas.List.{map-append}
use Rattle.graph_edits.specs.Edges.{Network}
use Rattle.distances.specs.Nearest.{IsNearestOf}
use Rattle.landmarks.specs.declared.near.Near.{Near}
use Rattle.heavy_labels.specs.Label.{Label}
use Rattle.schemes.specs.declared.parts.Parts.{Parts}
use Rattle.schemes.specs.Entry.{Entry}
use Rattle.schemes.specs.Tables.{tables, entries_at, directory_at, first_entry, roots_of, value_at, or_false, items_at}
use Rattle.node_table.specs.Columns.{HasColumn, IsBuiltBetween, AreBelow, AreFrom}
use Rattle.node_table.specs.Building.{first_list, first_some, IsJoined, IsBuildOf}
use Rattle.node_table.proofs.Builds.KeptColumns.{column_kept}
use Rattle.node_table.proofs.Builds.RowSteps.{below_both, below_more, increasing_both}
use Rattle.node_table.proofs.Builds.OneRootMore.{first_left, first_right, from_both, none_under}

-- ---- lists of roots below b and from b

none_from : (b r : ℕ) (es : List Entry) → r < b → AreFrom b (roots_of es) → first_entry r es ≡ None
none_from b r [] l f = refl
none_from b r (e ∷ es) l f = rw (let k = f.0 in ne_eqb e.root r (λ s. omega (arith, k, l, s))) (none_from b r es l f.1)

from_more : (xs : List ℕ) (j k : ℕ) → j ≤ k → AreFrom k xs → AreFrom j xs
from_more [] j k l b = tt
from_more (x ∷ xs) j k l b = (omega (arith, l, b.0), from_more xs j k l b.1)

list_left : {X : Type 0} (xs : List X) → first_list xs [] ≡ xs
list_left [] = refl
list_left (x ∷ xs) = refl

some_left : {X : Type 0} (o : Option X) → first_some o None ≡ o
some_left None = refl
some_left (Some x) = refl

module _ (m : Network) (p q t : Parts) (a b c : ℕ) (ab : a ≤ b) (bc : b ≤ c) (h : IsBuiltBetween m p a b) (k : IsBuiltBetween m q b c)
    (flags : q.landmarks.items ≡ p.landmarks.items) (near : q.nearest.items ≡ p.nearest.items) (w : IsJoined p q t) where
  landmark_p : (x : ℕ) → (tables t).landmark x ≡ (tables p).landmark x
  landmark_p x = ap (λ z. or_false (slice_get z x)) w.landmarks

  landmark_q : (x : ℕ) → (tables t).landmark x ≡ (tables q).landmark x
  landmark_q x = landmark_p x ∙ ap (λ z. or_false (slice_get z x)) (sym flags)

  nearest_p : (v : ℕ) → (tables t).nearest v ≡ (tables p).nearest v
  nearest_p v = ap (λ z. value_at z v) w.nearest

  nearest_q : (v : ℕ) → (tables t).nearest v ≡ (tables q).nearest v
  nearest_q v = nearest_p v ∙ ap (λ z. value_at z v) (sym near)

  roots_t : (x : ℕ) → roots_of (entries_at t x) ≡ roots_of (entries_at p x) ++ roots_of (entries_at q x)
  roots_t x = ap roots_of (w.entries.items x) ∙ map-append (λ (e : Entry). e.root) (entries_at p x) (entries_at q x)

  first_p : (r x : ℕ) → r < b → first_entry r (entries_at t x) ≡ first_entry r (entries_at p x)
  first_p r x l = ap (first_entry r) (w.entries.items x) ∙ first_left r (entries_at p x) (entries_at q x) (none_from b r (entries_at q x) l (k.from x))

  first_q : (r x : ℕ) → b ≤ r → first_entry r (entries_at t x) ≡ first_entry r (entries_at q x)
  first_q r x l = ap (first_entry r) (w.entries.items x) ∙ first_right r (entries_at p x) (entries_at q x) (none_under b r (entries_at p x) l (h.below x))

  directory_p : (u : ℕ) → u < b → directory_at t u ≡ directory_at p u
  directory_p u l = w.directories u ∙ ap (first_list (directory_at p u)) (k.fresh_before u l) ∙ list_left (directory_at p u)

  directory_q : (u : ℕ) → b ≤ u → directory_at t u ≡ directory_at q u
  directory_q u l = w.directories u ∙ ap (λ z. first_list z (directory_at q u)) (h.fresh u l)

  home_p : (v : ℕ) (z : Near) → (tables p).nearest v ≡ Some z → z.landmark < b → (tables t).home v ≡ (tables p).home v
  home_p v z g l = w.homes v ∙ ap (first_some ((tables p).home v)) (k.homes_before v z (sym (nearest_q v) ∙ nearest_p v ∙ g) l) ∙ some_left ((tables p).home v)

  home_q : (v : ℕ) (z : Near) → (tables p).nearest v ≡ Some z → b ≤ z.landmark → (tables t).home v ≡ (tables q).home v
  home_q v z g l = w.homes v ∙ ap (λ o. first_some o ((tables q).home v)) (h.homes_fresh v z g l)

  column_p : (r : ℕ) → a ≤ r → r < b → HasColumn m t r
  column_p r i l = column_kept m p t r (landmark_p r) nearest_p (directory_p r l) (λ x. first_p r x l) (λ v z g s. home_p v z g (omega (arith, s, l))) (h.columns r i l)

  column_q : (r : ℕ) → b ≤ r → r < c → HasColumn m t r
  column_q r i l = column_kept m q t r (landmark_q r) nearest_q (directory_q r i) (λ x. first_q r x i) (λ v z g s. home_q v z (sym (nearest_p v) ∙ nearest_q v ∙ g) (omega (arith, s, i))) (k.columns r i l)

  homes_near : (v : ℕ) (o : Option Near) → (tables t).nearest v ≡ o → IsSome ((tables t).home v) → IsSome o
  homes_near v (Some z) g s = refl
  homes_near v None g s = one ((tables p).home v) ((tables q).home v) (λ i. subst IsSome (sym (nearest_p v) ∙ g) (h.homes_near v i)) (λ i. subst IsSome (sym (nearest_q v) ∙ g) (k.homes_near v i)) (subst IsSome (w.homes v) s)
    where
      one : (o u : Option Label) → (IsSome o → false ≡ true) → (IsSome u → false ≡ true) → IsSome (first_some o u) → false ≡ true
      one None u f g i = g i
      one (Some x) u f g i = f refl

  homes_after : (v : ℕ) (z : Near) → (tables p).nearest v ≡ Some z → c ≤ z.landmark → (tables t).home v ≡ None
  homes_after v z g l = home_q v z g (omega (arith, l, bc)) ∙ k.homes_fresh v z (sym (nearest_q v) ∙ nearest_p v ∙ g) l

  homes_first : (v : ℕ) (z : Near) → (tables p).nearest v ≡ Some z → z.landmark < a → (tables t).home v ≡ None
  homes_first v z g l = home_p v z g (omega (arith, l, ab)) ∙ h.homes_before v z g l

  pub ranges_joined : IsBuiltBetween m t a c
  ranges_joined = record {
    nodes = w.nodes ∙ h.nodes;
    landmarks = ap length w.landmarks ∙ h.landmarks;
    ports = ap length w.ports ∙ h.ports;
    neighbours_are = λ x i. ap (λ z. items_at z x) w.ports ∙ h.neighbours_are x i;
    nearest = ap length w.nearest ∙ h.nearest;
    nearest_is = λ v. subst (λ o. IsNearestOf m.edges t.landmarks.items v o) (sym (nearest_p v)) (subst (λ z. IsNearestOf m.edges z v ((tables p).nearest v)) (sym w.landmarks) (h.nearest_is v));
    entries = w.entries.size ∙ h.entries;
    directories = w.directories_length ∙ h.directories;
    homes = w.homes_length ∙ h.homes;
    ascend = λ x. subst IsStrictlyIncreasing (sym (roots_t x)) (increasing_both b (roots_of (entries_at p x)) (roots_of (entries_at q x)) (h.ascend x) (k.ascend x) (h.below x) (k.from x));
    below = λ x. subst (AreBelow c) (sym (roots_t x)) (below_both c (roots_of (entries_at p x)) (roots_of (entries_at q x)) (below_more (roots_of (entries_at p x)) b c bc (h.below x)) (k.below x));
    from = λ x. subst (AreFrom a) (sym (roots_t x)) (from_both a (roots_of (entries_at p x)) (roots_of (entries_at q x)) (h.from x) (from_more (roots_of (entries_at q x)) a b ab (k.from x)));
    columns = λ r i l. elim (cases_lt r b) [ inl s ↦ column_p r i s | inr s ↦ column_q r s l ];
    homes_near = λ v s. homes_near v ((tables t).nearest v) refl s;
    fresh = λ u l. directory_q u (omega (arith, l, bc)) ∙ k.fresh u l;
    fresh_before = λ u l. directory_p u (omega (arith, l, ab)) ∙ h.fresh_before u l;
    homes_fresh = λ v z g l. homes_after v z (sym (nearest_p v) ∙ g) l;
    homes_before = λ v z g l. homes_first v z (sym (nearest_p v) ∙ g) l;
  }

-- the same for the tables of a build
pub build_joined : (m : Network) (flags : List Bool) (nearest : List (Option Near)) (generation : ℕ) (p q t : Parts) (a b c : ℕ) → a ≤ b → b ≤ c
    → IsBuildOf m flags nearest generation p a b → IsBuildOf m flags nearest generation q b c → IsJoined p q t → IsBuildOf m flags nearest generation t a c
build_joined m flags nearest generation p q t a b c ab bc h k w = record {
  built = ranges_joined m p q t a b c ab bc h.built k.built (k.landmarks ∙ sym h.landmarks) (k.nearest_list ∙ sym h.nearest_list) w;
  landmarks = w.landmarks ∙ h.landmarks;
  nearest_list = w.nearest ∙ h.nearest_list;
  given = w.generation ∙ h.given;
}
