-- Labels, by the climb from a node to the root over the parents of its entries. Where each label of a directory fits the one of its
-- node's parent there, all are right, from the root down.
use Rattle.certificate.proofs.Words.{◌≡◌, ◌<◌, ◌≤◌, ◌==◌, ℕ, zero, suc, Bool, true, sym, refl, ap, ◌∙◌, arith, List, [], length, Option, Some, None, IsSome, is_some, ◌↔◌, nil_from_length, lights_at, Parts, Entry, Network, port_to, Tables, tables, k1, IsShaped, distance_of, farthest, record_at, parent_of, lights_from, lights_to, not_none}
use Rattle.certificate.proofs.Words.{Distances, distances_from, far_enough, HoldsFirst, lights_up, ◌+◌, inl, inr, subst, ◌∷◌, get_or, All, Label, Listed, IsListed, HasLocalLabels, IsLocalLabel, directory_at, first_is_listed, AreLinkedBy, HasLabelsAt, IsHomeRight, IsLabelRight, IsLinked}
use Rattle.certificate.proofs.LookUps.{inside, all_listed, anywhere, value_inside}

pub distances_first : (m : Network) (p : Parts) → HoldsFirst m p → Distances m (tables p)
unfolding HoldsFirst
distances_first m p h = distances_from m h.0 p h.1

pub shaped_first : (m : Network) (p : Parts) → HoldsFirst m p → IsShaped m p
unfolding HoldsFirst
shaped_first m p h = h.1 k1 (omega arith)

-- a parent has an entry for the same root, and is nearer to it
pub step_up : (m : Network) (t : Tables) → Distances m t → (r x y : ℕ) (o : Option Entry) → t.entry x r ≡ o → parent_of o ≡ Some y → IsSome (t.entry y r) × (distance_of (t.entry y r) < distance_of o)
step_up m t d r x y None g p = absurd (not_none p refl)
step_up m t d r x y (Some e) g p =
    let k = (d.tight x y r e g p).0 in
    let w = d.sound.weighted y x k.0 k.1.1.0 in
    let f : distance_of (t.entry y r) ≡ k.1.0.distance = ap distance_of k.1.1.1.0 in
    (ap is_some k.1.1.1.0, omega (arith, f, k.1.1.1.1, w.0))

pub climb_falls : (m : Network) (t : Tables) → Distances m t → (r x y : ℕ) → Some y ≡ parent_of (t.entry x r) → distance_of (t.entry y r) < distance_of (t.entry x r)
climb_falls m t d r x y p = (step_up m t d r x y (t.entry x r) refl (sym p)).1

-- none are above a node at no distance
none_up : (m : Network) (t : Tables) → Distances m t → (r k x : ℕ) → distance_of (t.entry x r) ≤ 0 → lights_to m t r k x ≡ []
none_up m t d r zero x a = refl
none_up m t d r (suc k) x a = go (parent_of (t.entry x r)) refl
  where
    go : (o : Option ℕ) → parent_of (t.entry x r) ≡ o → lights_from (lights_to m t r k) m t r x o ≡ []
    go None q = refl
    go (Some y) q = (let l = climb_falls m t d r x y (sym q) in absurd (omega (arith, l, a)))

-- from however many parents the climb takes, it meets the same light ports
enough : (m : Network) (t : Tables) → Distances m t → (r k j x : ℕ) → distance_of (t.entry x r) ≤ k → distance_of (t.entry x r) ≤ j → lights_to m t r k x ≡ lights_to m t r j x
enough m t d r zero zero x a b = refl
enough m t d r zero (suc j) x a b = sym (none_up m t d r (suc j) x a)
enough m t d r (suc k) zero x a b = none_up m t d r (suc k) x b
enough m t d r (suc k) (suc j) x a b = go (parent_of (t.entry x r)) refl (λ y p q. enough m t d r k j y p q)
  where
    go : (o : Option ℕ) → parent_of (t.entry x r) ≡ o → ((y : ℕ) → distance_of (t.entry y r) ≤ k → distance_of (t.entry y r) ≤ j → lights_to m t r k y ≡ lights_to m t r j y)
        → lights_from (lights_to m t r k) m t r x o ≡ lights_from (lights_to m t r j) m t r x o
    go None q ih = refl
    go (Some y) q ih =
        let l = climb_falls m t d r x y (sym q) in
        ap (λ ls. lights_at ((record_at t r x).light_depth == (record_at t r y).light_depth) ls (port_to m y x)) (ih y (omega (arith, l, a)) (omega (arith, l, b)))

-- one step up, by the light depths that were read and the light ports above
pub lights_step : (m : Network) (t : Tables) → Distances m t → (r x y a b : ℕ) (ls : List ℕ) → Some y ≡ parent_of (t.entry x r) → a ≡ (record_at t r x).light_depth → b ≡ (record_at t r y).light_depth → ls ≡ lights_up m t r y
    → lights_up m t r x ≡ lights_at (a == b) ls (port_to m y x)
lights_step m t d r x y a b ls p ea eb el =
    let n = distance_of (t.entry x r) in
    let l = climb_falls m t d r x y p in
    let above = el ∙ enough m t d r (distance_of (t.entry y r)) n y (omega arith) (omega (arith, l)) in
    enough m t d r n (suc n) x (omega arith) (omega arith)
    ∙ ap (lights_from (lights_to m t r n) m t r x) (sym p)
    ∙ (λ i. lights_at (sym ea i == sym eb i) (sym above i) (port_to m y x))

-- at the root
pub lights_end : (m : Network) (t : Tables) → Distances m t → (r x : ℕ) → None ≡ parent_of (t.entry x r) → lights_up m t r x ≡ []
lights_end m t d r x p =
    let n = distance_of (t.entry x r) in
    enough m t d r n (suc n) x (omega arith) (omega arith) ∙ ap (lights_from (lights_to m t r n) m t r x) (sym p)

-- and from as many parents as the tree is deep: these are the light ports of the tree
pub lights_of_tree : (m : Network) (p : Parts) → HoldsFirst m p → (r x : ℕ) → lights_up m (tables p) r x ≡ lights_to m (tables p) r (farthest (tables p) r m.nodes) x
lights_of_tree m p h r x = enough m (tables p) (distances_first m p h) r (distance_of ((tables p).entry x r)) (farthest (tables p) r m.nodes) x (omega arith) (go ((tables p).entry x r) refl)
  where
    go : (o : Option Entry) → (tables p).entry x r ≡ o → distance_of o ≤ farthest (tables p) r m.nodes
    go None q = omega arith
    go (Some e) q = far_enough (tables p) r m.nodes x e (inside m p (shaped_first m p h).entries x r e q) q

pub empty_test : (xs : List ℕ) (b : Bool) → (b ≡ true) ↔ (length xs ≡ 0) → (b ≡ true) ↔ (xs ≡ [])
empty_test xs b h = (λ t. nil_from_length xs (h.0 t), λ e. h.1 (ap length e))

-- ---- the labels of directories and homes

pub listed_place : (es : List Listed) (i : ℕ) (d : Listed) → i < length es → IsListed (get_or es i d) es
listed_place [] i d l = absurd (omega arith)
listed_place (f ∷ es) zero d l = inl refl
listed_place (f ∷ es) (suc i) d l = inr (listed_place es i d (omega arith))

pub labels : (m : Network) (p : Parts) → IsShaped m p → ((u : ℕ) → u < m.nodes → HasLabelsAt m p u) ↔ HasLocalLabels m p
unfolding HasLabelsAt IsLabelRight IsHomeRight
labels m p s = (
  λ h. record {
    listed = λ u e. anywhere p.directories.items u (λ es. IsListed e es → IsSome ((tables p).entry e.node u) → IsLocalLabel m (tables p) u e.node e.label) (λ i. absurd i)
        (λ l i. all_listed (IsLabelRight m (tables p) u) (directory_at p u) e (h u (omega (arith, l, s.directories))).0 i);
    home = λ v q l g n. (h v (let i = value_inside p.homes.items v l g in omega (arith, i, s.homes))).1 q l g n;
  },
  λ h u l. (λ i d k s. h.listed u (get_or (directory_at p u) i d) (listed_place (directory_at p u) i d k) s, λ q l g n. h.home u q l g n),
)

linked_lights : (m : Network) (p : Parts) → HoldsFirst m p → (u : ℕ) → All (IsLinked m (tables p) u) (directory_at p u) → (k : ℕ) (e : Listed) → IsListed e (directory_at p u)
    → IsSome ((tables p).entry e.node u) → distance_of ((tables p).entry e.node u) < k → e.label.lights ≡ lights_up m (tables p) u e.node
unfolding IsLinked
linked_lights m p h u all zero e i s l = absurd (omega (arith, l))
linked_lights m p h u all (suc k) e i s l =
    elim (parent_of ((tables p).entry e.node u)) as (λ o. parent_of ((tables p).entry e.node u) ≡ o → AreLinkedBy m (tables p) u e.node e.label.lights o → e.label.lights ≡ lights_up m (tables p) u e.node) [
      | None ↦ λ q b. b ∙ sym (lights_end m (tables p) (distances_first m p h) u e.node (sym q))
      | Some y ↦ λ q b. (
          let d = distances_first m p h in
          let f = first_is_listed y (directory_at p u) b.0 b.1.0 in
          let step = step_up m (tables p) d u e.node y ((tables p).entry e.node u) refl q in
          let same = ap (λ z. distance_of ((tables p).entry z u)) f.1.1.0 in
          let above = linked_lights m p h u all k f.0 f.1.0 (subst (λ z. IsSome ((tables p).entry z u)) (sym f.1.1.0) step.0) (omega (arith, step.1, same, l)) in
          b.1.1 ∙ sym (lights_step m (tables p) d u e.node y _ _ b.0.lights (sym q) refl refl (ap (λ (z : Label). z.lights) (sym f.1.1.1) ∙ above ∙ ap (λ z. lights_up m (tables p) u z) f.1.1.0)))
    ] refl (all_listed (IsLinked m (tables p) u) (directory_at p u) e all i s).1

pub linked_to : (m : Network) (p : Parts) → HoldsFirst m p → (u : ℕ) → All (IsLinked m (tables p) u) (directory_at p u) → All (IsLabelRight m (tables p) u) (directory_at p u)
unfolding IsLinked IsLabelRight
linked_to m p h u all i d l s =
    let e = get_or (directory_at p u) i d in
    let lights = linked_lights m p h u all (distance_of ((tables p).entry e.node u) + 1) e (listed_place (directory_at p u) i d l) s (omega arith) in
    ((all i d l s).0, lights ∙ lights_of_tree m p h u e.node)
