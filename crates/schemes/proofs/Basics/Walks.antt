-- Walks by their edges, one after the other, and trails by their nodes: the forms in which the laws are proved, joined to the edge map's walks.
use Rattle.std.proofs.Common.{◌≡◌, ℕ, ◌+◌, ◌≤◌, ◌<◌, cond, sym, refl, ap, subst, arith, List, [], ◌∷◌, map}
use Rattle.std.specs.Prelude.{Option, Some, None, is_some, IsSome, unwrap_or, option_map}
use Rattle.std.proofs.lemmas.Bool.{false≢true}
use Rattle.std.specs.List.{filter_map, cons_option}
use Rattle.graph_edits.specs.Edges.{Network, IsSound, weight_in, below}
use Rattle.graph_edits.specs.Walks.{IsWalk, walk_length}
use Rattle.graph_edits.specs.Laws.{weight_between-sym}
use Rattle.schemes.specs.Ports.{neighbours, filtered}
use Rattle.schemes.proofs.Basics.Options.{some_is}

pub symmetric : (m : Network) (a b : ℕ) → weight_in m a b ≡ weight_in m b a
symmetric m a b = weight_between-sym m.edges a b

pub edge_inside : (m : Network) → IsSound m → (a b w : ℕ) → weight_in m a b ≡ Some w → (a < m.nodes) × ((b < m.nodes) × (0 < w))
edge_inside m s a b w e = let k = s.within a b w e in let p = s.weighted a b w e in (k.0, (k.1, omega (arith, p.0)))

-- a walk by its edges, with its length
pub data Walk (m : Network) : ℕ → ℕ → ℕ → Type 0 where
  stay : (u : ℕ) → u < m.nodes → Walk m u u 0
  go : (u v w a x : ℕ) → weight_in m u v ≡ Some a → Walk m v w x → Walk m u w (a + x)

-- x is the least length of the walks from u to v
pub record IsShortest (m : Network) (u v x : ℕ) : Type 0 where
  pub walk : Walk m u v x
  pub least : (y : ℕ) → Walk m u v y → x ≤ y

-- the nodes of a list are a walk from u to v, of the given length
abbrev pub IsTrail : Network → ℕ → List ℕ → ℕ → ℕ → Type 0
IsTrail m u [] v x = ⊥
IsTrail m u (a ∷ []) v x = (u ≡ a) × ((v ≡ a) × (x ≡ 0))
IsTrail m u (a ∷ b ∷ rest) v x = (w : ℕ) × ((y : ℕ) × ((u ≡ a) × ((weight_in m a b ≡ Some w) × ((x ≡ w + y) × IsTrail m b (b ∷ rest) v y))))

some_of : (o : Option ℕ) → IsSome o → o ≡ Some (unwrap_or o 0)
some_of None e = absurd (false≢true e)
some_of (Some w) e = refl

length_of : {w : ℕ} {o : Option ℕ} → o ≡ Some w → unwrap_or o 0 ≡ w
length_of e = ap (λ o. unwrap_or o 0) e

-- the edge map's walks are walks by edges
pub walk_from : (m : Network) (u : ℕ) (xs : List ℕ) (v : ℕ) → u < m.nodes → IsSound m → IsWalk m.edges u xs v → Walk m u v (walk_length m.edges u xs)
walk_from m u [] v i s e = subst (λ z. Walk m u z 0) e (stay u i)
walk_from m u (x ∷ xs) v i s h =
    let e = some_of (weight_in m u x) h.0 in
    go u x v (unwrap_or (weight_in m u x) 0) (walk_length m.edges x xs) e (walk_from m x xs v (edge_inside m s u x (unwrap_or (weight_in m u x) 0) e).1.0 s h.1)

-- and a walk by edges is one
pub walk_of : (m : Network) (u v x : ℕ) → Walk m u v x → (xs : List ℕ) × (IsWalk m.edges u xs v × (walk_length m.edges u xs ≡ x))
walk_of m u v x (stay _ _) = ([], (refl, refl))
walk_of m u v x (go _ z _ a c e rest) =
    let r = walk_of m z v c rest in
    (z ∷ r.0, ((some_is e, r.1.0), (let l = length_of e in omega (arith, l, r.1.1))))

-- a trail begins with its first node, and the others are a walk from there
pub trail_walk : (m : Network) (u : ℕ) (a : ℕ) (rest : List ℕ) (v x : ℕ) → IsTrail m u (a ∷ rest) v x → (u ≡ a) × (IsWalk m.edges a rest v × (walk_length m.edges a rest ≡ x))
trail_walk m u a [] v x t = (t.0, (sym t.1.0, sym t.1.1))
trail_walk m u a (b ∷ rest) v x t =
    let g = t.1.1 in
    let r = trail_walk m b b rest v t.1.0 g.1.1.1 in
    (g.0, ((some_is g.1.0, r.1.0), (let l = length_of g.1.0 in omega (arith, l, r.1.1, g.1.1.0))))

-- the neighbours of x are the numbers below n to which an edge leads
near_among : (f : ℕ → Option ℕ) (ys : List ℕ) → map (λ (e : ℕ × ℕ). e.0) (filter_map (λ y. option_map (λ w. (y, w)) (f y)) ys) ≡ filtered (λ y. is_some (f y)) ys
near_among f [] = refl
near_among f (y ∷ ys) = at (near_among f ys) (f y)
  where
    at : map (λ (e : ℕ × ℕ). e.0) (filter_map (λ z. option_map (λ w. (z, w)) (f z)) ys) ≡ filtered (λ z. is_some (f z)) ys → (o : Option ℕ) → map (λ (e : ℕ × ℕ). e.0) (cons_option (option_map (λ w. (y, w)) o) (filter_map (λ z. option_map (λ w. (z, w)) (f z)) ys)) ≡ cond (is_some o) (y ∷ filtered (λ z. is_some (f z)) ys) (filtered (λ z. is_some (f z)) ys)
    at ih None = ih
    at ih (Some w) = ap (λ zs. y ∷ zs) ih

pub neighbours_are : (m : Network) (x : ℕ) → neighbours m x ≡ filtered (λ y. is_some (weight_in m x y)) (below m.nodes)
neighbours_are m x = near_among (λ y. weight_in m x y) (below m.nodes)
