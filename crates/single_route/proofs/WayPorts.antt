-- The ports along a way.
use Rattle.std.proofs.Common.{◌≡◌, ℕ, ◌+◌, ◌-◌, ◌*◌, ◌^◌, ◌≤◌, min, List, [], ◌∷◌, ◌++◌, length, refl, sym, ap, ◌∙◌, subst, arith}
use Rattle.std.specs.Prelude.{Some, slice_get}
use Rattle.std.specs.Option.{option_map, unwrap_or}
use Rattle.std.proofs.lemmas.Option.{slice_get-get_or, same_Some}
use Rattle.std.proofs.lemmas.List.{append-nil}
use Rattle.graph_edits.specs.Edges.{Network, IsSound, weight_in, neighbours_of, over_port, greatest_weight}
use Rattle.graph_edits.specs.Laws.{Contains-neighbours_of}
use Rattle.graph_edits.specs.Walks.{walk_length, IsWalk}
use Rattle.distances.proofs.Arrived.{port_both}
use Rattle.schemes.specs.Service.{LeadAlong}
use Rattle.schemes.proofs.Basics.Options.{is_there}
use Rattle.single_route.specs.Ways.{AreHops}

-- a neighbour stands behind some port
pub has_port : (g : Network) → IsSound g → (x y w : ℕ) → weight_in g x y ≡ Some w → (q : ℕ) × (over_port g x q ≡ Some y)
has_port g sound x y w is =
    let c = Contains-neighbours_of g x y w (sound.within x y w is).1 is in
    let there : slice_get (neighbours_of g x) c.0 ≡ Some (y, w) = slice_get-get_or (neighbours_of g x) c.0 (y, w) c.1 ∙ ap (λ (e : ℕ × ℕ). Some e) c.2 in
    (c.0, ap (option_map (λ (e : ℕ × ℕ). e.0)) there)

-- the ports along a way are determined by its nodes
pub one_lead : (g : Network) (x : ℕ) (ys ps qs : List ℕ) → LeadAlong g x ys ps → LeadAlong g x ys qs → ps ≡ qs
one_lead g x [] [] [] a b = refl
one_lead g x [] [] (q ∷ qs) a b = absurd b
one_lead g x [] (p ∷ ps) qs a b = absurd a
one_lead g x (y ∷ ys) [] qs a b = absurd a
one_lead g x (y ∷ ys) (p ∷ ps) [] a b = absurd b
one_lead g x (y ∷ ys) (p ∷ ps) (q ∷ qs) a b =
    let same : p ≡ q = same_Some p q ((port_both g x y p a.0 q).1 b.0) in
    λ i. same i ∷ one_lead g y ys ps qs a.1 b.1 i

-- a walk is a way
pub hops_of : (g : Network) (x : ℕ) (ys : List ℕ) (v : ℕ) → IsWalk g.edges x ys v → AreHops g x ys
hops_of g x [] v h = tt
hops_of g x (y ∷ ys) v h = (h.0, hops_of g y ys v h.1)

-- a walk is no longer than as many of the greatest weight
pub short_hops : (g : Network) → IsSound g → (x : ℕ) (ys : List ℕ) → AreHops g x ys → walk_length g.edges x ys ≤ length ys * greatest_weight
short_hops g sound x [] h = omega arith
short_hops g sound x (y ∷ ys) h =
    let ih = short_hops g sound y ys h.1 in
    let c = is_there (weight_in g x y) h.0 in
    let w = ap (λ o. unwrap_or o 0) c.1 in
    let most = (sound.weighted x y c.0 c.1).1 in
    omega (arith, ih, w, most)

-- a way from `first` over the nodes of a list, measured up to the node `at`, behind which those of `left` are still to come
pub record IsMeasuring (g : Network) (first : ℕ) (rest left ports : List ℕ) (length at : ℕ) : Type 0 where
  pub hops : AreHops g at left
  pub leads : (qs : List ℕ) → LeadAlong g at left qs → LeadAlong g first rest (ports ++ qs)
  pub sum : min (length + walk_length g.edges at left) (2 ^ 64 - 1) ≡ min (walk_length g.edges first rest) (2 ^ 64 - 1)
  pub fits : length ≤ 2 ^ 64 - 1

pub measuring_end : (g : Network) (first : ℕ) (rest left ports : List ℕ) (len at : ℕ) → left ≡ [] → IsMeasuring g first rest left ports len at → LeadAlong g first rest ports × (len ≡ min (walk_length g.edges first rest) (2 ^ 64 - 1))
measuring_end g first rest left ports len at none h =
    let zero : walk_length g.edges at left ≡ 0 = ap (walk_length g.edges at) none in
    let sum = h.sum in
    let fits = h.fits in (
      subst (LeadAlong g first rest) (append-nil ports) (h.leads [] (subst (λ z. LeadAlong g at z []) (sym none) tt)),
      capped len (walk_length g.edges at left) (walk_length g.edges first rest) (2 ^ 64 - 1) zero sum fits,
    )
  where
    capped : (len tail total cap : ℕ) → tail ≡ 0 → min (len + tail) cap ≡ min total cap → len ≤ cap → len ≡ min total cap
    capped len tail total cap a b c = omega (arith, a, b, c)
