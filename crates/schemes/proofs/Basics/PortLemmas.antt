-- Ports: a node that isn't in the network has none, and what finds the port of a node is that of the definition.
use Rattle.std.proofs.Common.{◌≡◌, ◌≤◌, ◌∙◌, ℕ, zero, suc, inl, inr, sym, refl, ap, arith, List, [], ◌∷◌, map}
use Rattle.std.specs.Prelude.{◌↔◌, Option, Some, None, slice_get}
use Rattle.std.specs.List.{All}
use Rattle.std.proofs.lemmas.List.Elements.{All-head}
use Rattle.graph_edits.specs.Edges.{Network, IsSound, over_port, weight_in, neighbours_of}
use Rattle.graph_edits.specs.Laws.{All-neighbours_of}
use Rattle.schemes.specs.Ports.{neighbours, port_to, index_of}
use Rattle.schemes.proofs.Basics.Lists.{Within, index_found}
use Rattle.schemes.proofs.Basics.Options.{not_none}
use Rattle.schemes.proofs.Serving.StepsAsMoves.{index_get}
use Rattle.schemes.proofs.Serving.Moves.{get_map}

none_past : (m : Network) → IsSound m → (x : ℕ) → m.nodes ≤ x → neighbours m x ≡ []
none_past m s x le = go (neighbours_of m x) (All-neighbours_of m x)
  where
    go : (es : List (ℕ × ℕ)) → All (λ e. weight_in m x e.0 ≡ Some e.1) es → map (λ e. e.0) es ≡ []
    go [] a = refl
    go (e ∷ es) a = (let i = (s.within x e.0 e.1 (All-head (λ f. weight_in m x f.0 ≡ Some f.1) e es a)).0 in absurd (omega (arith, i, le)))

pub no_port : (m : Network) → IsSound m → (x y : ℕ) → m.nodes ≤ x → None ≡ port_to m x y
no_port m s x y le = sym (ap (index_of y) (none_past m s x le))

within_get : (xs : List ℕ) (i y : ℕ) → slice_get xs i ≡ Some y → Within y xs
within_get [] i y e = absurd (not_none e refl)
within_get (x ∷ xs) zero y e = inl (let s : x ≡ y = cc in sym s)
within_get (x ∷ xs) (suc i) y e = inr (within_get xs i y e)

pub port_is : (m : Network) (x y : ℕ) (o : Option ℕ) → ((port : ℕ) → (o ≡ Some port) ↔ (over_port m x port ≡ Some y)) → o ≡ port_to m x y
port_is m x y o h = go (port_to m x y) refl o refl
  where
    over_is : (q : ℕ) → slice_get (neighbours m x) q ≡ over_port m x q
    over_is q = get_map (λ e. e.0) (neighbours_of m x) q

    go : (p : Option ℕ) → port_to m x y ≡ p → (z : Option ℕ) → o ≡ z → o ≡ p
    go (Some q) e z g = (h q).1 (sym (over_is q) ∙ index_get y q (neighbours m x) e)
    go None e None g = g
    go None e (Some q) g = absurd (not_none (index_found y (neighbours m x) (within_get (neighbours m x) q y (over_is q ∙ (h q).0 g))).1 e)
