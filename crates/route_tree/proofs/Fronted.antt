-- Two ways to say that the heavy tree is moved to the front.
use Rattle.std.proofs.Common.{◌≡◌, suc, ◌<◌, List, [], ◌∷◌, ◌++◌, length, take, drop, get_or, refl, sym, ap, ◌∙◌, arith, append_assoc}
use Rattle.std.specs.Prelude.{nat_le}
use Rattle.std.proofs.lemmas.Bool.{cond_both, eq-eqb, leb-false, leb-true, ne_eqb}
use Rattle.route_tree.specs.Rose.{Tree, tree_size}
use Rattle.route_tree.specs.Order.{ascending, heaviest, fronted, in_order}
use Rattle.route_tree.specs.Front.{heavy_to_front, heavy_at}
use Rattle.route_tree.proofs.Heaviest.{heavy_here}
use Rattle.route_tree.proofs.Orders.{front_is}

some_heaviest : (ts : List Tree) → 0 < heaviest ts → 0 < length ts
some_heaviest [] h = absurd (omega arith)
some_heaviest (t ∷ ts) h = omega arith

fronted_from : (us passed : List Tree) (d : Tree) → 0 < length us
    → fronted (heaviest us) passed us ≡ get_or us (heavy_at us) d ∷ (passed ++ (take (heavy_at us) us ++ drop (suc (heavy_at us)) us))
fronted_from [] passed d h = absurd (omega arith)
fronted_from (t ∷ ts) passed d h =
    cond_both (nat_le (heaviest ts) (tree_size t)) 0 (suc (heavy_at ts)) (λ i. fronted (heaviest (t ∷ ts)) passed (t ∷ ts) ≡ get_or (t ∷ ts) i d ∷ (passed ++ (take i (t ∷ ts) ++ drop (suc i) (t ∷ ts))))
    (λ e.
    (let l = leb-true (heaviest ts) (tree_size t) e in
    let same : heaviest (t ∷ ts) ≡ tree_size t = omega (arith, l) in
    let here : fronted (tree_size t) passed (t ∷ ts) ≡ t ∷ (passed ++ ts) = rw (eq-eqb (tree_size t) (tree_size t) refl) refl in
    ap (λ m. fronted m passed (t ∷ ts)) same ∙ here))
    (λ e.
    (let l = leb-false (heaviest ts) (tree_size t) e in
    let stays : heaviest (t ∷ ts) ≡ heaviest ts = omega (arith, l) in
    let shift : fronted (heaviest ts) passed (t ∷ ts) ≡ fronted (heaviest ts) (passed ++ t ∷ []) ts = rw (ne_eqb (tree_size t) (heaviest ts) (λ q. omega (arith, l, q))) refl in
    ap (λ m. fronted m passed (t ∷ ts)) stays ∙ shift ∙ fronted_from ts (passed ++ t ∷ []) d (some_heaviest ts (omega (arith, l)))
    ∙ ap (λ z. get_or ts (heavy_at ts) d ∷ z) (append_assoc passed (t ∷ []) (take (heavy_at ts) ts ++ drop (suc (heavy_at ts)) ts))))

pub fronted_is : (us : List Tree) → fronted (heaviest us) [] us ≡ heavy_to_front us
fronted_is [] = refl
fronted_is (t ∷ ts) = fronted_from (t ∷ ts) [] t (omega arith) ∙ sym (front_is (t ∷ ts) t (heavy_here t ts))

pub in_order_is : (ts : List Tree) → in_order ts ≡ heavy_to_front (ascending ts)
in_order_is ts = fronted_is (ascending ts)
