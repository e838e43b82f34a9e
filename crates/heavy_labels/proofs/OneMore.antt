-- One child more, behind those that were met.
use Rattle.std.proofs.Common.{◌≡◌, ℕ, suc, ◌<◌, ◌≤◌, cond, inl, inr, List, [], ◌∷◌, ◌++◌, length, sym, ap, ◌∙◌, arith}
use Rattle.std.specs.Prelude.{nat_le, max}
use Rattle.std.proofs.lemmas.Bool.{cases_lt}
use Rattle.std.proofs.lemmas.Bool.Decides.{nat_tests}
use Rattle.route_tree.specs.Rose.{Tree, tree_size}
use Rattle.route_tree.specs.Order.{heaviest}
use Rattle.route_tree.specs.Front.{heavy_at}

heaviest_more : (ts : List Tree) (t : Tree) → heaviest (ts ++ t ∷ []) ≡ max (heaviest ts) (tree_size t)
heaviest_more [] t = omega arith
heaviest_more (x ∷ ts) t = (let h = heaviest_more ts t in omega (arith, h))

chosen_first : (a b c : ℕ) → a ≤ b → cond (nat_le a b) 0 c ≡ 0
chosen_first a b c h = grind (arith, nat_tests)

chosen_later : (a b c : ℕ) → b < a → cond (nat_le a b) 0 c ≡ c
chosen_later a b c h = grind (arith, nat_tests)

pub heavy_taken : (ts : List Tree) (t : Tree) → heaviest ts < tree_size t → heavy_at (ts ++ t ∷ []) ≡ length ts
heavy_taken [] t l = chosen_first 0 (tree_size t) (suc 0) (omega arith)
heavy_taken (x ∷ ts) t l =
    let m = heaviest_more ts t in
    chosen_later (heaviest (ts ++ t ∷ [])) (tree_size x) (suc (heavy_at (ts ++ t ∷ []))) (omega (arith, m, l)) ∙ ap suc (heavy_taken ts t (omega (arith, l)))

pub heavy_kept : (ts : List Tree) (t : Tree) → tree_size t ≤ heaviest ts → heavy_at (ts ++ t ∷ []) ≡ heavy_at ts
heavy_kept [] t l = absurd (omega (arith, l))
heavy_kept (x ∷ ts) t l =
    let m = heaviest_more ts t in
    elim (cases_lt (tree_size x) (heaviest ts)) [
      | inl n ↦ chosen_later (heaviest (ts ++ t ∷ [])) (tree_size x) (suc (heavy_at (ts ++ t ∷ []))) (omega (arith, m, n, l)) ∙ ap suc (heavy_kept ts t (omega (arith, n, l)))
          ∙ sym (chosen_later (heaviest ts) (tree_size x) (suc (heavy_at ts)) n)
      | inr n ↦ chosen_first (heaviest (ts ++ t ∷ [])) (tree_size x) (suc (heavy_at (ts ++ t ∷ []))) (omega (arith, m, n, l)) ∙ sym (chosen_first (heaviest ts) (tree_size x) (suc (heavy_at ts)) n)
    ]
