use Rattle.std.proofs.Common.{◌≡◌, ◌∙◌, ap, sym, ℕ, ◌<◌, ◌+◌, List, [], ◌∷◌, ◌++◌, get_or, length, take}
use Rattle.std.specs.List.{flat_map}
use Rattle.std.specs.String.{string_bytes}
use Rattle.std.proofs.lemmas.List.{flat_map_more, take_more}
use Rattle.rehearsals.specs.Reports.{life_lines}
use Rattle.rehearsals.proofs.report.push_lives.Goals as goal

-- a text that grows by that of one item more
one_more : {X : Type 0} → (text : X → List ℕ) (old new now : List ℕ) (xs : List X) (i : ℕ) (x : X) → i < length xs → x ≡ get_or xs i x → new ≡ old ++ flat_map text (take i xs) → now ≡ new ++ text x → now ≡ old ++ flat_map text (take (i + 1) xs)
one_more text old new now xs i x within is before step =
    let more : take (i + 1) xs ≡ take i xs ++ x ∷ [] = take_more xs i x within ∙ ap (λ y. take i xs ++ y ∷ []) (sym is) in
    step ∙ ap (λ t. t ++ text x) before ∙ flat_map_more text old (take i xs) x ∙ ap (λ ys. old ++ flat_map text ys) (sym more)

pub loop-life-preserved : goal.loop-life-preserved
loop-life-preserved c = one_more (life_lines c.args.is_whole) _ (string_bytes c.loop-life.text) _ c.args.lives.now c.loop-life.life-index c.life-item.result c.loop-life-test.true c.life-item.is c.loop-life.invariant c.in_ok-push_life.ensures
