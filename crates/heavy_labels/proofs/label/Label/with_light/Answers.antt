use Rattle.std.proofs.Common.{◌≡◌, ◌∙◌, ◌<◌, ◌++◌, ◌∷◌, [], ℕ, List, length, take, ap, arith, length-take-le}
use Rattle.std.proofs.lemmas.List.{take_more_set}
use Rattle.heavy_labels.specs.Label.{Label}
use Rattle.heavy_labels.proofs.label.Label.with_light.Goals as goal

pub returns : goal.returns
returns c =
    let ports = c.self.inside.ports in
    let count = c.self.inside.count in
    let lights : take count ports ≡ c.args.self.now.lights = ap (λ (l : Label). l.lights) c.self.view_is in
    let many = length-take-le count ports c.self.invariant.many in
    let same = ap (λ (z : List ℕ). length z) lights in
    let there : count < length ports = omega (arith, many, same, c.requires, c.self.told) in
    ap (λ (ls : List ℕ). record { first = c.args.first; lights = ls }) (take_more_set ports count c.args.port there ∙ ap (λ (z : List ℕ). z ++ c.args.port ∷ []) lights)
