use Rattle.certificate.proofs.Words.{arith, refl, ◌≡◌, [], sym, ◌∙◌, rules, ◌↔◌, IsTrue, tables, HasLights, lights_up, refused}
use Rattle.certificate.proofs.LabelLemmas.{distances_first, climb_falls, empty_test, lights_end, lights_of_tree, lights_step}
use Rattle.certificate.proofs.labels.are_lights.Goals as goal

pub returns-then-there-here : goal.returns-then-there-here
returns-then-there-here c h =
    let fall = climb_falls c.args.graph.now (tables c.args.scheme.now) (distances_first c.args.graph.now c.args.scheme.now h) c.args.root c.loop-here.at c.in-Some.above (sym c.in-Some.is ∙ c.loop-here.invariant.parent) in
    absurd (omega (arith, fall, c.loop-here.invariant.distance, c.rung-there.ensures.distance, c.if-there-here.true))

pub returns-in-None : goal.returns-in-None
unfolding HasLights
returns-in-None c h = refused (λ e. (
    let m = c.args.graph.now in
    let p = c.args.scheme.now in
    let step = lights_step m (tables p) (distances_first m p h) c.args.root c.loop-here.at c.in-Some.above _ _ _ (sym c.in-Some.is ∙ c.loop-here.invariant.parent) c.loop-here.invariant.depth c.rung-there.ensures.depth refl in
    c.in-None.ensures _ ((c.loop-here.invariant.climbed h).0 (e ∙ sym (lights_of_tree m p h c.args.root c.args.v)) ∙ step)))

pub loop-here-preserved : goal.loop-here-preserved
loop-here-preserved c = record {
  parent = c.rung-there.ensures.parent;
  depth = c.rung-there.ensures.depth;
  distance = c.rung-there.ensures.distance;
  climbed = λ h. (
      let m = c.args.graph.now in
      let p = c.args.scheme.now in
      let step = lights_step m (tables p) (distances_first m p h) c.args.root c.loop-here.at c.in-Some.above _ _ _ (sym c.in-Some.is ∙ c.loop-here.invariant.parent) c.loop-here.invariant.depth c.rung-there.ensures.depth refl in
      let before = c.loop-here.invariant.climbed h in
      let turn = c.in-Some-climbed.ensures (lights_up m (tables p) c.args.root c.in-Some.above) in
      (λ e. turn.0 (before.0 e ∙ step), λ e. before.1 (turn.1 e ∙ sym step)));
}

pub returns : goal.returns
unfolding HasLights
returns c first =
    let m = c.args.graph.now in
    let p = c.args.scheme.now in
    let k : IsTrue c.is_empty.result ↔ (c.loop-here.left.now ≡ []) = empty_test c.loop-here.left.now c.is_empty.result (search (rules, c.is_empty.ensures)) in
    let end = lights_end m (tables p) (distances_first m p first) c.args.root c.loop-here.at (sym c.in_default.is ∙ c.loop-here.invariant.parent) in
    let same = lights_of_tree m p first c.args.root c.args.v in
    let h = c.loop-here.invariant.climbed first in
    (λ t. h.1 (k.0 t ∙ sym end) ∙ same, λ e. k.1 (h.0 (e ∙ sym same) ∙ end))
