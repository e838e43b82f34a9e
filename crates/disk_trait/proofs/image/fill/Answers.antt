use Rattle.std.proofs.Common.{arith, ◌∙◌, ap, refl, ◌++◌, ◌+◌, take, drop, List, ℕ}
use Rattle.disk_trait.proofs.ImageLemmas.{before_range, one_value, stays_one, one_more, all_done}
use Rattle.disk_trait.proofs.image.fill.Goals.{then-covered, else-covered}
use Rattle.disk_trait.proofs.image.fill.Goals as goal

pub loop-place-init : goal.loop-place-init
loop-place-init c = before_range c.args.unsettled.now c.args.bytes.now (λ _. c.args.value) c.args.low c.requires.flags (omega arith) c.requires.outside.below

pub loop-place-preserved : goal.loop-place-preserved
loop-place-preserved c =
    let flags = c.args.unsettled.now in
    let value = c.args.value in
    let i = c.loop-place.place in
    let after = c.if-covered.bytes in
    elim c.if-covered.branch [
      | then-covered w ↦
          ap (λ (l : List ℕ). take (i + 1) after ++ l) (one_value (drop (i + 1) flags) (drop (i + 1) after) value 0 1)
          ∙ one_more flags c.loop-place.bytes _ (λ _. value) 0 i (omega arith) c.loop-place.invariant (omega arith) w.if-covered.true after value refl w.bytes-is
      | else-covered w ↦
          stays_one flags c.loop-place.bytes _ (λ _. value) 0 i (omega arith) c.loop-place.invariant (omega arith) w.if-covered.false after w.bytes-is
    ]

pub returns : goal.returns
returns c = all_done c.args.unsettled.now c.loop-place.bytes _ (λ _. c.args.value) 0 c.loop-place.place (omega arith) c.loop-place.invariant (omega arith) (λ j more. c.requires.outside.above j (omega arith))
