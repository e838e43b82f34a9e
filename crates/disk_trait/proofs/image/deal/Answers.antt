use Rattle.std.proofs.Common.{arith, refl, ◌∙◌, ap, ◌≡◌, ◌+◌}
use Rattle.disk_trait.specs.Image.{word_byte}
use Rattle.disk_trait.proofs.ImageLemmas.{before_range, stays_one, one_more, all_done}
use Rattle.disk_trait.proofs.image.deal.Goals.{then-unsettled-i, else-unsettled-i}
use Rattle.disk_trait.proofs.image.deal.Goals as goal

pub loop-i-init : goal.loop-i-init
loop-i-init c = record {
  word = c.new-source.ensures.word;
  few = omega arith;
  done = rw c.new-source.ensures.dealt (before_range c.args.unsettled.now c.args.bytes.now (word_byte c.args.word) c.args.low c.requires.flags (omega arith) c.requires.outside.below);
}

pub loop-i-preserved : goal.loop-i-preserved
loop-i-preserved c =
    let flags = c.args.unsettled.now in
    let next = word_byte c.args.word in
    let i = c.loop-i.i in
    let k = c.loop-i.source.dealt in
    let after = c.if-unsettled-i.bytes in
    let so_far = c.loop-i.invariant in
    elim c.if-unsettled-i.branch [
      | then-unsettled-i w ↦
          let dealt : c.if-unsettled-i.source.dealt ≡ k + 1 = rw w.source-is w.next.ensures.dealt in
          record {
            word = rw w.source-is (w.next.ensures.word ∙ so_far.word);
            few = omega (arith, dealt, so_far.few);
            done = rw dealt (one_more flags c.loop-i.bytes _ next k i (omega arith) so_far.done (omega arith) w.if-unsettled-i.true after w.next.result (w.next.ensures.byte ∙ ap (λ word. word_byte word k) so_far.word) w.bytes-is);
          }
      | else-unsettled-i w ↦
          let dealt : c.if-unsettled-i.source.dealt ≡ k = rw w.source-is refl in
          record {
            word = rw w.source-is so_far.word;
            few = omega (arith, dealt, so_far.few);
            done = rw dealt (stays_one flags c.loop-i.bytes _ next k i (omega arith) so_far.done (omega arith) w.if-unsettled-i.false after w.bytes-is);
          }
    ]

pub returns : goal.returns
returns c = all_done c.args.unsettled.now c.loop-i.bytes _ (word_byte c.args.word) c.loop-i.source.dealt c.loop-i.i (omega arith) c.loop-i.invariant.done (omega arith) (λ j more. c.requires.outside.above j (omega arith))
