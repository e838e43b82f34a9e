use Rattle.std.proofs.Common.{◌≡◌, ◌+◌, ◌++◌, ◌∷◌, [], ◌∙◌, ap, arith, sym, true, ℕ}
use Rattle.put_lines.specs.Rules.{word_of}
use Rattle.put_lines.proofs.Appending.{words_more}
use Rattle.put_lines.proofs.book.words.Goals as goal

pub loop-made-preserved : goal.loop-made-preserved
loop-made-preserved c =
    let was = c.loop-made.invariant in
    let pen = c.take.ensures.pen in
    let rest = c.take.ensures.rest in
    let less = c.loop-made-test.true in
    let key : c.take.result.nib.key ≡ c.loop-made.made = ap (λ n. n.key) pen.1 ∙ was.1.0 in
    let book : c.take.result.book ≡ c.args.pens.book = pen.0 ∙ was.1.1.1.0 in
    let word : c.tracked.result ≡ word_of c.args.pens.book c.loop-made.made = c.tracked.ensures.0 ∙ (λ i. record { tracked = true; key = key i; book = book i }) in (
      omega (arith, less),
      (
        rest.1 ∙ ap (λ (n : ℕ). n + 1) was.1.0,
        (
          (let left = rest.2 in let all = was.1.1.0 in omega (arith, left, all, less)),
          (rest.0 ∙ was.1.1.1.0, c.in_ok-push.ensures.items ∙ ((λ i. was.1.1.1.1 i ++ word i ∷ []) ∙ sym (words_more c.args.pens.book c.loop-made.made))),
        ),
      ),
    )
