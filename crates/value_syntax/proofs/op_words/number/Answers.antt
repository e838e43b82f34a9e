use Rattle.std.proofs.Common.{rules, arith, ◌≡◌, ◌<◌, ◌^◌, decimal, true, false, sym, ◌∙◌, ap, Ok, Some}
use Rattle.std.proofs.lemmas.Fmt.{parse-decimal}
use Rattle.value_syntax.proofs.Texts.{equal_texts}
use Rattle.value_syntax.proofs.op_words.number.Goals as goal

-- src/op_words.rt:14:9
pub returns-in_default-clause-only : goal.returns-in_default-clause-only
returns-in_default-clause-only c n few is =
    let small : n < 2 ^ 64 = omega (arith, c.ranges.most.fits) in
    let read : c.parse.result ≡ Ok n = parse-decimal 64 n c.args.text.now c.parse.result small small is c.parse.ensures.value.0 in
    cc

-- src/op_words.rt:17:9
pub returns-then-n-most-clause-only : goal.returns-then-n-most-clause-only
returns-then-n-most-clause-only c n few is =
    let small : n < 2 ^ 64 = omega (arith, c.ranges.most.fits) in
    let read : c.parse.result ≡ Ok n = parse-decimal 64 n c.args.text.now c.parse.result small small is c.parse.ensures.value.0 in
    let same : c.in-Ok.n ≡ n = cc in
    let true : c.args.most < c.in-Ok.n = c.if-n-most.true in
    absurd (omega arith)

-- src/op_words.rt:12:1
pub returns-then-eq-clause-only : goal.returns-then-eq-clause-only
returns-then-eq-clause-only c n few is =
    let small : n < 2 ^ 64 = omega (arith, c.ranges.most.fits) in
    let read : c.parse.result ≡ Ok n = parse-decimal 64 n c.args.text.now c.parse.result small small is c.parse.ensures.value.0 in
    let same : c.in-Ok.n ≡ n = cc in
    ap (λ k. Some k) same

-- src/op_words.rt:9:1
pub returns-clause-only : goal.returns-clause-only
returns-clause-only c n few is =
    let small : n < 2 ^ 64 = omega (arith, c.ranges.most.fits) in
    let read : c.parse.result ≡ Ok n = parse-decimal 64 n c.args.text.now c.parse.result small small is c.parse.ensures.value.0 in
    let same : c.in-Ok.n ≡ n = cc in
    let plain : c.as_str.result.now ≡ decimal c.in-Ok.n = search rules in
    let texts : c.as_str.result.now ≡ c.args.text.now = plain ∙ ap (λ k. decimal k) same ∙ sym is in
    let other : false ≡ true = c.if-eq.ensures ∙ equal_texts c.as_str.result.now c.args.text.now texts in
    cc
