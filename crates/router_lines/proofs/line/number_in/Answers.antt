use Rattle.std.proofs.Common.{◌≡◌, ◌∙◌, Ok, ap, decimal, false, rules, subst, sym, true}
use Rattle.std.specs.Str.{IsUtf8}
use Rattle.std.proofs.lemmas.Fmt.{IsAscii-decimal, parse-decimal}
use Rattle.std.proofs.lemmas.Str.{IsUtf8-from_ascii}
use Rattle.router_lines.proofs.Numbers.{equal_texts}
use Rattle.router_lines.proofs.line.number_in.Goals as goal

pub returns-in_default : goal.returns-in_default
returns-in_default c n few is = c.in_default.ensures.cases.0 (subst IsUtf8 (sym is) (IsUtf8-from_ascii (decimal n) (IsAscii-decimal n few)))

pub returns-in_default-parse : goal.returns-in_default-parse
returns-in_default-parse c n few is =
    let text : c.in-Ok.text.now ≡ decimal n = c.in-Ok.ensures.cases.0 ∙ is in
    let read : c.parse.result ≡ Ok n = parse-decimal 64 n c.in-Ok.text.now c.parse.result few few text c.parse.ensures.value.0 in
    cc

pub returns-else-eq : goal.returns-else-eq
returns-else-eq c n few is =
    let text : c.in-Ok.text.now ≡ decimal n = c.in-Ok.ensures.cases.0 ∙ is in
    let read : c.parse.result ≡ Ok n = parse-decimal 64 n c.in-Ok.text.now c.parse.result few few text c.parse.ensures.value.0 in
    let same : c.in-Ok-parse.number ≡ n = cc in
    let texts : c.format.result.now ≡ c.in-Ok.text.now = c.format.ensures.text ∙ (ap (λ k. decimal k) same ∙ sym text) in
    let other : false ≡ true = c.if-eq.ensures ∙ equal_texts c.format.result.now c.in-Ok.text.now texts in
    cc
