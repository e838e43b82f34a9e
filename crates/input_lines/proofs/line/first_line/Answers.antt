use Rattle.std.proofs.Common.{◌≡◌, ◌≢◌, length, take, sym, ap, ◌∙◌, rules, arith, tests}
use Rattle.std.proofs.lemmas.Iterator.{IsFirst-from_position, YieldsList-from_slice}
use Rattle.std.specs.Option.{unwrap_or}
use Rattle.input_lines.specs.Lines.{first_line, line_feed}
use Rattle.input_lines.proofs.LineLemmas.{first_long, first_taken, first_whole}
use Rattle.input_lines.proofs.line.first_line.Goals as goal

pub returns-in-Some : goal.returns-in-Some
returns-in-Some c =
    let shown = c.args.shown.now in
    let first = IsFirst-from_position _ _ _ (λ x. x ≡ line_feed) (λ x. x ≢ line_feed) c.position.ensures.ran (YieldsList-from_slice shown cc) (λ x q k. search (rules, tests)) (λ x q k. search (rules, tests)) in
    let at : length (first_line shown) ≡ c.in-Some.at = first_long shown c.position.result first ∙ ap (λ r. unwrap_or r (length shown)) c.in-Some.is in
    ap (λ n. take n shown) (sym at) ∙ first_taken shown

pub returns-in-None : goal.returns-in-None
returns-in-None c =
    let shown = c.args.shown.now in
    let first = IsFirst-from_position _ _ _ (λ x. x ≡ line_feed) (λ x. x ≢ line_feed) c.position.ensures.ran (YieldsList-from_slice shown cc) (λ x q k. search (rules, tests)) (λ x q k. search (rules, tests)) in
    let all : length (first_line shown) ≡ length shown = first_long shown c.position.result first ∙ ap (λ r. unwrap_or r (length shown)) c.in-None.is in
    sym (first_whole shown (omega (arith, all)))
