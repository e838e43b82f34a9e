use Rattle.std.proofs.Common.{◌≡◌, ◌∙◌, sym, ap, map, List, ℕ, Bor, subst, All}
use Rattle.std.specs.Prelude.{IfOk, IfSome}
use Rattle.value_syntax.specs.Scripts.{MayStand, line_words, lines_of, words_of}
use Rattle.value_syntax.proofs.Written.{words_of_each}
use Rattle.value_syntax.proofs.reading.script.Goals as goal

pub returns-clause-found : goal.returns-clause-found
returns-clause-found c =
    let read : map (λ (x : Bor (List ℕ)). words_of x.now) c.deref.result.now ≡ map words_of (lines_of c.args.text.now) =
    ap (λ (xs : List (Bor (List ℕ))). map (λ x. words_of x.now) xs) c.deref.ensures.value ∙ sym (words_of_each c.in_ok-lines.lines.items) ∙ ap (λ (ls : List (List ℕ)). map words_of ls) c.in_ok-lines.ensures in
    subst (λ ws. IfOk c.lines_read.result (λ o. IfSome o (λ script. (ws ≡ map line_words script.items) × All (MayStand c.args.editors) script.items))) read c.lines_read.ensures.found

pub returns-clause-only : goal.returns-clause-only
returns-clause-only c script stand written =
    let read : map (λ (x : Bor (List ℕ)). words_of x.now) c.deref.result.now ≡ map words_of (lines_of c.args.text.now) =
    ap (λ (xs : List (Bor (List ℕ))). map (λ x. words_of x.now) xs) c.deref.ensures.value ∙ sym (words_of_each c.in_ok-lines.lines.items) ∙ ap (λ (ls : List (List ℕ)). map words_of ls) c.in_ok-lines.ensures in
    c.lines_read.ensures.only script stand (read ∙ written)
