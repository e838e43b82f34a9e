use Rattle.std.proofs.Common.{rules, ◌≡◌, All, Bor, IfSome, List, ℕ, arith, get_or, refl, subst}
use Rattle.std.proofs.lemmas.List.{take_all}
use Rattle.std.proofs.lemmas.List.Elements.{All-map, All-more}
use Rattle.value_syntax.specs.OpText.{Fits, op_text}
use Rattle.live_lines.specs.Lines.{IsOp}
use Rattle.live_lines.proofs.Asking.{nowhere, no_op, part_at}
use Rattle.live_lines.proofs.asked.are_ops.Goals as goal

pub returns-in_default : goal.returns-in_default
returns-in_default c = (
  λ f. absurd cc,
  λ all.
      absurd
      (no_op (get_or c.args.words.now c.loop-word.word-index nowhere).now c.in_ok-_op.field-0 c.in_ok-_op.ensures.only c.in_default.not-Some
      (part_at c.args.words.now c.loop-word.word-index nowhere (omega arith) all)),
)

pub loop-word-preserved : goal.loop-word-preserved
loop-word-preserved c =
    let fits : Fits c.in-Some._op = search rules in
    let is : (get_or c.args.words.now c.loop-word.word-index nowhere).now ≡ op_text c.in-Some._op =
    subst (λ (o : _). IfSome o (λ op. (get_or c.args.words.now c.loop-word.word-index nowhere).now ≡ op_text op)) c.in-Some.is c.in_ok-_op.ensures.found in
    All-more (λ (x : Bor (List ℕ)). IsOp x.now) c.args.words.now c.loop-word.word-index nowhere (omega arith) c.loop-word.invariant (c.in-Some._op, fits, is)

pub returns : goal.returns
returns c = (
  λ t.
      All-map IsOp (λ (x : Bor (List ℕ)). x.now) c.args.words.now
      (subst (λ (xs : List (Bor (List ℕ))). All (λ (x : Bor (List ℕ)). IsOp x.now) xs) (take_all c.loop-word.word-index c.args.words.now (omega arith)) c.loop-word.invariant),
  λ all. refl,
)
