use Rattle.std.proofs.Common.{rules, inr, refl, arith, All, List, subst, sym}
use Rattle.std.proofs.lemmas.Grind.{common_steps}
use Rattle.std.proofs.lemmas.List.Elements.{All-push}
use Rattle.graph_edits.specs.declared.edits.Op.{Op}
use Rattle.value_syntax.specs.OpText.{Fits, op_text}
use Rattle.value_syntax.proofs.Written.{none_missed, one_read}
use Rattle.command_line.proofs.arguments.Arguments.ops_in.Goals as goal

pub returns-in_default-clause-cause : goal.returns-in_default-clause-cause
returns-in_default-clause-cause c =
    inr (
      refl,
      λ ops fit same.
          none_missed Fits (λ x. x.now) op_text c.args.given.now c.loop-text.text-index c.in_ok-op.field-0 (omega arith) c.in_ok-op.ensures.only ops fit same c.in_default.not-Some,
    )

pub loop-text-preserved : goal.loop-text-preserved
loop-text-preserved c = record {
  written = grind (arith, common_steps);
  fits =
      let here : Fits c.in-Some.op = search rules in
      subst (λ (xs : List Op). All Fits xs) (sym c.in_ok-push.ensures.items) (All-push Fits c.loop-text.ops.items c.in-Some.op c.loop-text.invariant.fits here);
  same = λ ops fit same.
      one_read Fits (λ x. x.now) op_text c.args.given.now c.loop-text.text-index c.in_ok-op.field-0 (omega arith) c.in_ok-op.ensures.only ops fit same
      c.in-Some.op _ _ c.in-Some.is (c.loop-text.invariant.same ops fit same) c.in_ok-push.ensures.items;
}
