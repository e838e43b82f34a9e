use Rattle.std.proofs.Common.{rules, All, sym, arith, List, subst}
use Rattle.std.proofs.lemmas.Grind.{common_steps}
use Rattle.std.proofs.lemmas.List.Elements.{All-push}
use Rattle.graph_edits.specs.declared.edits.Op.{Op}
use Rattle.value_syntax.specs.OpText.{Fits, op_text}
use Rattle.value_syntax.proofs.Written.{none_missed, one_read}
use Rattle.value_syntax.proofs.reading.ops_in.Goals as goal

pub returns-in_default-clause-only : goal.returns-in_default-clause-only
returns-in_default-clause-only c ops fit same =
    none_missed Fits (λ x. x.now) op_text c.args.words.now c.loop-word.word-index c.in_ok-op.field-0 (omega arith) c.in_ok-op.ensures.only ops fit same c.in_default.not-Some

pub loop-word-preserved : goal.loop-word-preserved
loop-word-preserved c = record {
  written = grind (arith, common_steps);
  fits =
      let here : Fits c.in-Some.op = search rules in
      subst (λ (xs : List Op). All Fits xs) (sym c.in_ok-push.ensures.items) (All-push Fits c.loop-word.ops.items c.in-Some.op c.loop-word.invariant.fits here);
  same = λ ops fit same.
      one_read Fits (λ x. x.now) op_text c.args.words.now c.loop-word.word-index c.in_ok-op.field-0 (omega arith) c.in_ok-op.ensures.only ops fit same
      c.in-Some.op _ _ c.in-Some.is (c.loop-word.invariant.same ops fit same) c.in_ok-push.ensures.items;
}
