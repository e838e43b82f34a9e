use Rattle.std.proofs.Common.{rules, All, sym, arith, List, subst}
use Rattle.std.proofs.lemmas.Grind.{common_steps}
use Rattle.std.proofs.lemmas.List.Elements.{All-push}
use Rattle.value_syntax.specs.declared.line.ScriptLine.{ScriptLine}
use Rattle.value_syntax.specs.Scripts.{MayStand, line_words, words_of}
use Rattle.value_syntax.proofs.Written.{none_missed, one_read}
use Rattle.value_syntax.proofs.reading.lines_read.Goals as goal

pub returns-in_default-clause-only : goal.returns-in_default-clause-only
returns-in_default-clause-only c script stand same =
    none_missed (MayStand c.args.editors) (λ x. words_of x.now) line_words c.args.texts.now c.loop-text.text-index c.in_ok-line.field-0 (omega arith) c.in_ok-line.ensures.only script stand (sym same) c.in_default.not-Some

pub loop-text-preserved : goal.loop-text-preserved
loop-text-preserved c = record {
  written = grind (arith, common_steps);
  stand =
      let here : MayStand c.args.editors c.in-Some.line = search rules in
      subst (λ (xs : List ScriptLine). All (MayStand c.args.editors) xs) (sym c.in_ok-push.ensures.items) (All-push (MayStand c.args.editors) c.loop-text.script.items c.in-Some.line c.loop-text.invariant.stand here);
  same = λ script stand same.
      one_read (MayStand c.args.editors) (λ x. words_of x.now) line_words c.args.texts.now c.loop-text.text-index c.in_ok-line.field-0 (omega arith) c.in_ok-line.ensures.only script stand (sym same)
      c.in-Some.line _ _ c.in-Some.is (c.loop-text.invariant.same script stand same) c.in_ok-push.ensures.items;
}
