use Rattle.std.proofs.Common.{refl, rules}
use Rattle.line_workers.proofs.Submitting.{none_noted, noted_for, same_first, same_twice}
use Rattle.line_workers.proofs.editing.answer_each.Goals as goal

pub loop-init : goal.loop-init
loop-init g c =
    let book = g.J.Stream.book in
    let input = g.J.Stream.input in
    let editor = c.args.editor.editor in
    (tt, (tt, (same_first editor, none_noted book input g.J.Stream.editors editor _ (search rules) refl c.begin.ensures.none c.requires)))

pub loop-preserved : goal.loop-preserved
loop-preserved g c =
    let ask = c.in-Some-take.ask in
    let old = c.loop.editor.editor in
    let new = c.in-Some-answered.back.editor in
    let did = c.in-Some-answered.ensures in (
      tt,
      (
        tt,
        (
          same_twice c.args.editor.editor old new c.loop.invariant.1.1.0 did.same,
          noted_for g.J.Stream.book g.J.Stream.input g.J.Stream.editors ask.place ask.asked c.in-Some-answered.answered.answer old new c.loop.noted c.in-Some-answered.more c.loop.invariant.1.1.1 did.same.session ask.is_line did.fits did.put
              did.noted,
        ),
      ),
    )
