use Rattle.std.proofs.Common.{rules, ◌∙◌}
use Rattle.std.specs.String.{string_bytes}
use Rattle.line_exchange.proofs.SaidLines.{one_gathered}
use Rattle.line_exchange.proofs.gathering.gather_each.Goals as goal

pub loop-preserved : goal.loop-preserved
loop-preserved g c =
    let answered = c.filled-answered.result in
    let adds = c.in-Some-keep.ensures.adds in
    let text =
    one_gathered c.loop.tally c.keep.new.self answered.known g.J.Stream.input g.J.Stream.editors answered.place answered.answer (string_bytes c.loop.text) (string_bytes c.push_line.new.text) c.loop.invariant.1.1.1.1 adds
    (search rules) answered.is_answer answered.is_off c.in-Ok.ensures in
    (tt, (tt, (adds.on.0 ∙ c.loop.invariant.1.1.0, (adds.noted.book ∙ c.loop.invariant.1.1.1.0, text))))

pub loop-preserved-in-Ok : goal.loop-preserved-in-Ok
loop-preserved-in-Ok g c =
    let answered = c.filled-answered.result in
    let adds = c.in-Some-keep.ensures.adds in
    let text =
    one_gathered c.loop.tally c.keep.new.self answered.known g.J.Stream.input g.J.Stream.editors answered.place answered.answer (string_bytes c.loop.text) (string_bytes c.push_line.new.text) c.loop.invariant.1.1.1.1 adds
    (search rules) answered.is_answer answered.is_off c.in-Ok.ensures in
    (tt, (tt, (adds.on.0 ∙ c.loop.invariant.1.1.0, (adds.noted.book ∙ c.loop.invariant.1.1.1.0, text))))
