use Rattle.std.proofs.Common.{rules, ◌≡◌, ◌≢◌, Option, Some, None, sym, subst, ◌∙◌}
use Rattle.std.specs.Io.KnownBytes.{Keeps}
use Rattle.command_output.specs.Lines.{line}
use Rattle.line_exchange.specs.Begun.{Begins}
use Rattle.line_exchange.specs.declared.line_fault.LineFault.{LineFault}
use Rattle.line_exchange.specs.declared.line_fault.LineFault.TheVariants.{Failed, Internal}
use Rattle.live_lines.specs.Answers.{answer_text}
use Rattle.line_exchange.proofs.SaidLines.{ends_broken, ends_whole, one_printed_by, still_printed_by}
use Rattle.line_exchange.proofs.printing.print_each.Goals as goal

pub loop-preserved : goal.loop-preserved
loop-preserved g c =
    let input = g.J.Stream.input in
    let editors = g.J.Stream.editors in
    let text = g.O.AnswerWriter.contents in
    let old = text c.args.out.now in
    let mid = text c.next-in-loop.new.out in
    let tally = c.loop.tally in
    let answered = c.filled-answered.result in
    let adds = c.in-Some-with.ensures in
    let before = still_printed_by answer_text tally input editors old (text c.loop.out) mid c.loop.invariant.1.1.1.1 c.in-Ok-Some.ensures.keeps in
    let now =
    one_printed_by answer_text tally c.in-Some-with.more answered.known input editors answered.place old mid (text c.print_one.new.out) answered.answer before adds (search rules) answered.is_answer answered.is_off
    c.in-Ok.ensures.ok in
    (tt, (tt, (adds.on.0 ∙ c.loop.invariant.1.1.0, (adds.noted.book ∙ c.loop.invariant.1.1.1.0, now))))

pub loop-preserved-in-Ok : goal.loop-preserved-in-Ok
loop-preserved-in-Ok g c =
    let input = g.J.Stream.input in
    let editors = g.J.Stream.editors in
    let text = g.O.AnswerWriter.contents in
    let old = text c.args.out.now in
    let mid = text c.next-in-loop.new.out in
    let tally = c.loop.tally in
    let answered = c.filled-answered.result in
    let adds = c.in-Some-with.ensures in
    let before = still_printed_by answer_text tally input editors old (text c.loop.out) mid c.loop.invariant.1.1.1.1 c.in-Ok-Some.ensures.keeps in
    let now =
    one_printed_by answer_text tally c.in-Some-with.more answered.known input editors answered.place old mid (text c.print_one.new.out) answered.answer before adds (search rules) answered.is_answer answered.is_off
    c.in-Ok.ensures.ok in
    (tt, (tt, (adds.on.0 ∙ c.loop.invariant.1.1.0, (adds.noted.book ∙ c.loop.invariant.1.1.1.0, now))))

whole_unbroken : ◌≡◌ {A = Option LineFault} None (Some Failed) → ⊥
whole_unbroken is = cc

internal_unbroken : Some Internal ≡ Some Failed → ⊥
internal_unbroken is = cc

other_unbroken : (why : LineFault) → why ≢ Failed → Some why ≡ Some Failed → ⊥
other_unbroken why other is = (let same : why ≡ Failed = cc in other same)

pub returns-in-Ok-None-clause-printed : goal.returns-in-Ok-None-clause-printed
returns-in-Ok-None-clause-printed g c =
    ends_whole g.O.AnswerWriter c.loop.tally None g.J.Stream.input g.J.Stream.editors c.args.out.now c.loop.out c.next-in-loop.new.out c.loop.invariant.1.1.1.1 c.in-Ok-None.ensures.keeps (λ is. absurd (whole_unbroken is))

pub returns-in_default-clause-printed : goal.returns-in_default-clause-printed
returns-in_default-clause-printed g c =
    ends_whole g.O.AnswerWriter c.loop.tally (Some Internal) g.J.Stream.input g.J.Stream.editors c.args.out.now c.loop.out c.next-in-loop.new.out c.loop.invariant.1.1.1.1 c.in-Ok-Some.ensures.keeps (λ is. absurd (internal_unbroken is))

pub returns-in-Err-print_one-clause-printed : goal.returns-in-Err-print_one-clause-printed
returns-in-Err-print_one-clause-printed g c =
    let text = g.O.AnswerWriter.contents in
    let same : c.print_one.new.out ≡ c.next-in-loop.new.out = search rules in
    ends_whole g.O.AnswerWriter c.loop.tally (Some c.in-Err-print_one.fault) g.J.Stream.input g.J.Stream.editors c.args.out.now c.loop.out c.print_one.new.out c.loop.invariant.1.1.1.1
    (subst (λ o. Keeps (text c.loop.out) (text o)) (sym same) c.in-Ok-Some.ensures.keeps) (λ is. absurd (other_unbroken c.in-Err-print_one.fault (search rules) is))

pub returns-in-Err-Failed-clause-printed : goal.returns-in-Err-Failed-clause-printed
returns-in-Err-Failed-clause-printed g c =
    let input = g.J.Stream.input in
    let editors = g.J.Stream.editors in
    let text = g.O.AnswerWriter.contents in
    let mid = c.next-in-loop.new.out in
    let tally = c.loop.tally in
    let answered = c.filled-answered.result in
    let before = still_printed_by answer_text tally input editors (text c.args.out.now) (text c.loop.out) (text mid) c.loop.invariant.1.1.1.1 c.in-Ok-Some.ensures.keeps in
    let begun : Begins (text mid) (text c.print_one.new.out) (line (answer_text answered.answer)) = search rules in
    let failed : g.O.AnswerWriter.has_failed c.print_one.new.out = search rules in
    ends_broken g.O.AnswerWriter tally c.in-Some-with.more answered.known input editors answered.place c.args.out.now mid c.print_one.new.out answered.answer before c.in-Some-with.ensures (search rules)
    answered.is_answer answered.is_off begun failed
