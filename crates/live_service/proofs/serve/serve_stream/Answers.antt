use Rattle.std.proofs.Common.{rules, ◌≡◌, ⊎_elim, ◌∙◌, ap, sym, subst}
use Rattle.line_exchange.specs.Ends.{TellsEnd}
use Rattle.live_lines.specs.Answers.{answer_text}
use Rattle.line_exchange.specs.Prints.{PrintsSo}
use Rattle.live_service.specs.Runs.{PrintsTo}
use Rattle.live_service.specs.ServedList.{HasPrintedOn, builds_of}
use Rattle.live_service.proofs.Ended.{prints_on, ran_of, run_prints}
use Rattle.live_service.proofs.serve.serve_stream.Goals as goal

pub serve_opened-terminal-requires-clause-builds : goal.serve_opened-terminal-requires-clause-builds
serve_opened-terminal-requires-clause-builds g c κs within = c.requires.builds ∙ sym (ap builds_of c.requires.input)

pub returns-clause-printed : goal.returns-clause-printed
returns-clause-printed g c =
    let outlet = g.O.AnswerWriter in
    let now = c.serve_opened-terminal.result.0.out.now in
    let ended = c.serve_opened-terminal.result.1 in
    let printed : PrintsTo outlet g.J.Stream.input g.J.Stream.editors c.args.out.now now ended =
    run_prints c.serve_opened-terminal.ensures outlet (λ t. t.out.now)
    (λ mid printed given printing finishing. subst (λ o. PrintsSo outlet g.J.Stream.input g.J.Stream.editors c.args.out.now o printed) (sym finishing.2) printing.3) (λ given finishing. finishing.2) in
    let same : c.out-1.given.0 ≡ now = search rules in
    subst (λ o. PrintsTo outlet g.J.Stream.input g.J.Stream.editors c.args.out.now o ended) (sym same) printed

pub returns-clause-told : goal.returns-clause-told
returns-clause-told g c =
    let text = g.E.FaultWriter.contents in
    let has_failed = g.E.FaultWriter.has_failed in
    let ended = c.serve_opened-terminal.result.1 in
    let now = c.serve_opened-terminal.result.0.err.now in
    let told : TellsEnd text has_failed c.args.err.now now ended =
    ⊎_elim (λ ran. subst (λ e. TellsEnd text has_failed e now ended) ran.printing.2 ran.finishing.3) (λ none. none.finishing.3) c.serve_opened-terminal.ensures.console in
    search rules

pub returns-clause-one_list : goal.returns-clause-one_list
returns-clause-one_list g c is =
    let ran = ran_of c.serve_opened-terminal.ensures is in
    let store = c.args.opened.store in
    let outlet = g.O.AnswerWriter in
    let old = outlet.contents c.args.out.now in
    let back = c.serve_opened-terminal.result.2 in
    let all : HasPrintedOn answer_text g.J.Stream store old (outlet.contents c.serve_opened-terminal.result.0.out.now) back =
    subst (λ o. HasPrintedOn answer_text g.J.Stream store old (outlet.contents o) back) (sym ran.finishing.2)
    (prints_on outlet g.J.Stream store c.args.out.now ran.mid.out.now ran.printed ran.given c.serve_opened-terminal.result.1 back ran.printing.3 ran.print_end ran.one_list is) in
    search rules
