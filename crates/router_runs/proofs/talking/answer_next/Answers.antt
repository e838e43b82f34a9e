use Rattle.std.proofs.Common.{List, ℕ, subst}
use Rattle.input_lines.specs.Reading.{IsNext}
use Rattle.input_lines.specs.declared.line.NextLine.{NextLine}
use Rattle.router_runs.proofs.Talks.{answered_line}
use Rattle.router_runs.proofs.talking.answer_next.Goals as goal

pub returns-in-Line : goal.returns-in-Line
returns-in-Line g c bytes is =
    answered_line g.F.TableSource.reads bytes c.args.line.now c.args.shelf.now c.answer_line.result c.answer_line.new.shelf
    (subst (λ (next : NextLine). IsNext bytes next c.args.line.now) c.in-Line.is is) c.answer_line.ensures
