use Rattle.std.proofs.Common.{rules, ◌≡◌, List, ℕ, IfSome, subst}
use Rattle.input_lines.specs.Reading.{IsNext}
use Rattle.input_lines.specs.declared.line.NextLine.{NextLine}
use Rattle.input_lines.specs.declared.line.NextLine.TheVariants.{End}
use Rattle.router_runs.specs.Faults.{IsOutputFault}
use Rattle.router_runs.specs.Runs.{AnswersSome, IsAnsweredNext}
use Rattle.router_runs.proofs.Talks.{all_answered, handed_up, output_or, so_far_more, some_answered}
use Rattle.router_runs.proofs.talking.answer_lines.Goals as goal

pub returns-in-Err-clause-fault : goal.returns-in-Err-clause-fault
returns-in-Err-clause-fault g c = some_answered g.F.TableSource.reads _ _ _ _ _ _ c.loop.invariant

pub returns-clause-fault : goal.returns-clause-fault
returns-clause-fault g c = some_answered g.F.TableSource.reads _ _ _ _ _ _ c.loop.invariant

pub returns-then-eq-clause-ok : goal.returns-then-eq-clause-ok
returns-then-eq-clause-ok g c =
    let line = c.next_line.new.line.items in
    let left = g.R.Read.remaining c.loop.reader in
    let end : c.in-Ok.next ≡ End = search rules in
    all_answered g.F.TableSource.reads _ _ _ left _ _ line c.loop.invariant (subst (λ (n : NextLine). IfSome left (λ bytes. IsNext bytes n line)) end c.in-Ok.ensures.next)

pub returns-in_err-print-clause-fault : goal.returns-in_err-print-clause-fault
returns-in_err-print-clause-fault g c =
    let reads = g.F.TableSource.reads in
    let known = g.R.Read.remaining c.args.reader.now in
    let before = g.O.Write.contents c.args.out.now in
    handed_up c.from_residual.result (λ fault. IsOutputFault fault (AnswersSome reads known c.args.shelf.now before (g.O.Write.contents c.print.new.out))) c.in_err-print.field-0.0 c.from_residual.ensures.1
    (output_or (λ out. AnswersSome reads known c.args.shelf.now before (g.O.Write.contents out)) c.in_err-print.field-0.0 c.loop.out c.print.new.out c.in_err-print.ensures.fault (some_answered reads known _ _ _ _ _ c.loop.invariant))

pub loop-preserved : goal.loop-preserved
loop-preserved g c =
    let reads = g.F.TableSource.reads in
    let line = c.next_line.new.line.items in
    let mid = c.loop.shelf in
    let answer = c.answer_next-answer.result in
    let new = c.answer_next-answer.new.shelf in
    let other : c.in-Ok.next ≡ End → ⊥ = search rules in
    let answered : (bytes : List ℕ) → IsNext bytes c.in-Ok.next line → IsAnsweredNext reads mid bytes answer new =
    subst (λ (l : List ℕ). (bytes : List ℕ) → IsNext bytes c.in-Ok.next l → IsAnsweredNext reads mid bytes answer new) c.deref.ensures.value c.answer_next-answer.ensures in
    so_far_more reads (g.R.Read.remaining c.args.reader.now) c.args.shelf.now (g.O.Write.contents c.args.out.now) (g.R.Read.remaining c.loop.reader) mid (g.O.Write.contents c.loop.out) c.in-Ok.next line answer new (g.R.Read.remaining c.next_line.new.reader) (g.O.Write.contents c.print.new.out)
    c.loop.invariant other c.in-Ok.ensures.next c.in-Ok.ensures.rest answered c.in_ok-print.ensures.printed
