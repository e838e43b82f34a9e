use Rattle.std.proofs.Common.{◌≡◌, ◌≢◌, ℕ, subst}
use Rattle.command_output.specs.declared.fault.Fault.TheVariants.{Output}
use Rattle.live_service.specs.ServeEnds.{IsServeEnd}
use Rattle.live_service.proofs.Telling.{refused_end, start_other}
use Rattle.line_exchange.specs.Ends.{fault_of}
use Rattle.live_lines.specs.Answers.{script_text}
use Rattle.line_exchange.specs.Gathers.{BreaksOff}
use Rattle.live_service.proofs.Ended.{engine_ends, err_of, ok_of}
use Rattle.live_service.proofs.OneListed.{answered, opened_left, read_left}
use Rattle.script_service.proofs.script.serve_lines.Goals as goal

pub returns-in-Err-clause-ended : goal.returns-in-Err-clause-ended
returns-in-Err-clause-ended g c = refused_end g.D.Disk c.args.device.disk c.in-Err.disk c.args.device.words c.in-Err.fault c.in-Err.ensures.refused

pub returns-in-Err-clause-left : goal.returns-in-Err-clause-left
returns-in-Err-clause-left g c = read_left g.D.Disk c.args.device.disk c.in-Err.disk c.in-Err.ensures.refused.ran c.in-Err.ensures.refused.reads

pub returns-clause-ended : goal.returns-clause-ended
returns-clause-ended g c =
    let store = c.in-Ok.opened.0 in
    let ended = c.serve_script-served.ensures.engine_end in
    let back = c.serve_script-served.result.1 in
    err_of c.result_of.result (fault_of c.serve_script-served.result.0) (λ f. IsServeEnd g.D.Disk c.args.device.disk c.args.device.words back f) c.result_of.ensures.fault
    (engine_ends c.args.device.disk c.args.device.words store ended.0 back (fault_of c.serve_script-served.result.0) c.in-Ok.ensures.opened.ran ended.1.disk ended.1.fault)

pub returns-clause-untouched : goal.returns-clause-untouched
returns-clause-untouched g c =
    err_of c.result_of.result (fault_of c.serve_script-served.result.0) (λ f. f ≢ Output → c.serve_script-served.new.out ≡ c.args.out.now) c.result_of.ensures.fault c.serve_script-served.ensures.untouched

pub returns-in-Err-clause-broken : goal.returns-in-Err-clause-broken
returns-in-Err-clause-broken g c is = absurd (start_other c.in-Err.fault c.in-Err.ensures.refused.named is)

pub returns-clause-broken : goal.returns-clause-broken
returns-clause-broken g c =
    err_of c.result_of.result (fault_of c.serve_script-served.result.0) (λ f. f ≡ Output → BreaksOff g.O.AnswerWriter c.args.script.items c.args.out.now c.serve_script-served.new.out) c.result_of.ensures.fault c.serve_script-served.ensures.broken

pub returns-clause-left : goal.returns-clause-left
returns-clause-left g c =
    let ended = c.serve_script-served.ensures.engine_end in
    opened_left c.args.device.disk c.in-Ok.opened.0 ended.0 c.serve_script-served.result.1 c.standing_law.ensures c.in-Ok.ensures.opened ended.1.disk

pub returns-clause-one_list : goal.returns-clause-one_list
returns-clause-one_list g c =
    let store = c.in-Ok.opened.0 in
    let back = c.serve_script-served.result.1 in
    let old = g.O.AnswerWriter.contents c.args.out.now in
    let new = g.O.AnswerWriter.contents c.serve_script-served.new.out in
    ok_of c.result_of.result (c.serve_script-served.result.0) _ c.result_of.ensures.printed
    (λ is. answered script_text c.args.device.disk _ store old new back c.in-Ok.ensures.opened (c.serve_script-served.ensures.one_list is))
