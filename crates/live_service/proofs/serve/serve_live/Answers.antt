use Rattle.std.proofs.Common.{refl, sym, subst, Some}
use Rattle.std.specs.Prelude.{IfSome}
use Rattle.live_service.specs.ServeEnds.{IsServeEnd}
use Rattle.live_service.proofs.Telling.{refused_end}
use Rattle.line_exchange.specs.Ends.{fault_of}
use Rattle.live_lines.specs.Answers.{answer_text}
use Rattle.line_exchange.specs.Inputs.{Bytes}
use Rattle.live_service.proofs.Ended.{engine_ends, none_to, not_printed}
use Rattle.live_service.proofs.OneListed.{answered, opened_left, read_left}
use Rattle.live_service.proofs.serve.serve_live.Goals as goal

pub returns-in-Err-clause-printed : goal.returns-in-Err-clause-printed
returns-in-Err-clause-printed g c =
    none_to g.O.AnswerWriter (Bytes (g.S.Read.remaining c.args.input.lines)) c.args.device.config.editors c.args.out.now c.args.out.now c.told.result _ refl c.told.ensures.fault

pub returns-in-Err-clause-ended : goal.returns-in-Err-clause-ended
returns-in-Err-clause-ended g c =
    subst (λ o. IfSome o (λ f. IsServeEnd g.A.Device.Disk c.args.device.disk c.args.device.words (Some c.in-Err.disk) f)) (sym c.told.ensures.fault)
    (refused_end g.A.Device.Disk c.args.device.disk c.in-Err.disk c.args.device.words c.in-Err.fault c.in-Err.ensures.refused)

pub returns-in-Err-clause-left : goal.returns-in-Err-clause-left
returns-in-Err-clause-left g c = read_left g.A.Device.Disk c.args.device.disk c.in-Err.disk c.in-Err.ensures.refused.ran c.in-Err.ensures.refused.reads

pub returns-clause-ended : goal.returns-clause-ended
returns-clause-ended g c =
    let store = c.in-Ok.opened.0 in
    let ended = c.serve_stream.ensures.ended in
    engine_ends c.args.device.disk c.args.device.words store ended.0 c.serve_stream.result.1 (fault_of c.serve_stream.result.0) c.in-Ok.ensures.opened.ran ended.1.disk ended.1.fault

pub returns-clause-left : goal.returns-clause-left
returns-clause-left g c =
    let ended = c.serve_stream.ensures.ended in
    opened_left c.args.device.disk c.in-Ok.opened.0 ended.0 c.serve_stream.result.1 c.standing_law.ensures c.in-Ok.ensures.opened ended.1.disk

pub returns-in-Err-clause-one_list : goal.returns-in-Err-clause-one_list
returns-in-Err-clause-one_list g c is = absurd (not_printed c.told.result _ c.told.ensures.fault is)

pub returns-clause-one_list : goal.returns-clause-one_list
returns-clause-one_list g c is =
    let store = c.in-Ok.opened.0 in
    let back = c.serve_stream.result.1 in
    let old = g.O.AnswerWriter.contents c.args.out.now in
    let new = g.O.AnswerWriter.contents c.serve_stream.new.out in
    answered answer_text c.args.device.disk _ store old new back c.in-Ok.ensures.opened (c.serve_stream.ensures.one_list is)
