use Rattle.std.proofs.Common.{inl, inr, subst}
use Rattle.std.specs.Prelude.{IfSome}
use Rattle.line_exchange.specs.declared.served.Served.{Served}
use Rattle.line_exchange.specs.Ends.{TellsEnd, fault_of}
use Rattle.live_service.specs.Runs.{writer_use}
use Rattle.live_service.specs.Services.{FailsScript, lent}
use Rattle.script_service.proofs.script.serve_on.Goals as goal

pub returns-in-Told-clause-fault : goal.returns-in-Told-clause-fault
returns-in-Told-clause-fault g c =
    let by = c.serve_told-served in
    let fails = subst (λ (s : Served). IfSome (fault_of s) (λ fault. FailsScript (lent g.D.Disk c.args.device.disk by.result.1) c.args.device.words (writer_use g.O.AnswerWriter c.args.out.now by.new.out) c.args.script.items fault)) c.in-Told.is by.ensures.fault in
    let told = subst (λ (s : Served). TellsEnd g.E.FaultWriter.contents g.E.FaultWriter.has_failed c.args.err.now by.new.err s) c.in-Told.is by.ensures.told in
    inr (c.in-Told.fault, fails, c.status.ensures.value, inl told.said)

pub returns-in-Untold-clause-fault : goal.returns-in-Untold-clause-fault
returns-in-Untold-clause-fault g c =
    let by = c.serve_told-served in
    let fails = subst (λ (s : Served). IfSome (fault_of s) (λ fault. FailsScript (lent g.D.Disk c.args.device.disk by.result.1) c.args.device.words (writer_use g.O.AnswerWriter c.args.out.now by.new.out) c.args.script.items fault)) c.in-Untold.is by.ensures.fault in
    inr (c.in-Untold.fault, fails, c.status-in-Untold.ensures.value, inr (by.ensures.told.untold c.in-Untold.fault c.in-Untold.is))
