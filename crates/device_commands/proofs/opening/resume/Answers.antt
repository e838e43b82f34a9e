use Rattle.std.proofs.Common.{Ok}
use Rattle.device_commands.specs.Openings.{IsLastTicket}
use Rattle.device_commands.proofs.OneRequest.{asked_answer}
use Rattle.device_commands.proofs.OpenFaults.{not_asked}
use Rattle.device_commands.proofs.opening.resume.Goals as goal

pub returns-in-Ok : goal.returns-in-Ok
returns-in-Ok g c =
    asked_answer (IsLastTicket c.args.session) c.args.disk c.into_disk.result c.in-Ok.store (Ok c.resume.result) c.into_disk.ensures c.in-Ok.ensures.opened c.standing_law.ensures c.resume.ensures tt

pub returns-in-Err : goal.returns-in-Err
returns-in-Err g c = not_asked (IsLastTicket c.args.session) _ _ c.in-Err.fault c.in-Err.ensures.refused
