use Rattle.std.proofs.Common.{inl, inr, refl}
use Rattle.file_commands.specs.declared.devices.Access.TheVariants.{ToChange}
use Rattle.command_output.specs.declared.fault.Fault.TheVariants.{Memory}
use Rattle.file_commands.specs.Events.{HasDone}
use Rattle.file_commands.proofs.OnDevices.{not_had, nothing_done}
use Rattle.commands.proofs.Serving.{served}
use Rattle.commands.proofs.ToldRuns.{fresh_reader, live_early, live_so, untold_so}
use Rattle.commands.proofs.service.run_live.Goals as goal

pub returns-clause-runs : goal.returns-clause-runs
returns-clause-runs g c =
    let read = fresh_reader (λ b. g.S.Read.remaining b.now) c.in-Ok.input _ c.in-Ok.ensures.inner c.in-Ok.ensures.empty c.in-Ok.ensures.capacity in
    let service = c.args.live.service in
    let by = c.serve_live-served.ensures in
    live_so g.P.Devices.Device.Disk (HasDone g.P.Devices.Devices.opened g.P.Devices.Devices.events c.args.at.devices.now c.close_back.new.devices) service.device.now (g.S.Read.remaining c.args.streams.script.now) _ service.config.editors service.words
    _ c.args.streams.out.now c.serve_live-served.new.out (g.E.FaultWriter.contents c.args.streams.err.now) (g.E.FaultWriter.contents c.serve_live-served.new.err)
    c.in-Ok-open.disk c.serve_live-served.result.1 c.serve_live-served.result.0 c.outcome_of.result read c.outcome_of.ensures
    (served g.P.Devices.Devices.opened g.P.Devices.Devices.events c.args.at.devices.now _ c.close_back.new.devices service.device.now c.in-Ok-open.disk c.serve_live-served.result.1 c.in-Ok-open.ensures.opened c.in-Ok-open.ensures.listed c.close_back.ensures)
    by.printed by.told by.ended by.left by.one_list

pub returns-clause-untold : goal.returns-clause-untold
returns-clause-untold g c fault is = c.serve_live-served.ensures.untold fault (untold_so c.serve_live-served.result.0 c.outcome_of.result fault c.outcome_of.ensures is)

pub returns-in_default-clause-runs : goal.returns-in_default-clause-runs
returns-in_default-clause-runs g c =
    let service = c.args.live.service in
    live_early g.P.Devices.Device.Disk (HasDone g.P.Devices.Devices.opened g.P.Devices.Devices.events c.args.at.devices.now c.args.at.devices.now) service.device.now (g.S.Read.remaining c.args.streams.script.now) service.config.editors service.words (g.O.Write.contents c.args.streams.out.now) (g.E.FaultWriter.contents c.args.streams.err.now) (g.E.FaultWriter.contents c.told.new.err)
    Memory c.told.result c.told.ensures.told (inl (nothing_done g.P.Devices.Devices.opened g.P.Devices.Devices.events c.args.at.devices.now, refl))

pub returns-in-Err-clause-runs : goal.returns-in-Err-clause-runs
returns-in-Err-clause-runs g c =
    let service = c.args.live.service in
    live_early g.P.Devices.Device.Disk (HasDone g.P.Devices.Devices.opened g.P.Devices.Devices.events c.args.at.devices.now c.open.new.self) service.device.now (g.S.Read.remaining c.args.streams.script.now) service.config.editors service.words (g.O.Write.contents c.args.streams.out.now) (g.E.FaultWriter.contents c.args.streams.err.now) (g.E.FaultWriter.contents c.told-in-Err.new.err)
    c.in-Err.fault c.told-in-Err.result c.told-in-Err.ensures.told (inr (not_had g.P.Devices.Devices.opened g.P.Devices.Devices.events c.args.at.devices.now c.open.new.self service.device.now ToChange c.in-Err.ensures.not_had, c.in-Err.ensures.fault))
