use Rattle.std.proofs.Common.{inl, inr, refl}
use Rattle.file_commands.specs.Events.{HasDone}
use Rattle.file_commands.specs.declared.devices.Access.TheVariants.{ToRead}
use Rattle.file_commands.specs.Uses.{stream}
use Rattle.file_commands.proofs.OnDevices.{both, first_alone, not_had, not_transferred, transferred_at}
use Rattle.file_commands.proofs.running.run_transfer.Goals as goal

pub returns-in_err-from : goal.returns-in_err-from
returns-in_err-from g c =
    not_transferred g.F.Device.Disk (HasDone g.F.Devices.opened g.F.Devices.events c.args.devices.now c.open.new.self) c.args.transfer c.args.old.now c.args.new.now g.O.Write.contents c.args.out.now c.from_residual.result c.in_err-from.field-0.0 c.from_residual.ensures.1
    (inl (not_had g.F.Devices.opened g.F.Devices.events c.args.devices.now c.open.new.self c.args.old.now ToRead c.in_err-from.ensures.not_had)) c.in_err-from.ensures.fault

pub returns-in-Ok : goal.returns-in-Ok
returns-in-Ok g c =
    let from = c.in_ok-from.from in
    let to = c.in-Ok.to in
    transferred_at g.F.Device.Disk (HasDone g.F.Devices.opened g.F.Devices.events c.args.devices.now c.take_back.new.devices) c.args.transfer c.args.old.now c.args.new.now (stream g.O.Write.contents c.args.out.now c.transfer_on-ended.new.out) from to c.transfer_on-ended.result.1 c.transfer_on-ended.new.new c.transfer_on-ended.result.0
    (both g.F.Devices.opened g.F.Devices.events c.args.devices.now c.open.new.self c.open-2.new.self c.close.new.self c.take_back.new.devices c.args.old.now c.args.new.now from to c.transfer_on-ended.result.1 c.transfer_on-ended.new.new
    c.in_ok-from.ensures.opened c.in-Ok.ensures.opened c.in_ok-from.ensures.listed c.in-Ok.ensures.listed c.close.ensures c.take_back.ensures)
    c.transfer_on-ended.ensures

pub returns-in-Err : goal.returns-in-Err
returns-in-Err g c =
    let from = c.in_ok-from.from in
    not_transferred g.F.Device.Disk (HasDone g.F.Devices.opened g.F.Devices.events c.args.devices.now c.close-in-Err.new.self) c.args.transfer c.args.old.now c.args.new.now g.O.Write.contents c.args.out.now _ c.in-Err.fault (refl {a = c.in-Err.fault})
    (inr (first_alone g.F.Devices.opened g.F.Devices.events c.args.devices.now c.open.new.self c.open-2.new.self c.close-in-Err.new.self c.args.old.now c.args.new.now from c.in_ok-from.ensures.opened c.in_ok-from.ensures.listed c.in-Err.ensures.not_had c.close-in-Err.ensures)) c.in-Err.ensures.fault
