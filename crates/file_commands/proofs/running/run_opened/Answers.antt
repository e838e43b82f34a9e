use Rattle.file_commands.specs.Events.{HasDone}
use Rattle.table_files.specs.Files.{PutBy}
use Rattle.file_commands.specs.Uses.{stream}
use Rattle.table_files.proofs.PutFiles.{none_put}
use Rattle.file_commands.proofs.OnDevices.{closed, ends_at, ends_early, not_had}
use Rattle.file_commands.proofs.running.run_opened.Goals as goal

pub returns-in_err-disk-clause-ends : goal.returns-in_err-disk-clause-ends
returns-in_err-disk-clause-ends g c =
    ends_early g.F.Device.Disk (HasDone g.F.Devices.opened g.F.Devices.events c.args.devices.now c.open.new.self) (PutBy g.T.TableFiles.puts c.args.tables.now c.args.tables.now) c.args.task c.path_of-path.result.now c.access_for-access.result g.O.Write.contents c.args.out.now
    c.from_residual.result c.in_err-disk.field-0.0 c.path_of-path.ensures c.access_for-access.ensures c.from_residual.ensures.1
    (not_had g.F.Devices.opened g.F.Devices.events c.args.devices.now c.open.new.self c.path_of-path.result.now c.access_for-access.result c.in_err-disk.ensures.not_had) (none_put (g.T.TableFiles.puts c.args.tables.now)) c.in_err-disk.ensures.fault

pub returns-clause-ends : goal.returns-clause-ends
returns-clause-ends g c =
    let disk = c.in_ok-disk.disk in
    let left = c.perform-ended.result.1 in
    ends_at g.F.Device.Disk (HasDone g.F.Devices.opened g.F.Devices.events c.args.devices.now c.take_back.new.devices) (PutBy g.T.TableFiles.puts c.args.tables.now c.perform-ended.new.tables) c.args.task c.path_of-path.result.now c.access_for-access.result (stream g.O.Write.contents c.args.out.now c.perform-ended.new.out)
    disk left c.perform-ended.result.0 c.path_of-path.ensures c.access_for-access.ensures
    (closed g.F.Devices.opened g.F.Devices.events c.args.devices.now c.open.new.self c.take_back.new.devices c.path_of-path.result.now c.access_for-access.result disk left c.in_ok-disk.ensures.opened c.in_ok-disk.ensures.listed c.take_back.ensures)
    c.perform-ended.ensures.ends
