use Rattle.std.proofs.Common.{sym, subst}
use Rattle.command_line.specs.declared.task.Task.{Task}
use Rattle.file_commands.specs.Events.{HasDone}
use Rattle.file_commands.specs.Runs.{EndsTask}
use Rattle.table_files.specs.Files.{PutBy}
use Rattle.file_commands.specs.Uses.{device_use, stream}
use Rattle.file_commands.proofs.OnDevices.{at_rest}
use Rattle.file_commands.proofs.running.run_task.Goals as goal

pub returns-in-Migrate-clause-ends : goal.returns-in-Migrate-clause-ends
returns-in-Migrate-clause-ends g c =
    let done = HasDone g.F.Devices.opened g.F.Devices.events c.args.devices.now c.run_transfer.new.devices in
    let put = PutBy g.T.TableFiles.puts c.args.tables.now c.args.tables.now in
    subst (λ (t : Task). EndsTask (device_use g.F.Device.Disk done) put t (stream g.O.Write.contents c.args.out.now c.run_transfer.new.out) c.run_transfer.result) (sym c.in-Migrate.is) c.run_transfer.ensures

pub returns-in-Copy-clause-ends : goal.returns-in-Copy-clause-ends
returns-in-Copy-clause-ends g c =
    let done = HasDone g.F.Devices.opened g.F.Devices.events c.args.devices.now c.run_transfer-in-Copy.new.devices in
    let put = PutBy g.T.TableFiles.puts c.args.tables.now c.args.tables.now in
    subst (λ (t : Task). EndsTask (device_use g.F.Device.Disk done) put t (stream g.O.Write.contents c.args.out.now c.run_transfer-in-Copy.new.out) c.run_transfer-in-Copy.result) (sym c.in-Copy.is) c.run_transfer-in-Copy.ensures

pub returns-in_default-clause-ends : goal.returns-in_default-clause-ends
returns-in_default-clause-ends g c =
    let done = HasDone g.F.Devices.opened g.F.Devices.events c.args.devices.now c.run_opened.new.devices in
    let put = PutBy g.T.TableFiles.puts c.args.tables.now c.run_opened.new.tables in
    at_rest (device_use g.F.Device.Disk done) put c.args.task (stream g.O.Write.contents c.args.out.now c.run_opened.new.out) c.run_opened.result c.in_default.not-Migrate c.in_default.not-Copy c.requires.batch
    c.run_opened.ensures.ends
