use Rattle.std.proofs.Common.{subst, sym}
use Rattle.file_commands.specs.declared.on_device.Transfer.TheVariants as how
use Rattle.file_commands.specs.Endings.{IsTransferEnd}
use Rattle.file_commands.specs.Runs.{EndsTransferOn}
use Rattle.file_commands.specs.Uses.{stream, views}
use Rattle.file_commands.proofs.OnDevices.{copied_printed, copy_end, told_of}
use Rattle.file_commands.proofs.on_device.transfer_on.Goals as goal

pub returns-in-Copy : goal.returns-in-Copy
returns-in-Copy g c =
    let by = c.copy_device.ensures in
    let answer = c.copy_device.result.0 in
    let from = g.D.Disk.view c.args.old in
    let from_left = g.D.Disk.view c.copy_device.result.1 in
    let to = g.N.Disk.view c.args.new.now in
    let to_left = g.N.Disk.view c.copy_device.new.new in
    let out = stream g.O.Write.contents c.args.out.now c.printed.new.out in
    let r = c.printed.result.0 in
    let ends = c.printed.ensures.ends in
    subst (λ transfer. EndsTransferOn transfer (views from (g.D.Disk.view c.printed.result.1)) (views to to_left) out r) (sym c.in-Copy.is)
    (subst (λ d. EndsTransferOn how.Copy (views from (g.D.Disk.view d)) (views to to_left) out r) (sym c.printed.ensures.back)
    (record {
      ran = (by.ran_old, by.ran_new);
      leaves = (by.only_read, by.any_moment);
      ends = record {
        printed = copied_printed r answer from to to_left (g.O.Write.contents c.args.out.now) (g.O.Write.contents c.printed.new.out) by.of_one by.copied ends.printed;
        fault = told_of r answer (λ fault. IsTransferEnd how.Copy from from_left to to_left fault) ends.fault (copy_end answer from from_left to to_left by.faults by.tells by.device_length.0 by.device);
        untouched = ends.untouched;
      };
    }))
