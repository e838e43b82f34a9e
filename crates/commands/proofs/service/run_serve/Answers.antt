use Rattle.std.proofs.Common.{◌≡◌, ◌≢◌, inl, inr, refl}
use Rattle.std.specs.Io.KnownBytes.{Appends}
use Rattle.std.proofs.lemmas.Result.{IfErr-at_err, IfOk-at_ok}
use Rattle.line_exchange.specs.Gathers.{IsServed}
use Rattle.live_service.specs.ServeEnds.{IsServeEnd}
use Rattle.live_service.specs.Services.{AnswersScript, lent}
use Rattle.command_output.specs.declared.fault.Fault.TheVariants.{Output}
use Rattle.file_commands.specs.declared.devices.Access.TheVariants.{ToChange}
use Rattle.file_commands.specs.Events.{HasDone}
use Rattle.file_commands.proofs.OnDevices.{not_had, nothing_done}
use Rattle.file_commands.specs.Uses.{stream}
use Rattle.commands.proofs.Serving.{served}
use Rattle.commands.proofs.ToldRuns.{script_ends}
use Rattle.commands.proofs.service.run_serve.Goals as goal

pub returns-in_err-lines : goal.returns-in_err-lines
returns-in_err-lines g c =
    let service = c.args.service in
    script_ends g.F.Device.Disk (HasDone g.F.Devices.opened g.F.Devices.events c.args.devices.now c.args.devices.now) service (g.S.Read.remaining c.args.script.now) (stream g.O.Write.contents c.args.out.now c.args.out.now)
    c.from_residual.result c.in_err-lines.field-0.0 c.from_residual.ensures.1 (inl (nothing_done g.F.Devices.opened g.F.Devices.events c.args.devices.now, c.in_err-lines.ensures.fault)) (λ other. refl {a = c.args.out.now})

pub returns-in_err-disk : goal.returns-in_err-disk
returns-in_err-disk g c =
    let service = c.args.service in
    script_ends g.F.Device.Disk (HasDone g.F.Devices.opened g.F.Devices.events c.args.devices.now c.open.new.self) service (g.S.Read.remaining c.args.script.now) (stream g.O.Write.contents c.args.out.now c.args.out.now)
    c.from_residual-in_err-disk.result c.in_err-disk.field-0.0 c.from_residual-in_err-disk.ensures.1
    (inr (inl (not_had g.F.Devices.opened g.F.Devices.events c.args.devices.now _ service.device.now ToChange c.in_err-disk.ensures.not_had, c.in_err-disk.ensures.fault))) (λ other. refl {a = c.args.out.now})

pub returns-in_err-answer : goal.returns-in_err-answer
returns-in_err-answer g c =
    let service = c.args.service in
    let by = c.serve_lines-answer.ensures in
    let disk = c.in_ok-disk.disk in
    let back = c.serve_lines-answer.result.1 in
    let lines = c.in_ok-lines.lines.items in
    let broken = IfErr-at_err _ c.in_err-answer.was by.broken in
    script_ends g.F.Device.Disk (HasDone g.F.Devices.opened g.F.Devices.events c.args.devices.now c.close_back.new.devices) service (g.S.Read.remaining c.args.script.now) (stream g.O.Write.contents c.args.out.now c.serve_lines-answer.new.out)
    c.from_residual-in_err-answer.result c.in_err-answer.field-0.0 c.from_residual-in_err-answer.ensures.1
    (inr (inr (
      λ same. (lines, c.in_ok-lines.ensures.found, (broken same).1),
      record {
        disk = disk;
        back = back;
        did = served g.F.Devices.opened g.F.Devices.events c.args.devices.now _ c.close_back.new.devices service.device.now disk back c.in_ok-disk.ensures.opened c.in_ok-disk.ensures.listed c.close_back.ensures;
        holds = (IfErr-at_err (λ fault. IsServeEnd g.F.Device.Disk disk service.words back fault) c.in_err-answer.was by.ended, by.left);
      },
    )))
    (IfErr-at_err (λ fault. fault ≢ Output → c.serve_lines-answer.new.out ≡ c.args.out.now) c.in_err-answer.was by.untouched)

pub returns : goal.returns
returns g c =
    let service = c.args.service in
    let by = c.serve_lines-answer.ensures in
    let disk = c.in_ok-disk.disk in
    let back = c.serve_lines-answer.result.1 in
    let lines = c.in_ok-lines.lines.items in
    record {
      printed = (
        refl,
        lines,
        c.in_ok-lines.ensures.found,
        record {
          disk = disk;
          back = back;
          did = served g.F.Devices.opened g.F.Devices.events c.args.devices.now _ c.close_back.new.devices service.device.now disk back c.in_ok-disk.ensures.opened c.in_ok-disk.ensures.listed c.close_back.ensures;
          holds = (
            IfOk-at_ok (λ _. IsServed lines (Appends (g.O.Write.contents c.args.out.now) (g.O.Write.contents c.serve_lines-answer.new.out))) c.in_ok-answer.was by.printed,
            IfOk-at_ok (λ _. AnswersScript (lent g.F.Device.Disk disk back) lines service.config.editors (g.O.Write.contents c.args.out.now) (g.O.Write.contents c.serve_lines-answer.new.out)) c.in_ok-answer.was by.one_list,
            by.left,
          );
        },
      );
      fault = tt;
      untouched = tt;
    }
