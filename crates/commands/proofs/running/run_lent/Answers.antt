use Rattle.std.proofs.Common.{refl}
use Rattle.clap.specs.Walk.{texts}
use Rattle.table_files.specs.Files.{PutBy}
use Rattle.file_commands.specs.Events.{HasDone}
use Rattle.file_commands.proofs.OnDevices.{nothing_done}
use Rattle.commands.proofs.Serving.{may_run}
use Rattle.commands.proofs.ToldRuns.{asked_so, refused_for, refused_so}
use Rattle.commands.proofs.running.run_lent.Goals as goal

pub run_parsed-requires-after_bounds : goal.run_parsed-requires-after_bounds
run_parsed-requires-after_bounds g c κs within = may_run (texts c.args.words.now) c.in-Ok.task c.in-Ok.ensures.asked

pub returns-in-Ok-clause-runs : goal.returns-in-Ok-clause-runs
returns-in-Ok-clause-runs g c =
    let by = c.run_parsed.ensures.runs in
    let asked = c.in-Ok.ensures.asked in
    record {
      outcome = asked_so g.P.Devices.Device.Disk (HasDone g.P.Devices.Devices.opened g.P.Devices.Devices.events c.args.at.devices.now c.run_parsed.new.at.0) (PutBy g.P.Tables.TableFiles.puts c.args.at.tables.now c.run_parsed.new.at.1.1.0) (texts c.args.words.now) c.in-Ok.task (g.S.Read.remaining c.args.streams.script.now)
          (g.O.Write.contents c.args.streams.out.now) (g.O.Write.contents c.run_parsed.new.streams.1.0) (g.E.FaultWriter.contents c.args.streams.err.now) (g.E.FaultWriter.contents c.run_parsed.new.streams.1.1.0) c.run_parsed.result asked by.outcome;
      untouched = λ other. by.untouched (λ live. other (c.in-Ok.task, asked, live));
      unread = λ other. by.unread (λ service. other (c.in-Ok.task, asked, service));
    }

pub returns-in-Ok-clause-unput : goal.returns-in-Ok-clause-unput
returns-in-Ok-clause-unput g c other batch = c.run_parsed.ensures.unput (λ tables. other (c.in-Ok.task, c.in-Ok.ensures.asked, tables)) (λ live. batch (c.in-Ok.task, c.in-Ok.ensures.asked, live))

pub returns-in-Ok-clause-unmade : goal.returns-in-Ok-clause-unmade
returns-in-Ok-clause-unmade g c batch = c.run_parsed.ensures.unmade (λ live. batch (c.in-Ok.task, c.in-Ok.ensures.asked, live))

pub returns-in-Err-clause-runs : goal.returns-in-Err-clause-runs
returns-in-Err-clause-runs g c =
    let done = HasDone g.P.Devices.Devices.opened g.P.Devices.Devices.events c.args.at.devices.now c.args.at.devices.now in
    let put = PutBy g.P.Tables.TableFiles.puts c.args.at.tables.now c.args.at.tables.now in
    let given = g.S.Read.remaining c.args.streams.script.now in
    let old = g.O.Write.contents c.args.streams.out.now in
    let why = c.in-Err.ensures in
    record {
      outcome = refused_so g.P.Devices.Device.Disk done put (texts c.args.words.now) given old old (g.E.FaultWriter.contents c.args.streams.err.now) (g.E.FaultWriter.contents c.told.new.err) c.fault_of.result c.told.result c.told.ensures.told
          (refused_for g.P.Devices.Device.Disk done put (texts c.args.words.now) given old old c.in-Err.refused c.fault_of.result c.fault_of.ensures (nothing_done g.P.Devices.Devices.opened g.P.Devices.Devices.events c.args.at.devices.now) why.cause why.refused);
      untouched = λ batch fault other which. refl {a = c.args.streams.out.now};
      unread = λ other. refl {a = c.args.streams.script.now};
    }
