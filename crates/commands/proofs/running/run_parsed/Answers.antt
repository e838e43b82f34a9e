use Rattle.std.proofs.Common.{◌≡◌, ◌∙◌, ℕ, ap, refl, sym, subst, Option, Some, None}
use Rattle.command_line.specs.declared.task.Task.{Task}
use Rattle.command_line.specs.declared.task.Task.TheVariants.{Serve}
use Rattle.commands.specs.Serves.{EndsServe, IsLiveService, PrintsServed}
use Rattle.commands.specs.Runs.{IsOutcomeOf, MayEnd, PrintedFor}
use Rattle.file_commands.specs.Events.{HasDone}
use Rattle.table_files.specs.Files.{PutBy}
use Rattle.file_commands.specs.Tasks.{IsService}
use Rattle.file_commands.specs.Uses.{stream}
use Rattle.commands.proofs.ToldRuns.{at_rest, told_behind, told_so}
use Rattle.commands.proofs.running.run_parsed.Goals as goal

pub returns-in_default-clause-runs : goal.returns-in_default-clause-runs
returns-in_default-clause-runs g c =
    let done = HasDone g.P.Devices.Devices.opened g.P.Devices.Devices.events c.args.at.devices.now c.run_task-ended.new.devices in
    let put = PutBy g.P.Tables.TableFiles.puts c.args.at.tables.now c.run_task-ended.new.tables in
    let given = g.S.Read.remaining c.args.streams.script.now in
    let old = g.O.Write.contents c.args.streams.out.now in
    let new = g.O.Write.contents c.run_task-ended.new.out in
    let told_old = g.E.FaultWriter.contents c.args.streams.err.now in
    let told_new = g.E.FaultWriter.contents c.told-in_default.new.err in
    let ends = at_rest g.P.Devices.Device.Disk done put c.args.task given (stream g.O.Write.contents c.args.streams.out.now c.run_task-ended.new.out) c.run_task-ended.result c.run_task-ended.ensures.ends in
    record {
      outcome = told_so (λ ended. PrintedFor g.P.Devices.Device.Disk done put c.args.task given ended old new) (λ fault. MayEnd g.P.Devices.Device.Disk done put c.args.task given old new fault) told_old told_new
          c.run_task-ended.result c.told-in_default.result c.told-in_default.ensures.told ends.printed ends.fault;
      untouched = λ other. told_behind (c.run_task-ended.new.out ≡ c.args.streams.out.now) told_old told_new c.run_task-ended.result c.told-in_default.result c.told-in_default.ensures.told ends.untouched;
      unread = λ other. refl {a = c.args.streams.script.now};
    }

pub returns-in-None-clause-runs : goal.returns-in-None-clause-runs
returns-in-None-clause-runs g c =
    let w = c.in-Serve in
    let whole : c.args.task ≡ Serve w.device w.editors w.forwarders w.places None w.words = w.is ∙ ap (λ (l : Option ℕ). Serve w.device w.editors w.forwarders w.places l w.words) c.in-None.is in
    let done = HasDone g.P.Devices.Devices.opened g.P.Devices.Devices.events c.args.at.devices.now c.run_serve-ended.new.devices in
    let put = PutBy g.P.Tables.TableFiles.puts c.args.at.tables.now c.args.at.tables.now in
    let given = g.S.Read.remaining c.args.streams.script.now in
    let old = g.O.Write.contents c.args.streams.out.now in
    let new = g.O.Write.contents c.run_serve-ended.new.out in
    let told_old = g.E.FaultWriter.contents c.args.streams.err.now in
    let told_new = g.E.FaultWriter.contents c.told.new.err in
    let ends = c.run_serve-ended.ensures in
    record {
      outcome = subst (λ (t : Task). IsOutcomeOf g.P.Devices.Device.Disk done put t given old new told_old told_new c.told.result) (sym whole)
          (told_so (λ ended. PrintsServed g.P.Devices.Device.Disk done w.device.now given w.editors ended old new) (λ fault. EndsServe g.P.Devices.Device.Disk done w.device.now given w.editors w.words old new fault) told_old told_new
          c.run_serve-ended.result c.told.result c.told.ensures.told ends.printed ends.fault);
      untouched = λ other. told_behind (c.run_serve-ended.new.out ≡ c.args.streams.out.now) told_old told_new c.run_serve-ended.result c.told.result c.told.ensures.told ends.untouched;
      unread = λ other. absurd (other (subst IsService (sym whole) tt));
    }

pub returns-in-Some-clause-runs : goal.returns-in-Some-clause-runs
returns-in-Some-clause-runs g c =
    let w = c.in-Serve in
    let whole : c.args.task ≡ Serve w.device w.editors w.forwarders w.places (Some c.in-Some.rounds) w.words = w.is ∙ ap (λ (l : Option ℕ). Serve w.device w.editors w.forwarders w.places l w.words) c.in-Some.is in
    let done = HasDone g.P.Devices.Devices.opened g.P.Devices.Devices.events c.args.at.devices.now c.run_live.new.at.0 in
    let put = PutBy g.P.Tables.TableFiles.puts c.args.at.tables.now c.run_live.new.at.1.1.0 in
    record {
      outcome = subst (λ (t : Task). IsOutcomeOf g.P.Devices.Device.Disk done put t (g.S.Read.remaining c.args.streams.script.now) (g.O.Write.contents c.args.streams.out.now) (g.O.Write.contents c.run_live.new.streams.1.0) (g.E.FaultWriter.contents c.args.streams.err.now) (g.E.FaultWriter.contents c.run_live.new.streams.1.1.0) c.run_live.result) (sym whole) c.run_live.ensures.runs;
      untouched = λ other. absurd (other (subst IsLiveService (sym whole) tt));
      unread = λ other. absurd (other (subst IsService (sym whole) tt));
    }

pub returns-in-Some-clause-unput : goal.returns-in-Some-clause-unput
returns-in-Some-clause-unput g c other batch =
    let w = c.in-Serve in
    let whole : c.args.task ≡ Serve w.device w.editors w.forwarders w.places (Some c.in-Some.rounds) w.words = w.is ∙ ap (λ (l : Option ℕ). Serve w.device w.editors w.forwarders w.places l w.words) c.in-Some.is in
    absurd (batch (subst IsLiveService (sym whole) tt))

pub returns-in-Some-clause-unmade : goal.returns-in-Some-clause-unmade
returns-in-Some-clause-unmade g c batch =
    let w = c.in-Serve in
    let whole : c.args.task ≡ Serve w.device w.editors w.forwarders w.places (Some c.in-Some.rounds) w.words = w.is ∙ ap (λ (l : Option ℕ). Serve w.device w.editors w.forwarders w.places l w.words) c.in-Some.is in
    absurd (batch (subst IsLiveService (sym whole) tt))
