use denote.Param.Send.{sendable}
use Rattle.std.proofs.Common.{◌≡◌, ◌∙◌, ap, rules, subst, sym}
use Rattle.std.proofs.Crossing.{crosses}
use Rattle.clap.specs.Walk.{texts}
use Rattle.device_files.proofs.Sending.{file_send}
use Rattle.file_commands.specs.Devices.{AreFiles}
use Rattle.file_commands.specs.Uses.{stream}
use Rattle.table_files.specs.Files.{PutBy}
use Rattle.commands.proofs.Answering.{says, says_too}
use Rattle.commands.proofs.running.run_files.Goals as goal

pub new-at-requires-send-F-Device : goal.new-at-requires-send-F-Device
new-at-requires-send-F-Device g c κs within = search (crosses, sendable, file_send) depth 60

pub run_lent-requires-send-P-Devices-Device : goal.run_lent-requires-send-P-Devices-Device
run_lent-requires-send-P-Devices-Device g c κs within = search (crosses, sendable, file_send) depth 60

pub run_lent-requires-send-P-Backups : goal.run_lent-requires-send-P-Backups
run_lent-requires-send-P-Backups g c κs within =
    let r = c.type_bounds.sync-R in
    search (crosses, sendable) depth 80 fits 50000

pub run_lent-requires-send-P-Backups-Device : goal.run_lent-requires-send-P-Backups-Device
run_lent-requires-send-P-Backups-Device g c κs within = search (crosses, sendable, file_send) depth 60

pub returns-clause-says : goal.returns-clause-says
returns-clause-says g c =
    let puts = g.T.TableFiles.puts in
    let left = c.run_lent.new.at.1.1.0 in
    let lent = PutBy puts c.new-at.result.tables.now left in
    let back : c.tables-1.given.0 ≡ left = search rules in
    let put = PutBy puts c.args.tables.now c.tables-1.given.0 in
    let script = stream g.S.Read.remaining c.args.script.now c.run_lent.new.streams.0 in
    let out = stream g.O.Write.contents c.args.out.now c.run_lent.new.streams.1.0 in
    says_too _ _ AreFiles lent put (texts c.args.words.now) script out c.status.result (λ events did. did.each)
    (λ files is. subst (λ t. PutBy puts c.args.tables.now t files) (sym back) (subst (λ t. PutBy puts t left files) c.new-at.ensures.tables is))
    (says _ _ lent (texts c.args.words.now) script out (stream _ c.new-faults.result c.run_lent.new.streams.1.1.0) c.run_lent.result c.status.result c.run_lent.ensures.runs c.status.ensures.value c.status.ensures.few)

pub returns-clause-unput : goal.returns-clause-unput
returns-clause-unput g c other batch =
    let back : c.tables-1.given.0 ≡ c.run_lent.new.at.1.1.0 = search rules in
    ap g.T.TableFiles.puts back ∙ (c.run_lent.ensures.unput other batch ∙ ap g.T.TableFiles.puts c.new-at.ensures.tables)
