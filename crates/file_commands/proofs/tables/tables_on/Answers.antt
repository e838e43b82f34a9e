use Rattle.std.proofs.Common.{inl, inr, rules, subst}
use Rattle.graph_edits.specs.Edges.{Network}
use Rattle.table_files.specs.Files.{PutBy}
use Rattle.file_commands.specs.Endings.{IsCheckDeviceFault, IsWordsFault}
use Rattle.file_commands.specs.Queries.{AnswersIn, IsSchemeIn}
use Rattle.file_commands.specs.SchemeAnswers.{IsSchemeBy}
use Rattle.file_commands.proofs.Faults.{words_tell}
use Rattle.file_commands.proofs.SchemeAnswering.{answers_asked}
use Rattle.file_commands.proofs.Tabling.{tables_end, tables_printed}
use Rattle.file_commands.proofs.tables.tables_on.Goals as goal

pub returns : goal.returns
returns g c =
    let asked = c.args.asked.now in
    let answer = c.ask_device-answer.result.0 in
    let put = PutBy g.T.TableFiles.puts c.args.tables.now c.put_found.new.tables in
    let disk = g.D.Disk.view c.args.disk in
    let left = g.D.Disk.view c.ask_device-answer.result.1 in
    let by = answers_asked asked IsSchemeIn IsWordsFault IsCheckDeviceFault _ disk left answer c.ask_device-answer.ensures
    (λ state found gives.
    let said : AnswersIn gives.0.now asked (IsSchemeBy gives.0.now state.count asked) (IsWordsFault asked) found = search (rules, gives.1) in
    subst (λ (m : Network). AnswersIn m asked (IsSchemeBy m state.count asked) (IsWordsFault asked) found) gives.2 said)
    (words_tell asked) (λ never. never) (λ fault is. inr is) (λ fault is. inl is) in
    record {
      ran = by.reading.ran;
      leaves = by.reading.reads;
      ends = record {
        printed = tables_printed c.put_found.result answer asked c.args.folder.now c.args.named.now put disk left (g.O.Write.contents c.args.out.now) (g.O.Write.contents c.put_found.new.out) by c.put_found.ensures.printed;
        fault = tables_end c.put_found.result answer asked c.args.folder.now c.args.named.now put disk left by c.put_found.ensures.fault;
        untouched = c.put_found.ensures.untouched;
      };
    }
