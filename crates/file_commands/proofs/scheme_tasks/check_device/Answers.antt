use Rattle.std.proofs.Common.{inl, inr, rules, subst}
use Rattle.graph_edits.specs.Edges.{Network}
use Rattle.file_commands.specs.Endings.{IsCheckDeviceFault, IsWordsFault}
use Rattle.file_commands.specs.Queries.{AnswersIn, IsCheckIn}
use Rattle.file_commands.specs.SchemeAnswers.{IsCheckOf}
use Rattle.file_commands.proofs.Faults.{words_tell}
use Rattle.file_commands.proofs.SchemeAnswering.{answers_asked}
use Rattle.file_commands.proofs.scheme_tasks.check_device.Goals as goal

pub returns : goal.returns
returns g c =
    let asked = c.args.asked.now in
    answers_asked asked IsCheckIn IsWordsFault IsCheckDeviceFault _ (g.D.Disk.view c.args.disk) (g.D.Disk.view c.ask_device.result.1) c.ask_device.result.0 c.ask_device.ensures
    (λ state found gives.
    let said : AnswersIn gives.0.now asked (IsCheckOf gives.0.now state.count asked) (IsWordsFault asked) found = search (rules, gives.1) in
    subst (λ (m : Network). AnswersIn m asked (IsCheckOf m state.count asked) (IsWordsFault asked) found) gives.2 said)
    (words_tell asked) (λ never. never) (λ fault is. inr is) (λ fault is. inl is)
