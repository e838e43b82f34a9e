use Rattle.std.proofs.Common.{inl, inr, rules, subst, IsErrOf}
use Rattle.graph_edits.specs.Edges.{Network}
use Rattle.command_output.specs.declared.fault.Fault.TheVariants.{NoNode}
use Rattle.file_commands.specs.Endings.{IsRouteDeviceFault, IsRouteFault}
use Rattle.file_commands.specs.Queries.{AnswersIn, AreRoutesIn, LacksNode}
use Rattle.file_commands.specs.SchemeAnswers.{AreRoutesOf}
use Rattle.file_commands.proofs.Faults.{route_tells}
use Rattle.file_commands.proofs.SchemeAnswering.{answers_asked, lacks_asked}
use Rattle.file_commands.proofs.scheme_tasks.route_device.Goals as goal

pub returns-clause-routes : goal.returns-clause-routes
returns-clause-routes g c =
    let asked = c.args.asked.now in
    let pairs = c.args.pairs.now in
    answers_asked asked (AreRoutesIn pairs) IsRouteFault IsRouteDeviceFault _ (g.D.Disk.view c.args.disk) (g.D.Disk.view c.ask_device.result.1) c.ask_device.result.0 c.ask_device.ensures
    (λ state found gives.
    let said : AnswersIn gives.0.now asked (λ routes. AreRoutesOf gives.0.now asked pairs routes.items) (IsRouteFault asked) found = search (rules, gives.1) in
    subst (λ (m : Network). AnswersIn m asked (λ routes. AreRoutesOf m asked pairs routes.items) (IsRouteFault asked) found) gives.2 said)
    (route_tells asked) (λ never. never) (λ fault is. inr is) (λ fault is. inl is)

pub returns-clause-no_node : goal.returns-clause-no_node
returns-clause-no_node g c =
    let asked = c.args.asked.now in
    let pairs = c.args.pairs.now in
    lacks_asked asked pairs _ (g.D.Disk.view c.args.disk) (g.D.Disk.view c.ask_device.result.1) c.ask_device.result.0 c.ask_device.ensures
    (λ state found gives.
    let said : IsErrOf found NoNode → LacksNode asked pairs gives.0.now.nodes = search (rules, gives.1) in
    subst (λ (m : Network). IsErrOf found NoNode → LacksNode asked pairs m.nodes) gives.2 said)
