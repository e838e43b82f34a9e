use Rattle.std.proofs.Common.{sym, subst}
use Rattle.network_load.specs.Networks.{IsNoNetwork}
use Rattle.network_load.proofs.Added.{just_none, just_to, none_of}
use Rattle.network_load.proofs.network.network_of.Goals as goal

pub loop-place-init : goal.loop-place-init
loop-place-init c = just_none c.args.nodes c.in_ok-graph.graph c.in_ok-graph.ensures

pub loop-place-preserved : goal.loop-place-preserved
loop-place-preserved c =
    just_to c.args.nodes c.args.edges.now c.loop-place.place (record { line = 0; a = 0; b = 0; weight = 0 }) c.loop-place.graph c.loop-place-test.true c.loop-place.invariant c.add.new.graph c.in_default.ensures.free c.in_default.ensures.added

pub returns-in-Err-clause-refused : goal.returns-in-Err-clause-refused
returns-in-Err-clause-refused c =
    subst (IsNoNetwork c.args.nodes c.args.edges.now) (sym c.refused_at.ensures)
    (none_of c.args.nodes c.args.edges.now c.loop-place.place (record { line = 0; a = 0; b = 0; weight = 0 }) c.loop-place.graph c.loop-place-test.true c.loop-place.invariant c.in-Err.refused c.in-Err.ensures.refused)
