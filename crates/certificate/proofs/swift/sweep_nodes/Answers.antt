use Rattle.certificate.proofs.Words.{subst, sym, GoOn}
use Rattle.certificate.proofs.TreeLemmas.{goes_on, stays}
use Rattle.certificate.proofs.swift.sweep_nodes.Goals as goal
use Rattle.certificate.proofs.swift.sweep_nodes.Goals.{else-is_next-via-then-is_next+else-not-sweep, else-is_next-via-else-is_next}

pub returns-then-not-sweep : goal.returns-then-not-sweep
returns-then-not-sweep c = record { on = goes_on c.args.graph.now c.args.scheme.now c.args.places.now c.loop-x.places c.sweep.new.places c.loop-x.invariant c.sweep.ensures.on }

pub loop-x-preserved : goal.loop-x-preserved
loop-x-preserved c = goes_on c.args.graph.now c.args.scheme.now c.args.places.now c.loop-x.places c.else-is_next.places c.loop-x.invariant (elim c.else-is_next.branch [
  | else-is_next-via-then-is_next+else-not-sweep w ↦ subst (GoOn c.args.graph.now c.args.scheme.now c.loop-x.places) (sym w.places-is) w.sweep.ensures.on
  | else-is_next-via-else-is_next w ↦ subst (GoOn c.args.graph.now c.args.scheme.now c.loop-x.places) (sym w.places-is) (stays c.args.graph.now c.args.scheme.now c.loop-x.places)
])
