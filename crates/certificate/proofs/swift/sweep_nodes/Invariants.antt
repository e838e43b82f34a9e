use Rattle.certificate.proofs.Words.{GoOn}
use Rattle.certificate.proofs.swift.sweep_nodes.Given as goal

abbrev pub invariant-loop-x : goal.invariant-loop-x
invariant-loop-x l = GoOn l.graph l.scheme l.initial.places l.places
